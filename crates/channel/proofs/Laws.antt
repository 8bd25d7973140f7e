-- Channel sums: the wrapped sum as a remainder, and that the order of addition does not matter, so that the order of the voices is
-- inaudible. Assumes nothing.
use mathlib.Core.Path.{◌≡◌, sym, ap, ◌∙◌}
use Prim.Native.Nat.{ℕ, ◌+◌, ◌%◌}
use native.Mathlib.Nat.{mod-add-mod, add-mod-mod}
use native.Mathlib.Omega.{arith}
use lib.IntN.{+ℤ_comm}
use Rattle.numbers.specs.Numbers.{signed, word}
use Rattle.numbers.proofs.Words.{word_sum}
use Rattle.channel.specs.Channel.{mixed}

pub mixed_is : (a b : ℕ) → mixed a b ≡ (a + b) % 8388608
unfolding mixed
mixed_is a b = word_sum 23 a b

pub mixed_comm : (a b : ℕ) → mixed a b ≡ mixed b a
unfolding mixed
mixed_comm a b = ap (word 23) (+ℤ_comm (signed 23 a) (signed 23 b))

pub mixed_assoc : (a b c : ℕ) → mixed (mixed a b) c ≡ mixed a (mixed b c)
mixed_assoc a b c =
    mixed_is (mixed a b) c ∙ ap (λ (x : ℕ). (x + c) % 8388608) (mixed_is a b) ∙ mod-add-mod (a + b) 8388608 c
    ∙ ap (λ (x : ℕ). x % 8388608) (omega arith)
    ∙ sym (mixed_is a (mixed b c) ∙ ap (λ (x : ℕ). (a + x) % 8388608) (mixed_is b c) ∙ add-mod-mod a (b + c) 8388608)

-- two voices may be added in either order
pub mixed_swap : (s a b : ℕ) → mixed (mixed s a) b ≡ mixed (mixed s b) a
mixed_swap s a b = mixed_assoc s a b ∙ ap (mixed s) (mixed_comm a b) ∙ sym (mixed_assoc s b a)
