-- `codes::mantissa` meets its contract: the five bits that are on top of the shifted sample are the word of its quotient. Assumes nothing.
use mathlib.Core.Path.{◌≡◌, refl, ap, subst, ◌∙◌}
use Prim.Native.Nat.{ℕ, ◌+◌, ◌*◌, ◌%◌, ◌^◌, max}
use native.Mathlib.Nat.{mod-lt}
use native.Mathlib.Omega.{arith}
use lib.Pow.{pow_pos}
use lib.IntN.{ℤ}
use lib.Signed.{shr_z}
use mir.Syntax.{w16, w32}
use mir.Val.{SFits, to_z, of_z}
use mir.Facts.{Fits-of_z, to_z-of_z, sfits_to_z, sfits_widen}
use Rattle.numbers.specs.Numbers.{floor_div, word}
use Rattle.numbers.proofs.Within.{of_sfits}
use Rattle.numbers.proofs.Local.{shr}
use Rattle.numbers.proofs.LocalBits.{top_bits}
use Rattle.codes.specs.Exponent.{spacing}
use Rattle.codes.proofs.mantissa.Goals as goal

-- a sample that stands in a local of 32 bits, shifted to the left by k and back to the right until five bits are left: they are those of the
-- quotient by 2 ^ j, where k places to the left and 27 to the right come to j to the right
top_five : {z s : ℤ} (j k : ℕ) → SFits w16 z → s ≡ z → j + k ≡ 27
    → word 5 (to_z w32 (of_z w32 (shr_z (to_z w32 ((of_z w32 s * 2 ^ k) % 2 ^ 32)) (2 ^ 27)))) ≡ word 5 (floor_div z (2 ^ j))
top_five {z} {s} j k f is e =
    let g = sfits_to_z {w = w32} (record { fits = mod-lt (of_z w32 s * 2 ^ k) (pow_pos 32) }) in
    let h = sfits_widen {w' = w32} tt f in
    ap (word 5) (shr {w = w32} (2 ^ 27) (record { is = refl; size = of_sfits g }) tt).num.is
    ∙ ap (λ (y : ℤ). word 5 (floor_div (to_z w32 ((of_z w32 y * 2 ^ k) % 2 ^ 32)) (2 ^ 27))) is
    ∙ subst (λ (n : ℕ). word 5 (floor_div (to_z w32 ((of_z w32 z * 2 ^ k) % 2 ^ 32)) (2 ^ n)) ≡ word 5 (floor_div (to_z w32 (of_z w32 z)) (2 ^ j))) e
    (top_bits w32 (of_z w32 z) (Fits-of_z h) 5 j k (omega arith))
    ∙ ap (λ (y : ℤ). word 5 (floor_div y (2 ^ j))) (to_z-of_z {w = w32} h)

pub returns : goal.returns
unfolding spacing
returns c =
    let five = top_five (3 + max 1 c.args.e) c.shift.result c.ranges.sample (c.from.ensures ∙ to_z-of_z c.ranges.sample) (omega arith) in
    (c.word_of.ensures.0 ∙ five, c.word_of.ensures.1)
