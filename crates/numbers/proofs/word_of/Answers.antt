-- `numbers::word_of` meets its contract: 2^29 is a multiple of 2^n, so moving z up by it changes no word. Assumes nothing.
use Rattle.std.proofs.Common.{arith, ◌≡◌, sym, ap, subst, ◌∙◌, ◌<◌, ◌≤◌, ◌^◌, ℕ, ◌+◌, ◌-◌, ◌*◌, ◌%◌, ℤ, pos, ◌+ℤ◌}
use lib.Pow.{pow-add}
use lib.IntN.{nat_abs}
use Rattle.numbers.specs.Numbers.{word, Within}
use Rattle.numbers.proofs.Local.{arg, lit, add}
use Rattle.numbers.proofs.Words.{bit_at, word_up, word_lt}
use Rattle.numbers.proofs.word_of.Goals as goal

-- 2^29 as a multiple of 2^n
up : (n : ℕ) → n ≤ 24 → 536870912 ≡ 2 ^ (29 - n) * 2 ^ n
up n h = let e : 29 ≡ 29 - n + n = omega arith in ap (λ (k : ℕ). 2 ^ k) e ∙ pow-add 2 (29 - n) n

moved : (n : ℕ) (z : ℤ) → n ≤ 24 → Within 536870912 z → nat_abs (z +ℤ pos 536870912) % 2 ^ n ≡ word n z
moved n z h k =
    let e = up n h in
    ap (λ (u : ℕ). nat_abs (z +ℤ pos u) % 2 ^ n) e ∙ word_up n (2 ^ (29 - n)) z (subst (λ (u : ℕ). Within u z) e k)

pub returns : goal.returns
returns c =
    let n = c.args.n in
    let sum = add (arg c.ranges.z c.requires.z_fits) (lit (pos 536870912)) tt in
    let is = ap (λ (z : ℤ). nat_abs z % 2 ^ n) sum.num.is ∙ moved n c.args.z c.requires.is_width c.requires.z_fits in
    rw (bit_at n c.requires.is_width) (is, subst (λ (w : ℕ). w < 2 ^ n) (sym is) (word_lt n c.args.z))
