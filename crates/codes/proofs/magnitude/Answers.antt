-- `codes::magnitude` meets its contract, by what `^` makes of the sample and its sign. Assumes nothing.
use mathlib.Core.Path.{◌≡◌, sym, ap, subst, ◌∙◌}
use Prim.Native.Nat.{ℕ, ◌^◌, ◌<◌}
use native.Mathlib.Nat.{le_of_lt}
use lib.Bits.{bit_xor}
use lib.IntN.{ℤ, pos, nat_abs}
use lib.Signed.{mag, shr_z}
use mir.Syntax.{w16, w32}
use mir.Val.{SFits, to_z, of_z}
use mir.Facts.{to_z-of_z, sfits_widen}
use Rattle.numbers.proofs.Local.{Num, nat, as_nat}
use Rattle.numbers.proofs.LocalBits.{xor_sign}
use Rattle.codes.proofs.magnitude.Goals as goal

-- the bits of the magnitude, of a sample that stands in a local of 32 bits
module _ {z s : ℤ} (f : SFits w16 z) (e : s ≡ z) where
  abbrev made : ℕ
  made = bit_xor (of_z w32 s) (of_z w32 (shr_z (to_z w32 (of_z w32 s)) (2 ^ 31)))

  by_sign : made ≡ mag z
  by_sign =
      let k = sfits_widen {w' = w32} tt f in
      ap (λ (y : ℤ). bit_xor (of_z w32 y) (of_z w32 (shr_z (to_z w32 (of_z w32 y)) (2 ^ 31)))) e
      ∙ ap (λ (y : ℤ). bit_xor (of_z w32 z) (of_z w32 (shr_z y (2 ^ 31)))) (to_z-of_z {w = w32} k) ∙ xor_sign w32 k

  is_nat : Num w32 32768 (pos made) (to_z w32 made)
  is_nat = nat w32 32768 made tt (le_of_lt (subst (λ (n : ℕ). n < 32768) (sym by_sign) f.sfits))

pub overflow_cast-result : goal.overflow_cast-result
overflow_cast-result c = as_nat (is_nat c.ranges.sample (c.from-s.ensures ∙ to_z-of_z c.ranges.sample)) tt tt

pub returns : goal.returns
returns c =
    let s = c.from-s.ensures ∙ to_z-of_z c.ranges.sample in
    let e = ap nat_abs (is_nat c.ranges.sample s).is ∙ by_sign c.ranges.sample s in
    (e, subst (λ (n : ℕ). n < 32768) (sym e) c.ranges.sample.sfits)
