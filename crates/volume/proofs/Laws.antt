-- The two divisions of a volume are one: the exponent moves the mantissa to the left, in place of the quotient to the right.
-- In order: the mantissa so moved, and how great it is; the law. Assumes nothing.
use mathlib.Core.Path.{◌≡◌, sym, ap, ◌∙◌}
use Prim.Native.Nat.{ℕ, ◌+◌, ◌-◌, ◌*◌, ◌^◌, ◌≤◌, ◌<◌}
use native.Mathlib.Nat.{mul-le-mul}
use native.Mathlib.Omega.{arith}
use lib.IntN.{ℤ, pos, ◌*ℤ◌}
use lib.Pow.{pow_pos, pow_mono, pow-add}
use Rattle.numbers.specs.Numbers.{floor_div}
use Rattle.numbers.proofs.Words.{floor_floor, floor_shared}
use Rattle.volume.specs.Volume.{mantissa, exponent, volume_of}

unfoldable pub gain : ℕ → ℕ
gain VOL = 16 * (256 + mantissa VOL) * 2 ^ exponent VOL

module _ (VOL : ℕ) (h : VOL < 65536) where
  small : exponent VOL ≤ 15
  unfolding exponent
  small = omega arith

  pub gain_le : gain VOL ≤ 8176 * 32768
  unfolding gain mantissa
  gain_le = let m : 16 * (256 + mantissa VOL) ≤ 8176 = omega arith in mul-le-mul m (pow_mono small)

  -- what the moved mantissa and the two divisors share
  divisors : 16 * 2 ^ exponent VOL * (32 * 2 ^ (15 - exponent VOL)) ≡ 16777216
  divisors =
      let n : exponent VOL + (15 - exponent VOL) ≡ 15 = omega (arith, small) in
      let e : 2 ^ exponent VOL * 2 ^ (15 - exponent VOL) ≡ 32768 = sym (pow-add 2 (exponent VOL) (15 - exponent VOL)) ∙ ap (λ (k : ℕ). 2 ^ k) n in
      omega (arith, e)

  pub one_division : (o : ℤ) → floor_div (o *ℤ pos (gain VOL)) 16777216 ≡ volume_of VOL o
  unfolding gain volume_of
  one_division o =
      let k = 16 * 2 ^ exponent VOL in
      let d = 32 * 2 ^ (15 - exponent VOL) in
      let g : gain VOL ≡ (256 + mantissa VOL) * k = omega arith in
      (λ i. floor_div (o *ℤ pos (g i)) (sym divisors i))
      ∙ floor_shared o (256 + mantissa VOL) k d (omega (arith, pow_pos (exponent VOL)))
      ∙ sym (floor_floor (o *ℤ pos (256 + mantissa VOL)) 32 (2 ^ (15 - exponent VOL)))
