-- The poles keep 18 bits: a low pass lies between its input and its last output, and a high pass is held. Then poles 3 and 4 by
-- the bits that choose their kind, and that no other bit matters. Assumes nothing.
use mathlib.Core.Path.{◌≡◌, refl, sym, ap, subst, ◌∙◌}
use Prim.Native.Nat.{ℕ, ◌+◌, ◌-◌, ◌*◌, ◌/◌, ◌<◌, ◌≤◌, suc-le-suc}
use native.Mathlib.Nat.{mul-le-mul_left, mul-le-mul_right, le_of_lt}
use native.Mathlib.Omega.{arith}
use mathlib.Core.Bool.{true, false}
use lib.Dec.{lit<}
use lib.IntN.{ℤ, pos, ◌+ℤ◌, ◌*ℤ◌}
use Rattle.numbers.specs.Numbers.{floor_div, Bits}
use Rattle.numbers.proofs.Difference.{◌⊖◌, ⊖_eq, ⊖-add, ⊖-sub, ⊖-mul}
use Rattle.numbers.proofs.Words.{biased, bits-⊖, floor_up, held_mag}
use Rattle.numbers.proofs.Tests.{either}
use Rattle.control.specs.Control.{flag_of, lp3_bit, lp4_bit}
use Rattle.filter.specs.declared.Poles.{Poles}
use Rattle.filter.specs.Filter.{low_pass, high_pass, pole3, pole4, filtered}

-- a low pass of two numbers that are each moved up by 131072
low_⊖ : (k p q : ℕ) → k < 4096 → p < 262144 → q < 262144 → low_pass k (p ⊖ 131072) (q ⊖ 131072) ≡ (q + (k * p + (262144 * 4096 - k * q)) / 4096) ⊖ 393216
unfolding low_pass
low_⊖ k p q hk hp hq =
    let m : k * q ≤ 4096 * q = mul-le-mul_right q (le_of_lt hk) in
    ap (λ (z : ℤ). (q ⊖ 131072) +ℤ floor_div z 4096) (ap (λ (z : ℤ). pos k *ℤ z) (⊖-sub p 131072 q 131072 ∙ ⊖_eq (p + 131072) (131072 + q) p q (omega arith)) ∙ ⊖-mul k p q)
    ∙ ap (λ (z : ℤ). (q ⊖ 131072) +ℤ z) (floor_up (k * p) (k * q) 262144 4096 (lit< tt) (omega arith))
    ∙ ⊖-add q 131072 ((k * p + (262144 * 4096 - k * q)) / 4096) 262144

pub low_bits : (k : ℕ) (x y : ℤ) → k < 4096 → Bits 18 x → Bits 18 y → Bits 18 (low_pass k x y)
low_bits k x y hk hx hy =
    let a = biased 131072 x hx.bits in
    let b = biased 131072 y hy.bits in
    let p = a.0 in
    let q = b.0 in
    let hp : p < 262144 = a.1 in
    let hq : q < 262144 = b.1 in
    let e = 262143 - q in
    let m₁ : k * q ≤ 4096 * q = mul-le-mul_right q (le_of_lt hk) in
    let m₂ : k * p ≤ k * 262143 = mul-le-mul_left k (omega arith) in
    let m₃ : k * e ≤ 4096 * e = mul-le-mul_right e (le_of_lt hk) in
    let m₄ : k * (e + q) ≡ k * 262143 = ap (λ (x : ℕ). k * x) (omega arith) in
    subst (Bits 18) (sym ((λ i. low_pass k (a.2 i) (b.2 i)) ∙ low_⊖ k p q hk hp hq))
    (bits-⊖ 18 _ 393216 (omega arith) (omega arith))

pub high_bits : (k : ℕ) (x x' y : ℤ) → Bits 18 (high_pass k x x' y)
unfolding high_pass
high_bits k x x' y = record { bits = suc-le-suc (held_mag 131071 _) }

-- ---- poles 3 and 4 by their bits

module _ (cr k₁ k₂ : ℕ) (x x' y : ℤ) where
  pub pole4_low : flag_of lp4_bit cr ≡ true → pole4 cr k₂ x x' y ≡ low_pass k₂ x y
  unfolding pole4
  pole4_low t = rw t

  pub pole4_high : flag_of lp4_bit cr ≡ false → pole4 cr k₂ x x' y ≡ high_pass k₂ x x' y
  unfolding pole4
  pole4_high t = rw t

  pub pole3_one : flag_of lp3_bit cr ≡ true → pole3 cr k₁ k₂ x x' y ≡ low_pass k₁ x y
  unfolding pole3
  pole3_one t = rw t (either (λ z. z ≡ low_pass k₁ x y) (flag_of lp4_bit cr) (low_pass k₁ x y) (low_pass k₁ x y) (λ u. refl) (λ u. refl))

  -- where LP3 is 0, pole 3 is of pole 4's kind
  pub pole3-zero : flag_of lp3_bit cr ≡ false → pole3 cr k₁ k₂ x x' y ≡ pole4 cr k₂ x x' y
  unfolding pole3 pole4
  pole3-zero t = rw t

-- ---- the four outputs depend on those two bits of the control register alone

pub filtered_passes : (c d K₁ K₂ : ℕ) (x : ℤ) (p : Poles) → flag_of lp3_bit c ≡ flag_of lp3_bit d → flag_of lp4_bit c ≡ flag_of lp4_bit d → filtered c K₁ K₂ x p ≡ filtered d K₁ K₂ x p
unfolding filtered pole3 pole4
filtered_passes c d K₁ K₂ x p e f = rw (e, f)
