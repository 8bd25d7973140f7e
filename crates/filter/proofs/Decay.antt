-- How a high pass forgets its last output y, a number of 18 bits, where nothing comes in. Where k is 0 each frame leaves half, rounded down,
-- so that after 17 frames the pole is at rest: at 0 from above, at -1 from below. Whatever k is, the output stays between y and that rest.
-- In order: one frame, from above and from below; n frames where k is 0, and where they come to rest; n frames of any k. Assumes nothing.
use mathlib.Core.Path.{◌≡◌, refl, sym, ap, subst, ◌∙◌}
use Prim.Native.Nat.{ℕ, zero, suc, ◌+◌, ◌-◌, ◌*◌, ◌/◌, ◌^◌, ◌<◌, ◌≤◌, zero-le}
use native.Mathlib.Nat.{mul-le-mul_right, le_refl, le_trans, lt_of_lt_of_le, lt_of_le_of_lt, div-eq_of_lt, pow-suc}
use native.Mathlib.Omega.{arith}
use lib.Dec.{le→leb}
use lib.Pow.{pow_mono}
use lib.IntN.{ℤ, pos, negsuc, neg_ℤ, ◌+ℤ◌, +ℤ_idl}
use lib.Signed.{◌≤ℤ◌, le_z_yes}
use Rattle.numbers.specs.Numbers.{floor_div, held, minus, Bits}
use Rattle.numbers.proofs.Words.{held_same, floor_one, floor_floor}
use Rattle.filter.specs.Filter.{high_pass}
use Rattle.filter.specs.Decay.{decayed}
use Rattle.filter.proofs.Laws.{high_bits}

-- ---- one frame

-- from a, and from -(a + 1)
module _ (k : ℕ) (hk : k < 4096) (a : ℕ) where
  above_le : (4096 + k) * a / 8192 ≤ a
  above_le = let m : (4096 + k) * a ≤ 8192 * a = mul-le-mul_right a (omega arith) in omega (arith, m)

  below_le : ((4096 + k) * suc a - 1) / 8192 ≤ a
  below_le = let m : (4096 + k) * suc a ≤ 8192 * suc a = mul-le-mul_right (suc a) (omega arith) in omega (arith, m)

  frame_above : a < 131072 → high_pass k (pos 0) (pos 0) (pos a) ≡ pos ((4096 + k) * a / 8192)
  unfolding high_pass floor_div
  frame_above h = ap (λ (n : ℕ). held (minus 131072) (pos 131071) (pos n)) (omega arith) ∙ held_same 131071 (pos ((4096 + k) * a / 8192)) (omega (arith, above_le))

  frame_below : a < 131072 → high_pass k (pos 0) (pos 0) (negsuc a) ≡ negsuc (((4096 + k) * suc a - 1) / 8192)
  unfolding high_pass floor_div
  frame_below h =
      let n = (4096 + k) * suc a - 1 in
      let e : (4096 + k) * suc a ≡ suc n = omega arith in
      ap (λ (p : ℕ). held (minus 131072) (pos 131071) (pos 0 +ℤ floor_div (neg_ℤ (pos p)) 8192)) e
      ∙ ap (held (minus 131072) (pos 131071)) (+ℤ_idl (negsuc (n / 8192))) ∙ held_same 131071 (negsuc (n / 8192)) (omega (arith, below_le))

-- ---- n frames where k is 0

half : (y : ℤ) → Bits 18 y → high_pass 0 (pos 0) (pos 0) y ≡ floor_div y 2
unfolding floor_div
half (pos a) h = frame_above 0 (omega arith) a h.bits ∙ ap pos (omega arith)
half (negsuc a) h = frame_below 0 (omega arith) a h.bits ∙ ap negsuc (omega arith)

decayed-bits : (k n : ℕ) (y : ℤ) → Bits 18 y → Bits 18 (decayed k n y)
unfolding decayed
decayed-bits k zero y h = h
decayed-bits k (suc n) y h = high_bits k (pos 0) (pos 0) (decayed k n y)

-- all the frames round as one division does
pub halves : (n : ℕ) (y : ℤ) → Bits 18 y → decayed 0 n y ≡ floor_div y (2 ^ n)
unfolding decayed
halves zero y h = sym (floor_one y)
halves (suc n) y h =
    half (decayed 0 n y) (decayed-bits 0 n y h) ∙ ap (λ (z : ℤ). floor_div z 2) (halves n y h)
    ∙ floor_floor y (2 ^ n) 2 ∙ ap (floor_div y) (sym (pow-suc 2 n))

module _ (n : ℕ) (hn : 17 ≤ n) where
  gone : (a : ℕ) → a < 131072 → a / 2 ^ n ≡ 0
  gone a h = div-eq_of_lt (lt_of_lt_of_le h (pow_mono hn))

  pub rests_above : (y : ℤ) → Bits 18 y → pos 0 ≤ℤ y → decayed 0 n y ≡ pos 0
  unfolding floor_div
  rests_above (pos a) h side = halves n (pos a) h ∙ ap pos (gone a h.bits)
  rests_above (negsuc a) h side = absurd side.le

  pub rests_below : (y : ℤ) → Bits 18 y → y ≤ℤ minus 1 → decayed 0 n y ≡ minus 1
  unfolding floor_div
  rests_below (pos a) h side = absurd side.le
  rests_below (negsuc a) h side = halves n (negsuc a) h ∙ ap negsuc (gone a h.bits)

-- ---- n frames of any k

-- z is `s b` with b no greater than a, and so no farther out than `s a`; s is `pos` or `negsuc`
abbrev Nearer : (ℕ → ℤ) → ℕ → ℤ → Type 0
Nearer s a z = (b : ℕ) × (b ≤ a) × (z ≡ s b)

nearer : (k : ℕ) (s : ℕ → ℤ) → ((a : ℕ) → a < 131072 → Nearer s a (high_pass k (pos 0) (pos 0) (s a)))
    → (n a : ℕ) → a < 131072 → Nearer s a (decayed k n (s a))
unfolding decayed
nearer k s frame zero a h = (a, le_refl a, refl)
nearer k s frame (suc n) a h =
    let l = nearer k s frame n a h in
    let f = frame l.0 (lt_of_le_of_lt l.1 h) in
    (f.0, le_trans f.1 l.1, ap (high_pass k (pos 0) (pos 0)) l.2 ∙ f.2)

module _ (k : ℕ) (hk : k < 4096) (n : ℕ) where
  pub stays_above : (y : ℤ) → Bits 18 y → pos 0 ≤ℤ y → (pos 0 ≤ℤ decayed k n y) × (decayed k n y ≤ℤ y)
  stays_above (pos a) h side =
      let l = nearer k pos (λ b g. ((4096 + k) * b / 8192, above_le k hk b, frame_above k hk b g)) n a h.bits in
      subst (λ (z : ℤ). (pos 0 ≤ℤ z) × (z ≤ℤ pos a)) (sym l.2) (le_z_yes (le→leb 0 l.0 zero-le), le_z_yes (le→leb l.0 a l.1))
  stays_above (negsuc a) h side = absurd side.le

  pub stays_below : (y : ℤ) → Bits 18 y → y ≤ℤ minus 1 → (y ≤ℤ decayed k n y) × (decayed k n y ≤ℤ minus 1)
  stays_below (pos a) h side = absurd side.le
  stays_below (negsuc a) h side =
      let l = nearer k negsuc (λ b g. (((4096 + k) * suc b - 1) / 8192, below_le k hk b, frame_below k hk b g)) n a h.bits in
      subst (λ (z : ℤ). (negsuc a ≤ℤ z) × (z ≤ℤ minus 1)) (sym l.2) (le_z_yes (le→leb l.0 a l.1), le_z_yes (le→leb 0 l.0 zero-le))
