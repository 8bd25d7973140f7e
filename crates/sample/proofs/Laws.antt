-- What stands between two samples of 16 bits has 18. Then what a word stands for, by the bit that says how; that no other bit matters
-- to it; that of the bits only the bank's matter to a fetch; a word below the last of its bank that is lent; how many of a fetch's words are
-- missing; and that four banks have them all. Assumes nothing.
use mathlib.Core.Path.{◌≡◌, refl, sym, ap, subst, ◌∙◌}
use mathlib.Core.Bool.{Bool, true, false, cond}
use mathlib.Core.List.{List}
use Prim.Native.Nat.{ℕ, suc, ◌+◌, ◌-◌, ◌*◌, ◌/◌, ◌%◌, ◌<◌, ◌≤◌}
use native.Mathlib.Nat.{mul-le-mul_left, mul-le-mul_right, le_of_lt}
use native.Mathlib.Omega.{arith}
use borrow.Author.Tests.{lt-ltb, le-ltb}
use lib.Dec.{lit<, ltb}
use lib.ListN.{length, get_or, get_or-eq_default}
use mir.Syntax.{w16}
use mir.Val.{to_z, sel}
use lib.IntN.{ℤ, pos, negsuc, ◌+ℤ◌, ◌-ℤ◌, ◌*ℤ◌}
use Rattle.numbers.specs.Numbers.{floor_div, signed, Bits}
use Rattle.numbers.proofs.Difference.{◌⊖◌, is_neg, ⊖_eq, ⊖-add, ⊖-sub, ⊖-mul}
use Rattle.numbers.proofs.Words.{biased, bits-⊖, floor_up, pos-sub}
use Rattle.codes.specs.Codes.{value_of}
use Rattle.control.specs.Control.{flag_of, bank_of, cmpd_bit}
use Rattle.sample.specs.Sample.{MemoryWord, Words, most_memory_words, word_at, first_at, second_at, sample_of, fetched, missing_of, interpolated}
use Rattle.sample.specs.Lasts.{last_of, Lasts}

-- the value between two samples that are moved up to be no numbers below zero
module _ (f p q : ℕ) (hf : f < 512) (hp : p < 65536) (hq : q < 65536) where
  abbrev part : ℕ
  part = (f * q + (262144 * 128 - f * p)) / 128

  below : f * p ≤ 262144 * 128
  below = let m : f * p ≤ 512 * p = mul-le-mul_right p (le_of_lt hf) in omega arith

  interpolated-⊖ : interpolated f (p ⊖ 32768) (q ⊖ 32768) ≡ (4 * p + part) ⊖ (4 * 32768 + 262144)
  unfolding interpolated
  interpolated-⊖ =
      let d : (q ⊖ 32768) -ℤ (p ⊖ 32768) ≡ q ⊖ p = ⊖-sub q 32768 p 32768 ∙ ⊖_eq (q + 32768) (32768 + p) q p (omega arith) in
      let g : floor_div (pos f *ℤ ((q ⊖ 32768) -ℤ (p ⊖ 32768))) 128 ≡ part ⊖ 262144 =
      ap (λ (z : ℤ). floor_div (pos f *ℤ z) 128) d ∙ ap (λ (z : ℤ). floor_div z 128) (⊖-mul f q p) ∙ floor_up (f * q) (f * p) 262144 128 (lit< tt) below in
      (λ i. ⊖-mul 4 p 32768 i +ℤ g i) ∙ ⊖-add (4 * p) (4 * 32768) part 262144

  interpolated_fits : Bits 18 ((4 * p + part) ⊖ (4 * 32768 + 262144))
  interpolated_fits =
      let e = 65535 - p in
      let m₁ : f * p ≤ 512 * p = mul-le-mul_right p (le_of_lt hf) in
      let m₂ : f * q ≤ f * 65535 = mul-le-mul_left f (omega arith) in
      let m₃ : f * e ≤ 512 * e = mul-le-mul_right e (le_of_lt hf) in
      let m₄ : f * (e + p) ≡ f * 65535 = ap (λ (x : ℕ). f * x) (omega arith) in
      bits-⊖ 18 (4 * p + part) (4 * 32768 + 262144) (omega arith) (omega arith)

pub interpolated-bits : (f : ℕ) (x y : ℤ) → f < 512 → Bits 16 x → Bits 16 y → Bits 18 (interpolated f x y)
interpolated-bits f x y hf hx hy =
    let a = biased 32768 x hx.bits in
    let b = biased 32768 y hy.bits in
    subst (Bits 18) (sym ((λ i. interpolated f (a.2 i) (b.2 i)) ∙ interpolated-⊖ f a.0 b.0 hf a.1 b.1))
    (interpolated_fits f a.0 b.0 hf a.1 b.1)

pub compressed_word : (CR w : ℕ) → flag_of cmpd_bit CR ≡ true → sample_of CR w ≡ value_of (w / 256)
unfolding sample_of
compressed_word CR w t = rw t

pub linear_word : (CR w : ℕ) → flag_of cmpd_bit CR ≡ false → sample_of CR w ≡ signed 16 w
unfolding sample_of
linear_word CR w t = rw t

-- the 16 bits of a word, as a signed number
pub signed_16 : (w : ℕ) → w < 65536 → to_z w16 w ≡ signed 16 w
unfolding signed
signed_16 w h = by (ltb w 32768)
  where
    by : (b : Bool) → sel b (pos w) (negsuc (65536 - suc w)) ≡ cond b (pos w) (pos w -ℤ pos 65536)
    by true = refl
    by false = sym (pos-sub w 65536 ∙ is_neg w 65536 (65536 - suc w) (omega arith))

-- what a word stands for depends on CMPD alone, and a fetch on the bank
pub sample_coded : (c d w : ℕ) → flag_of cmpd_bit c ≡ flag_of cmpd_bit d → sample_of c w ≡ sample_of d w
unfolding sample_of
sample_coded c d w e = rw e

pub fetched_bank : (memory : List ℕ) (c d ACCUM : ℕ) → bank_of c ≡ bank_of d → fetched memory c ACCUM ≡ fetched memory d ACCUM
unfolding fetched first_at second_at
fetched_bank memory c d ACCUM e = rw e

-- below the last word of the bank, the next word is the next in memory, and is lent
pub below_last : (n b i : ℕ) {lasts : List ℕ} {at : ℕ} → Lasts n lasts → b < 4 → i < 2097152 → at ≡ b * 2097152 + i → at < get_or lasts b 0
    → (at + 1 ≡ b * 2097152 + (i + 1) % 2097152) × (at + 1 < n)
unfolding last_of
below_last n b i l h g e k = let f = l.each b h in (omega arith, omega arith)

-- ---- missing words

-- a word of the memory that is there
pub word_there : (memory : List ℕ) (i : ℕ) → i < length memory → record { bits = get_or memory i 0; there = true } ≡ word_at memory i
word_there memory i h = ap (λ (t : Bool). record { bits = get_or memory i 0; there = t }) (sym (lt-ltb i _ (omega arith)))

-- one that is not
pub word_missing : (memory : List ℕ) (i : ℕ) → length memory ≤ i → record { bits = 0; there = false } ≡ word_at memory i
word_missing memory i h =
    let b : 0 ≡ get_or memory i 0 = sym (get_or-eq_default memory 0 h) in
    let t : false ≡ ltb i (length memory) = sym (le-ltb i _ (omega arith)) in
    λ j. record { bits = b j; there = t j }

-- two words of a fetch
pub same_words : {a b c d : MemoryWord} → a ≡ b → c ≡ d → ◌≡◌ {A = Words} (record { first = a; second = c }) (record { first = b; second = d })
same_words e f = λ i. record { first = e i; second = f i }

pub one_most : (there : Bool) → cond there 0 1 ≤ 1
one_most true = omega arith
one_most false = omega arith

one_none : (there : Bool) → ◌≡◌ {A = ℕ} (cond there 0 1) 0 → there ≡ true
one_none true e = refl
one_none false e = absurd (let z : ⊥ = omega arith in z)

module _ (w : Words) where
  pub missing_most : missing_of w ≤ 2
  unfolding missing_of
  missing_most = omega (arith, one_most w.first.there, one_most w.second.there)

  pub missing_none : missing_of w ≡ 0 → (w.first.there ≡ true) × (w.second.there ≡ true)
  unfolding missing_of
  missing_none e = (one_none w.first.there (omega arith), one_none w.second.there (omega arith))

  pub missing_both : w.first.there ≡ true → w.second.there ≡ true → missing_of w ≡ 0
  unfolding missing_of
  missing_both p q = rw (p, q)

pub within_four_banks : (CR ACCUM : ℕ) → ACCUM < 4294967296 → (first_at CR ACCUM < most_memory_words) × (second_at CR ACCUM < most_memory_words)
unfolding first_at second_at
within_four_banks CR ACCUM h = (omega arith, omega arith)
