-- The line of a sample: how long its three numbers are, and the line as three fields, each a number and the byte after it. Then the lines
-- of an input: how long they are, those of one pair more, and of a last odd byte. Assumes nothing.
use mathlib.Core.Path.{◌≡◌, refl, sym, ap, ◌∙◌}
use mathlib.Core.List.{List, [], ◌∷◌, ◌++◌, append_assoc, append-nil}
use Prim.Native.Nat.{ℕ, zero, suc, ◌+◌, ◌*◌, ◌<◌, ◌≤◌}
use native.Mathlib.Numerals.{add-one}
use native.Mathlib.Omega.{arith}
use lib.Dec.{le→leb}
use lib.IntN.{ℤ, pos, negsuc}
use lib.ListN.{length, get_or, take, length-append}
use lib.Seq.{take-suc, take_all, length-take-le}
use lib.Signed.{◌≤ℤ◌}
use Rattle.std.specs.Simd.{first_chunks}
use Rattle.numbers.specs.Numbers.{minus, signed, Bits}
use Rattle.numbers.proofs.Within.{of_bits, of_sfits}
use Rattle.numbers.proofs.Words.{signed-bits}
use Rattle.codes.specs.Codes.{value_of, code_of}
use Rattle.codes.proofs.Samples.{code_of_compressed}
use Rattle.codes.proofs.Range.{value_fits}
use Rattle.chart.specs.Chart.{number, line, odd_byte, lines}
use Rattle.chart.proofs.Decimals.{decimal-length, number-length}

-- no sample is below the least value
pub sample_low : (s : ℤ) → Bits 16 s → minus 32768 ≤ℤ s
sample_low (pos n) h = record { le = tt }
sample_low (negsuc n) h = record { le = le→leb n 32767 (omega arith) }

module _ (s : ℤ) (h : Bits 16 s) where
  pub sample_length : length (number s) ≤ 6
  sample_length = number-length 5 s (omega arith) (omega (arith, of_bits h))

  pub code_small : code_of s < 256
  code_small = (code_of_compressed s (sample_low s h)).code

  pub code_length : length (number (pos (code_of s))) ≤ 3
  code_length = decimal-length 5 3 (code_of s) (omega arith) (omega (arith, code_small))

  pub value_length : length (number (value_of (code_of s))) ≤ 6
  value_length = number-length 5 (value_of (code_of s)) (omega arith) (omega (arith, of_sfits (value_fits (code_of s) code_small)))

  pub line-length : length (line s) ≤ 18
  unfolding line
  line-length = simp length-append (omega (arith, sample_length, code_length, value_length))

-- a number and the byte after it
abbrev pub field : ℤ → ℕ → List ℕ
field z b = number z ++ (b ∷ [])

pub line_fields : (s : ℤ) → field s 32 ++ field (pos (code_of s)) 32 ++ field (value_of (code_of s)) 10 ≡ line s
unfolding line
line_fields s = simp append_assoc

-- ---- the lines of an input

abbrev pub Bytes : List ℕ → Type 0
Bytes xs = (i : ℕ) → get_or xs i 0 < 256

pub bytes_take : (n : ℕ) (xs : List ℕ) → Bytes xs → Bytes (take n xs)
bytes_take zero xs h i = omega arith
bytes_take (suc n) [] h i = omega arith
bytes_take (suc n) (x ∷ xs) h zero = h 0
bytes_take (suc n) (x ∷ xs) h (suc i) = bytes_take n xs (λ j. h (suc j)) i

-- nine bytes for each byte of input hold its lines
pub lines-length : (xs : List ℕ) → Bytes xs → length (lines xs) ≤ 9 * length xs
unfolding lines
lines-length [] h = omega arith
lines-length (a ∷ []) h = omega arith
lines-length (a ∷ b ∷ xs) h =
    let s = signed-bits 16 (256 * a + b) (omega arith) (omega (arith, h 0, h 1)) in
    simp length-append (omega (arith, line-length (signed 16 (256 * a + b)) s, lines-length xs (λ i. h (suc (suc i)))))

-- the bytes of pair i
pub pair_at : (i n : ℕ) (xs : List ℕ) → i < n
    → (get_or (get_or (first_chunks 2 n xs) i []) 0 0 ≡ get_or xs (2 * i) 0) × (get_or (get_or (first_chunks 2 n xs) i []) 1 0 ≡ get_or xs (2 * i + 1) 0)
pair_at i zero xs h = absurd (let z : ⊥ = omega arith in z)
pair_at zero (suc n) [] h = (refl, refl)
pair_at zero (suc n) (a ∷ []) h = (refl, refl)
pair_at zero (suc n) (a ∷ b ∷ xs) h = (refl, refl)
pair_at (suc i) (suc n) [] h = pair_at i n [] (omega arith)
pair_at (suc i) (suc n) (a ∷ []) h =
    let two : 2 * suc i ≡ suc (suc (2 * i)) = omega arith in
    let three : 2 * suc i + 1 ≡ suc (suc (2 * i + 1)) = omega arith in
    rw (three, two) (pair_at i n [] (omega arith))
pair_at (suc i) (suc n) (a ∷ b ∷ xs) h =
    let two : 2 * suc i ≡ suc (suc (2 * i)) = omega arith in
    let three : 2 * suc i + 1 ≡ suc (suc (2 * i + 1)) = omega arith in
    rw (three, two) (pair_at i n xs (omega arith))

lines-append : (k : ℕ) (xs ys : List ℕ) → length xs ≡ 2 * k → lines (xs ++ ys) ≡ lines xs ++ lines ys
unfolding lines
lines-append k [] ys e = refl
lines-append k (a ∷ []) ys e = absurd (let z : ⊥ = omega arith in z)
lines-append zero (a ∷ b ∷ xs) ys e = absurd (let z : ⊥ = omega arith in z)
lines-append (suc k) (a ∷ b ∷ xs) ys e =
    ap (λ (l : List ℕ). line (signed 16 (256 * a + b)) ++ l) (lines-append k xs ys (omega arith))
    ∙ sym (append_assoc (line (signed 16 (256 * a + b))) (lines xs) (lines ys))

module _ (xs : List ℕ) (k : ℕ) where
  pub lines_more : 2 * k + 1 < length xs → lines (take (2 * (k + 1)) xs) ≡ lines (take (2 * k) xs) ++ line (signed 16 (256 * get_or xs (2 * k) 0 + get_or xs (2 * k + 1) 0))
  unfolding lines
  lines_more h =
      let a = get_or xs (2 * k) 0 in
      let b = get_or xs (2 * k + 1) 0 in
      let e : 2 * (k + 1) ≡ suc (2 * k + 1) = omega arith in
      ap lines (ap (λ (n : ℕ). take n xs) e ∙ take-suc xs (2 * k + 1) 0 h ∙ ap (λ (n : ℕ). take n xs ++ b ∷ []) (add-one (2 * k)) ∙ ap (λ (l : List ℕ). l ++ b ∷ []) (take-suc xs (2 * k) 0 (omega arith)) ∙ append_assoc (take (2 * k) xs) (a ∷ []) (b ∷ []))
      ∙ lines-append k (take (2 * k) xs) (a ∷ b ∷ []) (length-take-le (2 * k) xs (omega arith))
      ∙ ap (λ (l : List ℕ). lines (take (2 * k) xs) ++ l) (append-nil (line (signed 16 (256 * a + b))))

  pub lines_odd : length xs ≡ 2 * k + 1 → lines (take (2 * k) xs) ++ odd_byte ≡ lines xs
  unfolding lines
  lines_odd e =
      sym (lines-append k (take (2 * k) xs) (get_or xs (2 * k) 0 ∷ []) (length-take-le (2 * k) xs (omega arith)))
      ∙ ap lines (sym (take-suc xs (2 * k) 0 (omega arith)) ∙ take_all (suc (2 * k)) xs (omega arith))
