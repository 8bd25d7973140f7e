-- Numbers in decimal: what `{}` writes of a number is its decimal, in any number of digits that is enough; and how long a decimal is.
-- Assumes nothing.
use mathlib.Core.Path.{◌≡◌, refl, ap, ◌∙◌}
use mathlib.Core.List.{List, [], ◌∷◌, ◌++◌}
use Prim.Native.Nat.{ℕ, zero, suc, ◌+◌, ◌/◌, ◌%◌, ◌^◌, ◌<◌, ◌≤◌}
use native.Mathlib.Nat.{pow-suc}
use native.Mathlib.Omega.{arith}
use borrow.Author.Tests.{lt-ltb, le-ltb, ltb-false}
use lib.Dec.{ltb}
use lib.IntN.{ℤ, pos, negsuc, nat_abs}
use lib.ListN.{length, length-append}
use Rattle.std.specs.Fmt.{signed_decimal}
use Rattle.std.specs.Fmt as fmt
use Rattle.std.proofs.lemmas.Bool.Decides.{nat_tests}
use Rattle.std.proofs.lemmas.Fmt.{decimal_digit, decimal_step}
use Rattle.numbers.proofs.Tests.{either, cases}
use Rattle.chart.specs.Chart.{decimal_in, number}

-- a number of more than one digit has one digit more than its tenth
shorter : (j n : ℕ) → 10 ≤ n → n < 10 ^ suc j → (0 < j) × (n / 10 < 10 ^ j)
shorter zero n l h = absurd (let z : ⊥ = omega arith in z)
shorter (suc j) n l h = (omega arith, omega (arith, pow-suc 10 (suc j)))

pub decimal_is : (k n : ℕ) → 0 < k → n < 10 ^ k → n < 2 ^ 64 → fmt.decimal n ≡ decimal_in k n
unfolding decimal_in
decimal_is zero n p h l = absurd (let z : ⊥ = omega arith in z)
decimal_is (suc k) n p h l = cases n 10 (fmt.decimal n ≡ decimal_in (suc k) n)
    (λ a. rw (lt-ltb n 10 a) (decimal_digit n a))
    (λ a. let s = shorter k n a h in
    rw (le-ltb n 10 a) (decimal_step n a l ∙ ap (λ (xs : List ℕ). xs ++ (48 + n % 10) ∷ []) (decimal_is k (n / 10) s.0 s.1 (omega arith))))

-- a number above 0, whose decimal it is
above_is : (n : ℕ) (xs : List ℕ) → xs ≡ decimal_in 5 (suc n) → xs ≡ number (pos (suc n))
above_is n xs e = grind (arith, nat_tests)

above : (n : ℕ) → suc n < 100000 → signed_decimal (pos (suc n)) ≡ number (pos (suc n))
above n h = above_is n (fmt.decimal (suc n)) (decimal_is 5 (suc n) (omega arith) (omega arith) (omega arith))

pub number_is : (z : ℤ) → nat_abs z < 100000 → signed_decimal z ≡ number z
number_is (pos zero) h = decimal_is 5 0 (omega arith) (omega arith) (omega arith)
number_is (pos (suc n)) h = above n (omega arith)
number_is (negsuc n) h = ap (λ (xs : List ℕ). 45 ∷ xs) (decimal_is 5 (suc n) (omega arith) (omega arith) (omega arith))

-- a number below 10 ^ j has at most j digits
pub decimal-length : (k j n : ℕ) → 0 < j → n < 10 ^ j → length (decimal_in k n) ≤ j
unfolding decimal_in
decimal-length zero j n p h = omega arith
decimal-length (suc k) zero n p h = absurd (let z : ⊥ = omega arith in z)
decimal-length (suc k) (suc j) n p h =
    either (λ (xs : List ℕ). length xs ≤ suc j) (ltb n 10) ((48 + n) ∷ []) (decimal_in k (n / 10) ++ (48 + n % 10) ∷ [])
    (λ t. omega arith)
    (λ t. let s = shorter j n (ltb-false n 10 t) h in simp length-append (omega (arith, decimal-length k j (n / 10) s.0 s.1)))

-- and a number one more for its sign
pub number-length : (j : ℕ) (z : ℤ) → 0 < j → nat_abs z < 10 ^ j → length (number z) ≤ 1 + j
number-length j (pos zero) p h = omega (arith, decimal-length 5 j 0 p h)
number-length j (pos (suc n)) p h = omega (arith, decimal-length 5 j (suc n) p h, ap length (above_is n (decimal_in 5 (suc n)) refl))
number-length j (negsuc n) p h = omega (arith, decimal-length 5 j (suc n) p h)
