-- Laws of numbers written as bytes: the bytes of one that stands whole in a list, and a list's numbers by twos. Assumes nothing.
use mathlib.Core.Path.{◌≡◌, refl, ap, ◌∙◌}
use mathlib.Core.List.{List, [], ◌∷◌}
use Prim.Native.Nat.{ℕ, zero, suc, ◌+◌, ◌*◌, ◌≤◌, ◌<◌}
use native.Mathlib.Omega.{arith}
use lib.ListN.{length, get_or}
use Rattle.layout.specs.Parts.{part}
use Rattle.layout.specs.Bytes.{twos}
use Rattle.layout.proofs.Parts.{part-cons}

pub part_2 : (xs : List ℕ) (i : ℕ) → i + 2 ≤ length xs → part xs i 2 ≡ get_or xs i 0 ∷ get_or xs (i + 1) 0 ∷ []
part_2 xs i h = part-cons xs i 1 0 (omega arith) ∙ ap (λ (r : List ℕ). get_or xs i 0 ∷ r) (part-cons xs (i + 1) 0 0 (omega arith))

pub part_4 : (xs : List ℕ) (i : ℕ) → i + 4 ≤ length xs → part xs i 4 ≡ get_or xs i 0 ∷ get_or xs (i + 1) 0 ∷ get_or xs (i + 2) 0 ∷ get_or xs (i + 3) 0 ∷ []
part_4 xs i h =
    let e : i + 1 + 1 ≡ i + 2 = omega arith in
    let f : i + 2 + 1 ≡ i + 3 = omega arith in
    part-cons xs i 3 0 (omega arith)
    ∙ ap (λ (r : List ℕ). get_or xs i 0 ∷ r) (part-cons xs (i + 1) 2 0 (omega arith) ∙ ap (λ (r : List ℕ). get_or xs (i + 1) 0 ∷ r) (rw e (part_2 xs (i + 2) (omega arith) ∙ rw f)))

-- ---- by twos

module _ (order : List ℕ → ℕ) where
  pub twos-length : (bytes : List ℕ) (n : ℕ) → length bytes ≡ 2 * n → length (twos order bytes) ≡ n
  unfolding twos
  twos-length [] n h = omega arith
  twos-length (a ∷ []) n h = absurd (omega arith)
  twos-length (a ∷ b ∷ bytes) zero h = absurd (omega arith)
  twos-length (a ∷ b ∷ bytes) (suc n) h = ap suc (twos-length bytes n (omega arith))

  pub twos_at : (bytes : List ℕ) (i : ℕ) → i < length (twos order bytes) → get_or (twos order bytes) i 0 ≡ order (get_or bytes (2 * i) 0 ∷ get_or bytes (2 * i + 1) 0 ∷ [])
  unfolding twos
  twos_at [] i h = absurd (omega arith)
  twos_at (a ∷ []) i h = absurd (omega arith)
  twos_at (a ∷ b ∷ bytes) zero h = refl
  twos_at (a ∷ b ∷ bytes) (suc i) h =
      let e : 2 * suc i ≡ suc (suc (2 * i)) = omega arith in
      let f : suc (suc (2 * i)) + 1 ≡ suc (suc (2 * i + 1)) = omega arith in
      rw (e, f) (twos_at bytes i (omega arith))
