-- Bytes stored from a place on. First as lists: two runs of stores, the second where the first ended, are one. Then as promises,
-- `Stored`: that law; and the length and the room that are left. Assumes nothing.
use mathlib.Core.Path.{◌≡◌, sym, ap, ap₂, subst, ◌∙◌}
use mathlib.Core.List.{List, [], ◌∷◌, ◌++◌}
use Prim.Native.Nat.{ℕ, suc, ◌+◌, ◌≤◌}
use native.Mathlib.Nat.{add-zero, add-suc, suc-add}
use native.Mathlib.Omega.{arith}
use lib.ListN.{length, set, length-append}
use lib.Seq.{sets, length-sets}
use Rattle.chart.specs.Chart.{Stored}

sets_append : (l : List ℕ) (a : ℕ) (xs ys : List ℕ) → sets (sets l a xs) (a + length xs) ys ≡ sets l a (xs ++ ys)
sets_append l a [] ys = ap (λ (k : ℕ). sets l k ys) (add-zero a)
sets_append l a (x ∷ xs) ys =
    ap (λ (k : ℕ). sets (sets (set l a x) (suc a) xs) k ys) (add-suc a (length xs) ∙ sym (suc-add a (length xs)))
    ∙ sets_append (set l a x) (suc a) xs ys

module _ {out out' : List ℕ} {at r : ℕ} {xs : List ℕ} where
  pub then : {out'' : List ℕ} {r' : ℕ} {ys : List ℕ} → Stored out at xs out' r → Stored out' r ys out'' r' → Stored out at (xs ++ ys) out'' r'
  then {ys} s t = record {
    after = simp length-append (omega arith);
    stored = t.stored ∙ ap₂ (λ (l : List ℕ) (k : ℕ). sets l k ys) s.stored s.after ∙ sets_append out at xs ys;
  }

  pub reads_as : {ys : List ℕ} → xs ≡ ys → Stored out at xs out' r → Stored out at ys out' r
  reads_as e s = subst (λ (t : List ℕ). Stored out at t out' r) e s

  pub kept : Stored out at xs out' r → length out' ≡ length out
  kept s = ap length s.stored ∙ length-sets out at xs

  -- of n bytes from `at` on, those that the text does not take are left
  pub room : Stored out at xs out' r → (n k : ℕ) → length xs + k ≤ n → at + n ≤ length out → r + k ≤ length out'
  room s n k h l = omega (arith, kept s)
