-- A part of a list: read, and replaced. Assumes nothing.
use Rattle.std.specs.Prelude.{ℕ, ◌+◌, List, ◌++◌, length, take, drop}

-- n elements from index i on; fewer where the list ends before
abbrev pub part {ℓ} : {A : Type ℓ} → List A → ℕ → ℕ → List A
part xs i n = take n (drop i xs)

-- the list with ys in the place of as many elements from index i on
abbrev pub with_part {ℓ} : {A : Type ℓ} → List A → ℕ → List A → List A
with_part xs i ys = take i xs ++ (ys ++ drop (i + length ys) xs)
