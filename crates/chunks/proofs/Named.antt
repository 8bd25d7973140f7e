-- What holds of each chunk of a list: that chunks in a row lie before the end; and of the chunks of a name what holds of all. Then the chunks of a
-- name in a list that is longer by some. Assumes nothing.
use mathlib.Core.Path.{◌≡◌, refl}
use mathlib.Core.Bool.{Bool, true, false, cond}
use mathlib.Core.List.{List, [], ◌∷◌, ◌++◌}
use Prim.Native.Nat.{ℕ, ◌+◌, ◌≤◌}
use native.Mathlib.Omega.{arith}
use lib.Dec.{eqb}
use Rattle.chunks.specs.Chunks.{named, next}
use Rattle.chunks.specs.Row.{InRow}
use Rattle.chunks.specs.declared.Chunk.{Chunk}
use Rattle.chunks.proofs.Row.{whole_before}

abbrev pub Each : (Chunk → Type 0) → List Chunk → Type 0
Each P [] = Unit {0}
Each P (c ∷ cs) = P c × Each P cs

-- its bytes lie before the end
abbrev pub Before : ℕ → Chunk → Type 0
Before end c = c.place + c.size ≤ end

pub row_before : (file : List ℕ) (end i : ℕ) (cs : List Chunk) → InRow file end i cs → Each (Before end) cs
row_before file end i [] r = tt
row_before file end i (c ∷ cs) r =
    let h : next c ≤ end = rw r.1 (whole_before file end i r.2) in
    (omega arith, row_before file end (next c) cs r.3)

pub each_named : (P : Chunk → Type 0) (n : ℕ) (cs : List Chunk) → Each P cs → Each P (named n cs)
unfolding named
each_named P n [] e = tt
each_named P n (c ∷ cs) e = by (eqb c.name n) (each_named P n cs e.1)
  where
    by : (t : Bool) → Each P (named n cs) → Each P (cond t (c ∷ named n cs) (named n cs))
    by true r = (e.0, r)
    by false r = r

pub named-append : (n : ℕ) (cs ds : List Chunk) → named n (cs ++ ds) ≡ named n cs ++ named n ds
unfolding named
named-append n [] ds = refl
named-append n (c ∷ cs) ds = rw (named-append n cs ds) (by (eqb c.name n))
  where
    by : (t : Bool) → cond t (c ∷ (named n cs ++ named n ds)) (named n cs ++ named n ds) ≡ cond t (c ∷ named n cs) (named n cs) ++ named n ds
    by true = refl
    by false = refl
