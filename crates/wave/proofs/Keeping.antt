-- What is kept of some chunks says all that the rules ask of them: whether there is one alone, which is the first, whether the sampler is short, and its
-- loop. One chunk more is kept as the longer list is. And what the first that is kept tells. Assumes nothing.
use mathlib.Core.Path.{◌≡◌, refl, sym, ap, ◌∙◌}
use mathlib.Core.Bool.{Bool, true, false, cond, ◌&&◌, false≢true}
use mathlib.Core.List.{List, [], ◌∷◌, ◌++◌, append-nil}
use Prim.Native.Nat.{ℕ}
use native.Mathlib.Omega.{arith}
use lib.Dec.{eqb}
use Rattle.std.specs.Prelude.{Some, None}
use Rattle.chunks.specs.Chunks.{named, format_name, data_name, sampler_name}
use Rattle.chunks.specs.declared.Chunk.{Chunk}
use Rattle.chunks.proofs.Named.{Each, named-append}
use Rattle.wave.specs.Wave.{first_of, is_once, is_sampler_short, first_sampler_short, first_loop}
use Rattle.wave.specs.declared.Kept.{Kept}
use Rattle.wave.specs.declared.Kept.TheVariants.{Missing, Once, Again}
use Rattle.wave.specs.Parse.{kept_of, first_kept, kept_more, keep, found_of, with_chunk, both, first_sampler_short_of, loop_of_kept, InFile, FirstInFile}

-- ---- one chunk more

-- of that name
last_kept : (xs : List Chunk) (c : Chunk) → kept_more c (kept_of xs) ≡ kept_of (xs ++ (c ∷ []))
unfolding kept_of
last_kept [] c = refl
last_kept (x ∷ []) c = refl
last_kept (x ∷ y ∷ xs) c = refl

kept_by : (t : Bool) (xs : List Chunk) (c : Chunk) → cond t (kept_more c (kept_of xs)) (kept_of xs) ≡ kept_of (xs ++ cond t (c ∷ []) [])
kept_by true xs c = last_kept xs c
kept_by false xs c = ap kept_of (sym (append-nil xs))

keep_one : (n : ℕ) (cs : List Chunk) (c : Chunk) → keep n c (kept_of (named n cs)) ≡ kept_of (named n (cs ++ (c ∷ [])))
unfolding named
keep_one n cs c = kept_by (eqb c.name n) (named n cs) c ∙ ap kept_of (sym (named-append n cs (c ∷ [])))

pub found_more : (cs : List Chunk) (c : Chunk) → with_chunk c (found_of cs) ≡ found_of (cs ++ (c ∷ []))
found_more cs c = rw (keep_one format_name cs c, keep_one data_name cs c, keep_one sampler_name cs c)

-- ---- what is kept, and what the rules ask

pub kept_both : (xs ys : List Chunk) → both (kept_of xs) (kept_of ys) ≡ cond (is_once xs && is_once ys) (Some (first_of xs, first_of ys)) None
unfolding kept_of is_once first_of
kept_both [] ys = refl
kept_both (x ∷ z ∷ xs) ys = refl
kept_both (x ∷ []) [] = refl
kept_both (x ∷ []) (y ∷ []) = refl
kept_both (x ∷ []) (y ∷ z ∷ ys) = refl

pub kept_sampler_short : (file : List ℕ) (cs : List Chunk) → first_sampler_short_of file (kept_of cs) ≡ first_sampler_short file cs
unfolding kept_of first_sampler_short
kept_sampler_short file [] = refl
kept_sampler_short file (c ∷ []) = refl
kept_sampler_short file (c ∷ d ∷ cs) = refl

pub kept_loop : (file : List ℕ) (cs : List Chunk) → loop_of_kept file (kept_of cs) ≡ first_loop file cs
unfolding kept_of first_loop
kept_loop file [] = refl
kept_loop file (c ∷ []) = refl
kept_loop file (c ∷ d ∷ cs) = refl

-- what holds of each holds of one alone
pub once_each : (P : Chunk → Type 0) (cs : List Chunk) → is_once cs ≡ true → Each P cs → P (first_of cs)
unfolding is_once first_of
once_each P [] h e = absurd (false≢true h)
once_each P (c ∷ []) h e = e.0
once_each P (c ∷ d ∷ cs) h e = e.0

-- ---- the first that is kept

pub kept_in : (file : List ℕ) (cs : List Chunk) → Each (InFile file) cs → FirstInFile file (kept_of cs)
unfolding kept_of
kept_in file [] e = tt
kept_in file (c ∷ []) e = e.0
kept_in file (c ∷ d ∷ cs) e = e.0

pub first_in_file : (file : List ℕ) (k : Kept) (c : Chunk) → first_kept k ≡ Some c → FirstInFile file k → InFile file c
first_in_file file k c e h = rw e at h

module _ (file : List ℕ) (c : Chunk) where
  pub first_short : (k : Kept) → first_kept k ≡ Some c → first_sampler_short_of file k ≡ is_sampler_short file c
  first_short Missing e = absurd (let z : ◌≡◌ {A = ℕ} 0 1 = cc in omega arith)
  first_short (Once d) e = let f : d ≡ c = cc in ap (is_sampler_short file) f
  first_short (Again d) e = let f : d ≡ c = cc in ap (is_sampler_short file) f

pub none_short : (file : List ℕ) (k : Kept) → first_kept k ≡ None → first_sampler_short_of file k ≡ false
none_short file Missing e = refl
none_short file (Once d) e = absurd (let z : ◌≡◌ {A = ℕ} 0 1 = cc in omega arith)
none_short file (Again d) e = absurd (let z : ◌≡◌ {A = ℕ} 0 1 = cc in omega arith)
