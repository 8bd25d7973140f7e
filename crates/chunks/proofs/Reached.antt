-- What each answer of `chunks::chunk_at` tells of the place. Assumes nothing.
use mathlib.Core.Path.{◌≡◌, ap}
use mathlib.Core.Bool.{true, false}
use mathlib.Core.List.{List}
use Prim.Native.Nat.{ℕ}
use Rattle.std.specs.Prelude.{Option, Some, None}
use Rattle.chunks.specs.Chunks.{chunk_at, next, is_whole}
use Rattle.chunks.specs.Walk.{reach_of}
use Rattle.chunks.proofs.Told.{none_where, some_where}
use Rattle.chunks.specs.declared.Chunk.{Chunk}

module _ (file : List ℕ) (end i : ℕ) (r : Option (Chunk × ℕ)) (read : r ≡ reach_of file end i) where
  pub was_past : r ≡ None → is_whole file end i ≡ false
  unfolding reach_of
  was_past e = none_where (is_whole file end i) (chunk_at file i, next (chunk_at file i)) r read e

  pub was_whole : (c : Chunk) (n : ℕ) → r ≡ Some (c, n) → (is_whole file end i ≡ true) × ((c ≡ chunk_at file i) × (n ≡ next (chunk_at file i)))
  unfolding reach_of
  was_whole c n e =
      let t = some_where (is_whole file end i) (chunk_at file i, next (chunk_at file i)) (c, n) r read e in
      (t.0, (ap (λ (x : Chunk × ℕ). x.0) t.1, ap (λ (x : Chunk × ℕ). x.1) t.1))
