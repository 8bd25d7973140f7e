-- One pass over the chunks.
-- In order: format chunks that are short, in a list that is longer; how far the pass has come, as a record; how it begins, where it stops, one chunk
-- more, and the end. Assumes nothing.
use mathlib.Core.Path.{◌≡◌, refl, sym, ap, ◌∙◌}
use mathlib.Core.Bool.{true, false, ◌||◌, or-true, or_assoc}
use mathlib.Core.List.{List, [], ◌∷◌, ◌++◌, append_assoc, append-nil}
use Prim.Native.Nat.{ℕ, ◌+◌, ◌-◌, ◌≤◌, ◌<◌}
use native.Mathlib.Omega.{arith}
use Rattle.std.specs.Prelude.{Option, Some, None}
use Rattle.chunks.specs.Chunks.{Listing, unreadable, chunks, before, chunks_from, chunk_at, next, first_chunk}
use Rattle.chunks.specs.Walk.{reach_of}
use Rattle.chunks.specs.declared.Chunk.{Chunk}
use Rattle.chunks.proofs.Reached.{was_past, was_whole}
use Rattle.chunks.proofs.Row.{whole_before, goes_on, no_chunk, one_chunk}
use Rattle.wave.specs.Wave.{is_short, any_short}
use Rattle.wave.specs.Parse.{found_of, with_chunk, collected_of}
use Rattle.wave.specs.declared.Found.{Found}
use Rattle.wave.proofs.Keeping.{found_more}

-- ---- short format chunks

short_append : (cs ds : List Chunk) → any_short (cs ++ ds) ≡ (any_short cs || any_short ds)
unfolding any_short
short_append [] ds = refl
short_append (c ∷ cs) ds = rw (short_append cs ds) (sym (or_assoc (is_short c) (any_short cs) (any_short ds)))

-- ---- how far the pass has come: some chunks are done, and the others are read from here

unfoldable pub joined : List Chunk → Listing → Listing
joined cs unreadable = unreadable
joined cs (chunks ds) = chunks (cs ++ ds)

pub record Progress (file : List ℕ) (end : ℕ) (found : Found) (i : ℕ) : Type 0 where
  pub done : List Chunk
  pub left : ℕ
  pub so_far : chunks_from end file end first_chunk ≡ joined done (chunks_from left file end i)
  pub keeps : found ≡ found_of done
  pub full : any_short done ≡ false
  pub enough : end ≤ i + left
  pub within : i ≤ end

none_joined : (r : Listing) → r ≡ joined [] r
unfolding joined
none_joined unreadable = refl
none_joined (chunks cs) = refl

joined_more : (cs : List Chunk) (c : Chunk) (r : Listing) → joined cs (before c r) ≡ joined (cs ++ (c ∷ [])) r
unfolding joined before
joined_more cs c unreadable = refl
joined_more cs c (chunks ds) = ap chunks (sym (append_assoc cs (c ∷ []) ds))

-- a short format chunk that is done makes the file broken, whatever follows
short_joined : (cs : List Chunk) (r : Listing) → any_short cs ≡ true → None ≡ collected_of (joined cs r)
unfolding joined collected_of
short_joined cs unreadable h = refl
short_joined cs (chunks ds) h = rw (short_append cs ds, h)

pub begun : (file : List ℕ) (end : ℕ) (f : Found) → f ≡ found_of [] → first_chunk ≤ end → Progress file end f first_chunk
unfolding any_short
begun file end f e h = record {
  done = [];
  left = end;
  so_far = none_joined (chunks_from end file end first_chunk);
  keeps = e;
  full = refl;
  enough = omega arith;
  within = h;
}

module _ {file : List ℕ} {end : ℕ} {found : Found} {i : ℕ} (p : Progress file end found i) (r : Option (Chunk × ℕ)) (read : r ≡ reach_of file end i) (on : i < end) where
  pub stops : r ≡ None → None ≡ collected_of (chunks_from end file end first_chunk)
  unfolding joined collected_of
  stops e = rw (p.so_far, one_chunk file end p.left i on p.enough, was_past file end i r read e)

  module _ (c : Chunk) (n : ℕ) (whole : r ≡ Some (c, n)) where
    with_it : chunks_from end file end first_chunk ≡ joined (p.done ++ (c ∷ [])) (chunks_from (p.left - 1) file end n)
    with_it =
        let w = was_whole file end i r read c n whole in
        p.so_far ∙ rw (one_chunk file end p.left i on p.enough, w.0, w.1.0, w.1.1) (joined_more p.done (chunk_at file i) (chunks_from (p.left - 1) file end (next (chunk_at file i))))

    pub next_on : i < n
    next_on =
        let w = was_whole file end i r read c n whole in
        let g = goes_on file end i in
        rw w.1.1 (omega arith)

    pub too_short : is_short c ≡ true → None ≡ collected_of (chunks_from end file end first_chunk)
    unfolding any_short
    too_short s = rw with_it (short_joined (p.done ++ (c ∷ [])) (chunks_from (p.left - 1) file end n) (short_append p.done (c ∷ []) ∙ rw (s, or-true (any_short p.done))))

    pub one_more : is_short c ≡ false → (f : Found) → f ≡ with_chunk c found → Progress file end f n
    unfolding any_short
    one_more s f e =
        let w = was_whole file end i r read c n whole in
        let b = whole_before file end i w.0 in
        let g = goes_on file end i in
        record {
          done = p.done ++ (c ∷ []);
          left = p.left - 1;
          so_far = with_it;
          keeps = e ∙ ap (with_chunk c) p.keeps ∙ found_more p.done c;
          full = short_append p.done (c ∷ []) ∙ rw (p.full, s);
          enough = rw w.1.1 (omega (arith, p.enough));
          within = rw w.1.1 b;
        }

pub all_read : {file : List ℕ} {end : ℕ} {found : Found} {i : ℕ} → Progress file end found i → end ≤ i → Some found ≡ collected_of (chunks_from end file end first_chunk)
unfolding joined collected_of
all_read {file} {end} {found} {i} p h = rw (p.so_far, no_chunk file end p.left i h, append-nil p.done, p.full, p.keeps)
