-- A file is read as some chunks exactly where they stand in a row up to the end; so how many chunks are allowed for does not matter.
-- In order: where a whole chunk ends; one step of the listing; from the listing to the row, and back; that chunks in a row are few; the same of a
-- whole file. Assumes nothing.
use mathlib.Core.Path.{◌≡◌, refl, ◌∙◌}
use mathlib.Core.Bool.{true, cond, and-eq-true_iff}
use mathlib.Core.List.{List, [], ◌∷◌}
use Prim.Native.Nat.{ℕ, zero, suc, ◌+◌, ◌-◌, ◌*◌, ◌≤◌, ◌<◌}
use native.Mathlib.Numerals.{sub-one}
use native.Mathlib.Omega.{arith}
use borrow.Author.Tests.{lt-ltb, le-ltb, leb-true}
use lib.Dec.{leb, ltb}
use lib.ListN.{length}
use Rattle.numbers.proofs.Tests.{split, cases}
use Rattle.chunks.specs.Chunks.{Listing, unreadable, chunks, before, chunks_from, chunk_at, next, is_whole, header_bytes, first_chunk, riff_end, is_headed, listing}
use Rattle.chunks.specs.Row.{InRow}
use Rattle.chunks.specs.declared.Chunk.{Chunk}
use Rattle.chunks.proofs.Headed.{headed_within}

-- ---- a whole chunk

-- it ends before the end, and the next one begins eight bytes on or more
module _ (file : List ℕ) (end i : ℕ) where
  pub whole_before : is_whole file end i ≡ true → next (chunk_at file i) ≤ end
  unfolding is_whole
  whole_before h = leb-true (next (chunk_at file i)) end ((and-eq-true_iff (leb (i + header_bytes) end) (leb (next (chunk_at file i)) end)).0 h).1

  pub goes_on : i + header_bytes ≤ next (chunk_at file i)
  unfolding chunk_at
  goes_on = omega arith

-- ---- one step

module _ (file : List ℕ) (end : ℕ) where
  pub no_chunk : (n i : ℕ) → end ≤ i → chunks_from n file end i ≡ chunks []
  unfolding chunks_from
  no_chunk zero i h = refl
  no_chunk (suc n) i h = rw (le-ltb i end h)

  pub one_chunk : (n i : ℕ) → i < end → end ≤ i + n
      → chunks_from n file end i ≡ cond (is_whole file end i) (before (chunk_at file i) (chunks_from (n - 1) file end (next (chunk_at file i)))) unreadable
  unfolding chunks_from
  one_chunk zero i h k = absurd (omega arith)
  one_chunk (suc n) i h k = rw (lt-ltb i end h, sub-one)

  -- ---- the listing and the row

  before_is : (c : Chunk) (r : Listing) (cs : List Chunk) → before c r ≡ chunks cs → (ds : List Chunk) × ((r ≡ chunks ds) × (cs ≡ c ∷ ds))
  unfolding before
  before_is c unreadable cs e = absurd (let z : ◌≡◌ {A = ℕ} 0 1 = cc in omega arith)
  before_is c (chunks ds) cs e = (ds, (refl, cc))

  -- at a place, where the chunks that are read after the one there are in a row
  row_here : (i : ℕ) (rest : Listing) (cs : List Chunk) → i ≤ end → ((ds : List Chunk) → is_whole file end i ≡ true → i < end → rest ≡ chunks ds → InRow file end (next (chunk_at file i)) ds)
      → cond (ltb i end) (cond (is_whole file end i) (before (chunk_at file i) rest) unreadable) (chunks []) ≡ chunks cs → InRow file end i cs
  row_here i rest cs b f e =
      cases i end (InRow file end i cs)
      (λ l. split (InRow file end i cs) (is_whole file end i)
      (λ w.
      let d = before_is (chunk_at file i) rest cs (rw (lt-ltb i end l, w) at e) in
      rw d.1.1 (l, refl, w, f d.0 w l d.1.0))
      (λ w. absurd (not_chunks cs (rw (lt-ltb i end l, w) at e))))
      (λ l. stop l cs (rw (le-ltb i end l) at e))
    where
      not_chunks : (cs : List Chunk) → unreadable ≡ chunks cs → ⊥
      not_chunks cs e = let z : ◌≡◌ {A = ℕ} 0 1 = cc in omega arith

      stop : end ≤ i → (cs : List Chunk) → chunks [] ≡ chunks cs → InRow file end i cs
      stop l [] e = omega arith
      stop l (c ∷ cs) e = absurd (let z : ◌≡◌ {A = ℕ} 0 1 = cc in omega arith)

  pub read_in_row : (n i : ℕ) (cs : List Chunk) → i ≤ end → end ≤ i + n → chunks_from n file end i ≡ chunks cs → InRow file end i cs
  unfolding chunks_from
  read_in_row zero i [] b h e = omega arith
  read_in_row zero i (c ∷ cs) b h e = absurd (let z : ◌≡◌ {A = ℕ} 0 1 = cc in omega arith)
  read_in_row (suc n) i cs b h e =
      let g = goes_on file end i in
      row_here i (chunks_from n file end (next (chunk_at file i))) cs b
      (λ ds w l q. read_in_row n (next (chunk_at file i)) ds (whole_before file end i w) (omega arith) q) e

  pub row_read : (n i : ℕ) (cs : List Chunk) → end ≤ i + n → InRow file end i cs → chunks_from n file end i ≡ chunks cs
  unfolding chunks_from before
  row_read n i [] h r = no_chunk n i (omega arith)
  row_read n i (c ∷ cs) h r =
      let g = goes_on file end i in
      one_chunk n i r.0 h ∙ rw (r.2, ← r.1, row_read (n - 1) (next c) cs (rw r.1 (omega arith)) r.3)

  -- ---- chunks in a row

  pub row_few : (i : ℕ) (cs : List Chunk) → InRow file end i cs → i + header_bytes * length cs ≤ end
  row_few i [] r = omega arith
  row_few i (c ∷ cs) r =
      let g : i + header_bytes ≤ next c = rw r.1 (goes_on file end i) in
      omega (arith, row_few (next c) cs r.3)

-- ---- the file

module _ (file : List ℕ) (cs : List Chunk) (headed : is_headed file ≡ true) where
  pub listing_row : listing file ≡ chunks cs → InRow file (riff_end file) first_chunk cs
  unfolding listing
  listing_row e = read_in_row file (riff_end file) (riff_end file) first_chunk cs (headed_within file headed).0 (omega arith) (rw headed at e)

  pub row_listing : InRow file (riff_end file) first_chunk cs → listing file ≡ chunks cs
  unfolding listing
  row_listing r = rw headed (row_read file (riff_end file) (riff_end file) first_chunk cs (omega arith) r)
