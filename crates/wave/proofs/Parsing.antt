-- What `wave::parse` answers.
-- In order: what the pass over the chunks came to; a file that can be read as chunks: they stand in a row, in the file; the answer at each test; what
-- an answer tells of the file. Assumes nothing.
use mathlib.Core.Path.{◌≡◌, refl, sym, ◌∙◌}
use mathlib.Core.Bool.{Bool, true, false, cond, ◌||◌, false≢true}
use mathlib.Core.List.{List, [], ◌∷◌}
use Prim.Native.Nat.{ℕ, ◌≤◌}
use native.Mathlib.Omega.{arith}
use lib.ListN.{length}
use Rattle.std.specs.Prelude.{Option, Some, None}
use Rattle.chunks.specs.Chunks.{Listing, unreadable, chunks, chunks_from, riff_end, is_headed, listing, is_unreadable, chunks_in, chunks_of, named, sampler_name, first_chunk, most_file_bytes}
use Rattle.chunks.specs.Row.{InRow}
use Rattle.chunks.specs.declared.Chunk.{Chunk}
use Rattle.chunks.specs.Walk.{opened_of}
use Rattle.chunks.proofs.Headed.{was_unheaded, was_upto, headed_within}
use Rattle.chunks.proofs.Told.{none_unless, some_unless}
use Rattle.chunks.proofs.Row.{listing_row}
use Rattle.chunks.proofs.Named.{Each, Before, row_before, each_named}
use Rattle.wave.specs.Wave.{first_of, any_short, first_sampler_short, is_broken}
use Rattle.wave.specs.Parse.{found_of, first_sampler_short_of, collected_of, parsed_of, InFile, FirstInFile}
use Rattle.wave.specs.declared.Found.{Found}
use Rattle.wave.proofs.Keeping.{kept_sampler_short, kept_in}

-- ---- what the pass came to

came_broken : (x : Listing) (r : Option Found) → r ≡ None → r ≡ collected_of x → (b : Bool) → (is_unreadable x || (any_short (chunks_in x) || b)) ≡ true
unfolding collected_of is_unreadable chunks_in
came_broken unreadable r e g b = refl
came_broken (chunks cs) r e g b = rw (none_unless (any_short cs) (found_of cs) r g e)

came_found : (x : Listing) (r : Option Found) (f : Found) → r ≡ Some f → r ≡ collected_of x → (is_unreadable x ≡ false) × ((any_short (chunks_in x) ≡ false) × (f ≡ found_of (chunks_in x)))
unfolding collected_of is_unreadable chunks_in
came_found unreadable r f e g = absurd (let z : ◌≡◌ {A = ℕ} 0 1 = cc in omega arith)
came_found (chunks cs) r f e g = let b = some_unless (any_short cs) (found_of cs) f r g e in (refl, (b.0, b.1))

-- ---- a file that can be read as chunks

read_by : (t : Bool) (r : Listing) → is_unreadable (cond t r unreadable) ≡ false → t ≡ true
unfolding is_unreadable
read_by true r h = refl
read_by false r h = absurd (false≢true (sym h))

read_headed : (file : List ℕ) → is_unreadable (listing file) ≡ false → is_headed file ≡ true
unfolding listing
read_headed file h = read_by (is_headed file) (chunks_from (riff_end file) file (riff_end file) first_chunk) h

is_read : (r : Listing) → is_unreadable r ≡ false → r ≡ chunks (chunks_in r)
unfolding is_unreadable chunks_in
is_read unreadable h = absurd (false≢true (sym h))
is_read (chunks cs) h = refl

-- where its chunks end
pub upto_within : (file : List ℕ) (o : Option ℕ) → o ≡ opened_of file → (end : ℕ) → o ≡ Some end → (first_chunk ≤ end) × (end ≤ length file)
upto_within file o opened end upto =
    let h = was_upto file o opened end upto in
    let w = headed_within file h.0 in
    rw h.1 (w.0, w.1)

-- its chunks stand in a row up to the end of its RIFF length, which lies in the file
pub record InFileRow (file : List ℕ) : Type 0 where
  pub row : InRow file (riff_end file) first_chunk (chunks_of file)
  pub within : riff_end file ≤ length file
  pub few : length file ≤ most_file_bytes

pub read_row : (file : List ℕ) → is_unreadable (listing file) ≡ false → InFileRow file
read_row file h =
    let t = read_headed file h in
    let w = headed_within file t in
    record { row = listing_row file (chunks_of file) t (is_read (listing file) h); within = w.1; few = w.2 }

within_file : (file : List ℕ) (end : ℕ) → end ≤ length file → (cs : List Chunk) → Each (Before end) cs → Each (InFile file) cs
within_file file end h [] e = tt
within_file file end h (c ∷ cs) e = (omega arith, within_file file end h cs e.1)

-- so each lies in the file, and the first of some
pub each_in_file : (file : List ℕ) → InFileRow file → Each (InFile file) (chunks_of file)
each_in_file file r = within_file file (riff_end file) r.within (chunks_of file) (row_before file (riff_end file) first_chunk (chunks_of file) r.row)

pub first_in : (file : List ℕ) (cs : List Chunk) → Each (InFile file) cs → InFile file (first_of cs)
unfolding first_of
first_in file [] e = omega arith
first_in file (c ∷ cs) e = e.0

-- ---- the answers

module _ (file : List ℕ) where
  is_broken_lem : is_broken file ≡ true → None ≡ parsed_of file
  unfolding parsed_of
  is_broken_lem e = rw e

  pub no_header : (o : Option ℕ) → o ≡ opened_of file → o ≡ None → None ≡ parsed_of file
  unfolding is_broken listing is_unreadable
  no_header o opened e = is_broken_lem (rw (was_unheaded file o opened e))

  module _ (o : Option ℕ) (opened : o ≡ opened_of file) (end : ℕ) (upto : o ≡ Some end) (r : Option Found) (pass : r ≡ collected_of (chunks_from end file end first_chunk)) where
    whole_pass : r ≡ collected_of (listing file)
    unfolding listing
    whole_pass = let h = was_upto file o opened end upto in pass ∙ rw (h.0, h.1)

    pub no_chunks : r ≡ None → None ≡ parsed_of file
    unfolding is_broken
    no_chunks e = is_broken_lem (came_broken (listing file) r e whole_pass (first_sampler_short file (named sampler_name (chunks_of file))))

    module _ (f : Found) (found : r ≡ Some f) where
      pub found_is : f ≡ found_of (chunks_of file)
      found_is = (came_found (listing file) r f found whole_pass).1.1

      pub sampler_in : FirstInFile file f.sampler
      sampler_in =
          let w = came_found (listing file) r f found whole_pass in
          rw found_is (kept_in file (named sampler_name (chunks_of file)) (each_named (InFile file) sampler_name (chunks_of file) (each_in_file file (read_row file w.0))))

      pub sampler_short : first_sampler_short_of file f.sampler ≡ true → None ≡ parsed_of file
      unfolding is_broken
      sampler_short t =
          let w = came_found (listing file) r f found whole_pass in
          let c : first_sampler_short file (named sampler_name (chunks_of file)) ≡ true = sym (kept_sampler_short file (named sampler_name (chunks_of file))) ∙ rw found_is at t in
          is_broken_lem (rw (w.0, w.1.0, c))

      pub all_there : first_sampler_short_of file f.sampler ≡ false → Some f ≡ parsed_of file
      unfolding is_broken parsed_of
      all_there t =
          let w = came_found (listing file) r f found whole_pass in
          let c : first_sampler_short file (named sampler_name (chunks_of file)) ≡ false = sym (kept_sampler_short file (named sampler_name (chunks_of file))) ∙ rw found_is at t in
          rw (w.0, w.1.0, c, found_is)

-- ---- what an answer tells

module _ (file : List ℕ) (r : Option Found) (parsed : r ≡ parsed_of file) where
  pub was_broken : r ≡ None → is_broken file ≡ true
  unfolding parsed_of
  was_broken e = none_unless (is_broken file) (found_of (chunks_of file)) r parsed e

  pub was_found : (f : Found) → r ≡ Some f → (is_broken file ≡ false) × (f ≡ found_of (chunks_of file))
  unfolding parsed_of
  was_found f e = some_unless (is_broken file) (found_of (chunks_of file)) f r parsed e
