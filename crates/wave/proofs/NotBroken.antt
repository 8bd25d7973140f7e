-- What a file that is not broken has: chunks in a row, in the file; format chunks with their bytes; a first sampler chunk with all that it counts. So
-- what is asked of each chunk before it is read. Assumes nothing.
use mathlib.Core.Path.{◌≡◌, ◌∙◌}
use mathlib.Core.Bool.{Bool, true, false, cond, ◌&&◌, ◌||◌}
use mathlib.Core.List.{List, [], ◌∷◌}
use Prim.Native.Nat.{ℕ, ◌≤◌}
use borrow.Author.Tests.{ltb-false}
use lib.Dec.{ltb, eqb}
use Rattle.numbers.proofs.Tests.{neither}
use Rattle.chunks.specs.Chunks.{listing, is_unreadable, chunks_of, named, format_name, sampler_name}
use Rattle.chunks.specs.declared.Chunk.{Chunk}
use Rattle.chunks.proofs.Named.{Each, each_named}
use Rattle.wave.specs.Wave.{first_of, is_once, format_of, is_short, any_short, first_sampler_short, is_broken, format_bytes}
use Rattle.wave.specs.Parse.{kept_of, first_sampler_short_of, InFile, FirstInFile}
use Rattle.wave.proofs.Keeping.{once_each, kept_sampler_short, kept_in}
use Rattle.wave.proofs.Parsing.{InFileRow, read_row, each_in_file, first_in}

-- it can be read as chunks, no format chunk is short, and no first sampler chunk is
pub record NotBroken (file : List ℕ) : Type 0 where
  pub row : InFileRow file
  pub full_formats : any_short (chunks_of file) ≡ false
  pub full_sampler : first_sampler_short file (named sampler_name (chunks_of file)) ≡ false

pub not_broken : (file : List ℕ) → is_broken file ≡ false → NotBroken file
unfolding is_broken
not_broken file h =
    let a = neither (is_unreadable (listing file)) (any_short (chunks_of file) || first_sampler_short file (named sampler_name (chunks_of file))) h in
    let b = neither (any_short (chunks_of file)) (first_sampler_short file (named sampler_name (chunks_of file))) a.1 in
    record { row = read_row file a.0; full_formats = b.0; full_sampler = b.1 }

abbrev Full : Chunk → Type 0
Full c = format_bytes ≤ c.size

each_full : (cs : List Chunk) → any_short cs ≡ false → Each Full (named format_name cs)
unfolding named any_short
each_full [] h = tt
each_full (c ∷ cs) h =
    let a = neither (is_short c) (any_short cs) h in
    by (eqb c.name format_name) a.0 (each_full cs a.1)
  where
    by : (t : Bool) → (t && ltb c.size format_bytes) ≡ false → Each Full (named format_name cs) → Each Full (cond t (c ∷ named format_name cs) (named format_name cs))
    by true e r = (ltb-false c.size format_bytes e, r)
    by false e r = r

-- what is asked of each chunk before it is read
module _ (file : List ℕ) (s : NotBroken file) where
  named_in_file : (n : ℕ) → Each (InFile file) (named n (chunks_of file))
  named_in_file n = each_named (InFile file) n (chunks_of file) (each_in_file file s.row)

  pub named_in : (n : ℕ) → InFile file (first_of (named n (chunks_of file)))
  named_in n = first_in file (named n (chunks_of file)) (named_in_file n)

  pub sampler_in_file : FirstInFile file (kept_of (named sampler_name (chunks_of file)))
  sampler_in_file = kept_in file (named sampler_name (chunks_of file)) (named_in_file sampler_name)

  pub format_full : is_once (named format_name (chunks_of file)) ≡ true → format_bytes ≤ (format_of (chunks_of file)).size
  format_full o = once_each Full (named format_name (chunks_of file)) o (each_full (chunks_of file) s.full_formats)

  pub sampler_full : first_sampler_short_of file (kept_of (named sampler_name (chunks_of file))) ≡ false
  sampler_full = kept_sampler_short file (named sampler_name (chunks_of file)) ∙ s.full_sampler
