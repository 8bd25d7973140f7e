-- What the functions that read a file promise: what one pass over its chunks keeps of them, what
-- the file comes to, and what is asked of a chunk before its bytes are read. In that order. Assumes
-- nothing.
use Rattle.std.specs.Prelude.{ℕ, ◌+◌, ◌≤◌, Bool, false, if◌then◌else◌, List, [], ◌∷◌, ◌==◌, length}
use Rattle.std.specs.Prelude.{Option, Some, None, IfSome}
use Rattle.chunks.specs.Chunks.{Listing, unreadable, chunks, chunks_of, named, format_name}
use Rattle.chunks.specs.Chunks.{data_name, sampler_name}
use Rattle.chunks.specs.declared.Chunk.{Chunk}
use Rattle.wave.specs.Wave.{any_short, is_sampler_short, loop_in, is_broken}
use Rattle.wave.specs.declared.Loop.{Loop}
use Rattle.wave.specs.declared.Kept.{Kept}
use Rattle.wave.specs.declared.Kept.TheVariants.{Missing, Once, Again}
use Rattle.wave.specs.declared.Found.{Found}

-- ---- what is kept of some chunks, and with one more

unfoldable pub kept_of : List Chunk → Kept
kept_of [] = Missing
kept_of (c ∷ []) = Once c
kept_of (c ∷ d ∷ cs) = Again c

abbrev pub first_kept : Kept → Option Chunk
first_kept Missing = None
first_kept (Once c) = Some c
first_kept (Again c) = Some c

-- with one more of that name, and of any
abbrev pub kept_more : Chunk → Kept → Kept
kept_more c Missing = Once c
kept_more c (Once d) = Again d
kept_more c (Again d) = Again d

abbrev pub keep : ℕ → Chunk → Kept → Kept
keep name c k = if c.name == name then kept_more c k else k

-- of all chunks: of those of each name
abbrev pub found_of : List Chunk → Found
found_of cs =
    record {
      format = kept_of (named format_name cs);
      pcm = kept_of (named data_name cs);
      sampler = kept_of (named sampler_name cs);
    }

abbrev pub with_chunk : Chunk → Found → Found
with_chunk c f =
    record {
      format = keep format_name c f.format;
      pcm = keep data_name c f.pcm;
      sampler = keep sampler_name c f.sampler;
    }

-- format and data, where each is there just once
abbrev pub both : Kept → Kept → Option (Chunk × Chunk)
both Missing q = None
both (Again c) q = None
both (Once c) Missing = None
both (Once c) (Again d) = None
both (Once c) (Once d) = Some (c, d)

abbrev pub once_both : Found → Option (Chunk × Chunk)
once_both f = both f.format f.pcm

-- the first sampler chunk, of those that are kept: whether it is short, and its first loop
abbrev pub first_sampler_short_of : List ℕ → Kept → Bool
first_sampler_short_of file Missing = false
first_sampler_short_of file (Once c) = is_sampler_short file c
first_sampler_short_of file (Again c) = is_sampler_short file c

abbrev pub loop_of_kept : List ℕ → Kept → Option Loop
loop_of_kept file Missing = None
loop_of_kept file (Once c) = loop_in file c
loop_of_kept file (Again c) = loop_in file c

-- ---- what the file comes to; none where it is broken

unfoldable pub collected_of : Listing → Option Found
collected_of unreadable = None
collected_of (chunks cs) = if any_short cs then None else Some (found_of cs)

unfoldable pub parsed_of : List ℕ → Option Found
parsed_of file = if is_broken file then None else Some (found_of (chunks_of file))

-- ---- what is asked of a chunk before its bytes are read: they lie in the file

abbrev pub InFile : List ℕ → Chunk → Type 0
InFile file c = c.place + c.size ≤ length file

-- of the first that is kept, if there is one
abbrev pub FirstInFile : List ℕ → Kept → Type 0
FirstInFile file k = IfSome (first_kept k) (InFile file)
