-- A RIFF/WAVE file as its chunks, or unreadable.
-- In order: the names; a chunk; the chunks from a place to the end; the file; the chunks of a name.
-- Assumes nothing.
use Rattle.std.specs.Prelude.{ℕ, zero, suc, ◌+◌, ◌%◌, Bool, true, false, if◌then◌else◌, ◌&&◌, List}
use Rattle.std.specs.Prelude.{[], ◌∷◌, nat_le, nat_lt, ◌==◌, length}
use Rattle.layout.specs.Bytes.{little, little4_at}
use Rattle.chunks.specs.declared.Chunk.{Chunk}

-- ---- names: four letters, as a number of four bytes

-- "RIFF", "WAVE"
abbrev pub riff_name : ℕ
riff_name = little (82 ∷ 73 ∷ 70 ∷ 70 ∷ [])

abbrev pub wave_name : ℕ
wave_name = little (87 ∷ 65 ∷ 86 ∷ 69 ∷ [])

-- "fmt ", "data", "smpl"
abbrev pub format_name : ℕ
format_name = little (102 ∷ 109 ∷ 116 ∷ 32 ∷ [])

abbrev pub data_name : ℕ
data_name = little (100 ∷ 97 ∷ 116 ∷ 97 ∷ [])

abbrev pub sampler_name : ℕ
sampler_name = little (115 ∷ 109 ∷ 112 ∷ 108 ∷ [])

-- ---- a chunk: its name, the place of its first byte, and how many bytes it has

-- its header, of eight bytes, is its name and its size
abbrev pub header_bytes : ℕ
header_bytes = 8

unfoldable pub chunk_at : List ℕ → ℕ → Chunk
chunk_at file i =
    record { name = little4_at file i; place = i + header_bytes; size = little4_at file (i + 4) }

-- where the next one's header is: an odd number of bytes is padded by one
abbrev pub next : Chunk → ℕ
next c = c.place + (c.size + c.size % 2)

-- its header, its bytes and its pad lie before the end
unfoldable pub is_whole : List ℕ → ℕ → ℕ → Bool
is_whole file end i = nat_le (i + header_bytes) end && nat_le (next (chunk_at file i)) end

-- ---- the chunks from a place to the end

pub data Listing : Type 0 where
  unreadable : Listing
  chunks : List Chunk → Listing

-- with a chunk before
unfoldable pub before : Chunk → Listing → Listing
before c unreadable = unreadable
before c (chunks cs) = chunks (c ∷ cs)

-- One after another, n at most. A chunk takes eight bytes or more, so where n is the end itself
-- none is left out: Row says what these are with no such number.
unfoldable pub chunks_from : ℕ → List ℕ → ℕ → ℕ → Listing
chunks_from zero file end i = chunks []
chunks_from (suc n) file end i =
    let rest = before (chunk_at file i) (chunks_from n file end (next (chunk_at file i))) in
    if nat_lt i end then (if is_whole file end i then rest else unreadable) else chunks []

-- ---- the file: "RIFF", a length, "WAVE", and from byte 12 on chunks. The length counts from byte
-- 8 on, and the file
-- may go on behind it.

abbrev pub most_file_bytes : ℕ
most_file_bytes = 65536

abbrev pub first_chunk : ℕ
first_chunk = 12

abbrev pub riff_length : List ℕ → ℕ
riff_length file = little4_at file 4

abbrev pub riff_end : List ℕ → ℕ
riff_end file = header_bytes + riff_length file

-- not too long; RIFF, and WAVE within its length; not shorter than that length says
unfoldable pub is_headed : List ℕ → Bool
is_headed file =
    nat_le (length file) most_file_bytes
    && (little4_at file 0 == riff_name
    && (little4_at file 8 == wave_name
    && (nat_le 4 (riff_length file)
    && nat_le (riff_end file) (length file))))

unfoldable pub listing : List ℕ → Listing
listing file =
    if is_headed file then chunks_from (riff_end file) file (riff_end file) first_chunk
    else unreadable

unfoldable pub is_unreadable : Listing → Bool
is_unreadable unreadable = true
is_unreadable (chunks cs) = false

-- its chunks; none where it is unreadable
unfoldable pub chunks_in : Listing → List Chunk
chunks_in unreadable = []
chunks_in (chunks cs) = cs

abbrev pub chunks_of : List ℕ → List Chunk
chunks_of file = chunks_in (listing file)

-- ---- the chunks of a name, in their order

unfoldable pub named : ℕ → List Chunk → List Chunk
named n [] = []
named n (c ∷ cs) = if c.name == n then c ∷ named n cs else named n cs
