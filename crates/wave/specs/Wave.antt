-- What a WAVE file holds, each rule a sentence over its chunks.
-- In order: the first of some chunks, and one alone; the format; the data; the sampler and its
-- first loop; a file that is broken. Assumes nothing.
use Rattle.std.specs.Prelude.{ℕ, ◌+◌, ◌*◌, ◌/◌, Bool, true, false, if◌then◌else◌, ◌&&◌, ◌||◌, List}
use Rattle.std.specs.Prelude.{[], ◌∷◌, nat_lt, ◌==◌, Option, Some, None}
use Rattle.layout.specs.Parts.{part}
use Rattle.layout.specs.Bytes.{little, little2_at, little4_at, twos}
use Rattle.chunks.specs.Chunks.{listing, is_unreadable, chunks_of, named, format_name, data_name}
use Rattle.chunks.specs.Chunks.{sampler_name}
use Rattle.chunks.specs.declared.Chunk.{Chunk}
use Rattle.wave.specs.declared.Loop.{Loop}

-- the first of some chunks; where there is none, one of no bytes
unfoldable pub first_of : List Chunk → Chunk
first_of [] = record { name = 0; place = 0; size = 0 }
first_of (c ∷ cs) = c

-- there is one, and no other
unfoldable pub is_once : List Chunk → Bool
is_once [] = false
is_once (c ∷ []) = true
is_once (c ∷ d ∷ cs) = false

-- ---- the format: of its bytes, sixteen at least, 0 and 1 are the tag, 2 and 3 the channels, 14
-- and 15 the bits of a sample

abbrev pub format_bytes : ℕ
format_bytes = 16

abbrev pub format_of : List Chunk → Chunk
format_of cs = first_of (named format_name cs)

-- a format chunk that has less
abbrev pub is_short : Chunk → Bool
is_short c = c.name == format_name && nat_lt c.size format_bytes

unfoldable pub any_short : List Chunk → Bool
any_short [] = false
any_short (c ∷ cs) = is_short c || any_short cs

-- tag 1, which is PCM; one channel; 16 bits
unfoldable pub is_mono16 : List ℕ → Chunk → Bool
is_mono16 file c =
    little2_at file c.place == 1
    && (little2_at file (c.place + 2) == 1 && little2_at file (c.place + 14) == 16)

-- ---- the data: two bytes a sample

abbrev pub data_of : List Chunk → Chunk
data_of cs = first_of (named data_name cs)

abbrev pub count_of : Chunk → ℕ
count_of c = c.size / 2

abbrev pub samples_of : List ℕ → Chunk → List ℕ
samples_of file c = twos little (part file c.place c.size)

-- ---- the sampler: 36 bytes, of which 28 to 31 are the number of its loops, and then 24 for each
-- loop: the type is in bytes 4 to 7 of
-- these, the start in 8 to 11, the end in 12 to 15. Start and end are numbers of samples, and the
-- end is the last one of the loop. The other bytes, among them a fraction and a number of rounds,
-- are not looked at.

abbrev pub sampler_bytes : ℕ
sampler_bytes = 36

abbrev pub loop_bytes : ℕ
loop_bytes = 24

abbrev pub loops_of : List ℕ → Chunk → ℕ
loops_of file c = little4_at file (c.place + 28)

-- it has less than its bytes and those of the loops that they count
unfoldable pub is_sampler_short : List ℕ → Chunk → Bool
is_sampler_short file c = nat_lt c.size (sampler_bytes + loop_bytes * loops_of file c)

-- no loop, and one: its type, its first sample and its last
abbrev pub Absent : Option Loop
Absent = None

abbrev pub Present : ℕ → ℕ → ℕ → Option Loop
Present type start last = Some (record { form = type; start = start; last = last })

unfoldable pub loop_in : List ℕ → Chunk → Option Loop
loop_in file c =
    let i = c.place + sampler_bytes in
    if loops_of file c == 0 then Absent
    else Present (little4_at file (i + 4)) (little4_at file (i + 8)) (little4_at file (i + 12))

-- of the first sampler chunk, if there is one; later ones are not looked into
unfoldable pub first_sampler_short : List ℕ → List Chunk → Bool
first_sampler_short file [] = false
first_sampler_short file (c ∷ cs) = is_sampler_short file c

unfoldable pub first_loop : List ℕ → List Chunk → Option Loop
first_loop file [] = Absent
first_loop file (c ∷ cs) = loop_in file c

abbrev pub loop_of : List ℕ → List Chunk → Option Loop
loop_of file cs = first_loop file (named sampler_name cs)

-- ---- the file cannot be read as chunks, or a format chunk, or the first sampler chunk, has less
-- than it must

unfoldable pub is_broken : List ℕ → Bool
is_broken file =
    is_unreadable (listing file)
    || (any_short (chunks_of file)
    || first_sampler_short file (named sampler_name (chunks_of file)))
