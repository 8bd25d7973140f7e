-- Small files by which the rules are told apart, one table under one theorem: a row is what the definitions give, and the number that it has to be. The
-- two columns are the same list by computation. Before the table stands how its files are made. Assumes nothing.
use mathlib.Core.Path.{◌≡◌, refl}
use mathlib.Core.List.{List, [], ◌∷◌, ◌++◌, map}
use Prim.Native.Nat.{ℕ, ◌+◌}
use lib.ListN.{length, replicate}
use Rattle.answer.specs.Answer.{answer_number}
use Rattle.control.specs.Control.{bit_of, with_bit}
use Rattle.layout.specs.Bytes.{little, twos}
use Rattle.chunks.specs.Chunks.{chunk_at, is_whole, before, chunks_from, is_headed, listing, is_unreadable, chunks_in, named}
use Rattle.wave.specs.Wave.{first_of, is_once, any_short, is_mono16, is_sampler_short, loop_in, first_sampler_short, first_loop, is_broken}
use Rattle.wave_in.specs.Registers.{start_of, end_of, loop_bits}
use Rattle.wave_in.specs.Import.{is_miscounted, is_other_format, is_loop_invalid, has_no_place, import_answer, imported, import_memory}

-- ---- how the files are made

-- numbers below 256, in two bytes and in four
abbrev two : ℕ → List ℕ
two n = n ∷ 0 ∷ []

abbrev four : ℕ → List ℕ
four n = n ∷ 0 ∷ 0 ∷ 0 ∷ []

-- a chunk that says another size than it has; one that says its own
abbrev sized : List ℕ → ℕ → List ℕ → List ℕ
sized name n bytes = name ++ four n ++ bytes

abbrev chunk : List ℕ → List ℕ → List ℕ
chunk name bytes = sized name (length bytes) bytes

abbrev fmt : List ℕ
fmt = 102 ∷ 109 ∷ 116 ∷ 32 ∷ []

abbrev dat : List ℕ
dat = 100 ∷ 97 ∷ 116 ∷ 97 ∷ []

abbrev smpl : List ℕ
smpl = 115 ∷ 109 ∷ 112 ∷ 108 ∷ []

abbrev LIST : List ℕ
LIST = 76 ∷ 73 ∷ 83 ∷ 84 ∷ []

-- a file whose RIFF length is n; one whose length is its own
abbrev riff : ℕ → List ℕ → List ℕ
riff n rest = (82 ∷ 73 ∷ 70 ∷ 70 ∷ []) ++ four n ++ (87 ∷ 65 ∷ 86 ∷ 69 ∷ []) ++ rest

abbrev pub whole : List ℕ → List ℕ
whole rest = riff (4 + length rest) rest

-- tag, channels, block align, bits
abbrev format : ℕ → ℕ → ℕ → ℕ → List ℕ
format tag channels block bits = chunk fmt (two tag ++ two channels ++ (18 ∷ 122 ∷ 0 ∷ 0 ∷ []) ++ (36 ∷ 244 ∷ 0 ∷ 0 ∷ []) ++ two block ++ two bits)

abbrev pub mono : List ℕ
mono = format 1 1 2 16

-- the samples 513 and 1027
abbrev pub two_samples : List ℕ
two_samples = chunk dat (1 ∷ 2 ∷ 3 ∷ 4 ∷ [])

-- a sampler that counts n loops, and has one
abbrev counting : ℕ → ℕ → ℕ → ℕ → List ℕ
counting n type start last = chunk smpl (replicate 28 0 ++ four n ++ four 0 ++ four 7 ++ four type ++ four start ++ four last ++ four 0 ++ four 0)

abbrev pub sampler : ℕ → ℕ → ℕ → List ℕ
sampler type start last = counting 1 type start last

-- ---- what a file comes to

answers : List ℕ → ℕ → ℕ → ℕ
answers file room word = answer_number (import_answer file room word)

-- with its two samples, at word 3 of ten
here : List ℕ → ℕ
here rest = answers (whole (mono ++ two_samples ++ rest)) 10 3

pub files : List (ℕ × ℕ)
files =
    -- chunks in any order, unknown ones skipped, an odd one with its pad; what stands after the RIFF length is not looked at
    (here [], 0)
    ∷ (answers (whole (chunk LIST (9 ∷ []) ++ (0 ∷ []) ++ two_samples ++ mono)) 10 3, 0)
    ∷ (answers (riff 40 (mono ++ two_samples ++ mono)) 10 3, 0)
    -- 20: a RIFF length beyond the file, or without room for WAVE; a chunk past the RIFF length; a header cut short; a pad that is missing
    ∷ (answers (riff 41 (mono ++ two_samples)) 10 3, 20)
    ∷ (answers (riff 3 (mono ++ two_samples)) 10 3, 20)
    ∷ (answers (riff 39 (mono ++ two_samples)) 10 3, 20)
    ∷ (here (76 ∷ 73 ∷ 83 ∷ 84 ∷ 0 ∷ 0 ∷ 0 ∷ []), 20)
    ∷ (here (chunk LIST (9 ∷ [])), 20)
    ∷ (here (sized LIST 255 (9 ∷ 0 ∷ [])), 20)
    -- 20 too: a format chunk of fewer than sixteen bytes, also a second one; a sampler of fewer than 36, or that counts more loops than it has
    ∷ (answers (whole (chunk fmt (two 1 ++ two 1) ++ two_samples)) 10 3, 20)
    ∷ (here (chunk fmt (two 1 ++ two 1)), 20)
    ∷ (answers (whole (chunk fmt (two 1 ++ two 1 ++ replicate 10 0 ++ (16 ∷ [])) ++ (0 ∷ []) ++ two_samples)) 10 3, 20)
    ∷ (here (chunk smpl (replicate 35 0) ++ (0 ∷ [])), 20)
    ∷ (here (chunk smpl (replicate 36 0)), 0)
    ∷ (here (counting 2 0 0 1), 20)
    -- a later sampler chunk may be anything
    ∷ (here (sampler 0 0 1 ++ chunk smpl (1 ∷ 2 ∷ [])), 0)
    -- 21: no format, no data, or one of them twice
    ∷ (answers (whole two_samples) 10 3, 21)
    ∷ (answers (whole mono) 10 3, 21)
    ∷ (here mono, 21)
    ∷ (here two_samples, 21)
    -- 22: another tag, two channels, eight bits, an odd number of bytes; the block align is not asked
    ∷ (answers (whole (format 3 1 2 16 ++ two_samples)) 10 3, 22)
    ∷ (answers (whole (format 1 2 4 16 ++ two_samples)) 10 3, 22)
    ∷ (answers (whole (format 1 1 1 8 ++ two_samples)) 10 3, 22)
    ∷ (answers (whole (mono ++ chunk dat (1 ∷ 2 ∷ 3 ∷ []) ++ (0 ∷ []))) 10 3, 22)
    ∷ (answers (whole (format 1 1 4 16 ++ two_samples)) 10 3, 0)
    -- 23: a loop past the last sample, one that ends before its start, one of type 3; with no samples every loop is invalid
    ∷ (here (sampler 0 0 2), 23)
    ∷ (here (sampler 0 1 0), 23)
    ∷ (here (sampler 3 0 1), 23)
    ∷ (answers (whole (mono ++ chunk dat [] ++ sampler 0 0 0)) 10 3, 23)
    ∷ (here (sampler 0 1 1), 0)
    -- 24: the memory's last word and one more; with no samples the word after the last; the end of a bank; END past its register
    ∷ (answers (whole (mono ++ two_samples)) 5 3, 0)
    ∷ (answers (whole (mono ++ two_samples)) 5 4, 24)
    ∷ (answers (whole (mono ++ chunk dat [])) 5 5, 0)
    ∷ (answers (whole (mono ++ chunk dat [])) 5 6, 24)
    ∷ (answers (whole (mono ++ two_samples)) 4194304 2097151, 24)
    ∷ (answers (whole (mono ++ two_samples)) 4194304 2097150, 0)
    ∷ (answers (whole (mono ++ two_samples ++ sampler 0 0 1)) 4194304 2097150, 24)
    ∷ (answers (whole (mono ++ two_samples ++ sampler 0 0 0)) 4194304 2097150, 0)
    -- 5 before all, and each of the others before the next
    ∷ (answers [] 8388609 0, 5)
    ∷ (answers (whole (mono ++ chunk LIST (9 ∷ []))) 8388608 0, 20)
    ∷ (answers (whole (format 1 2 4 16)) 10 3, 21)
    ∷ (answers (whole (format 1 2 4 16 ++ two_samples ++ sampler 0 0 2)) 10 3, 22)
    ∷ (answers (whole (mono ++ two_samples ++ sampler 0 0 2)) 10 9, 23)
    -- a loop of both samples, from word 3 of the second bank on: START, END, the bits of each type, and the number of samples
    ∷ ((imported (whole (mono ++ two_samples ++ sampler 0 0 1)) 4194304 2097155).start, 6144)
    ∷ ((imported (whole (mono ++ two_samples ++ sampler 0 0 1)) 4194304 2097155).end, 10240)
    ∷ ((imported (whole (mono ++ two_samples ++ sampler 0 0 1)) 4194304 2097155).bits, 0x08)
    ∷ ((imported (whole (mono ++ two_samples ++ sampler 1 0 1)) 4194304 2097155).bits, 0x18)
    ∷ ((imported (whole (mono ++ two_samples ++ sampler 2 0 1)) 4194304 2097155).bits, 0x48)
    ∷ ((imported (whole (mono ++ two_samples ++ sampler 2 0 1)) 4194304 2097155).samples, 2)
    ∷ []

pub files_hold : map (λ (row : ℕ × ℕ). row.0) files ≡ map (λ (row : ℕ × ℕ). row.1) files
unfolding files here answers little twos chunk_at is_whole before chunks_from is_headed listing is_unreadable chunks_in named first_of is_once any_short is_mono16 is_sampler_short loop_in first_sampler_short first_loop start_of end_of loop_bits is_broken is_miscounted is_other_format is_loop_invalid has_no_place import_answer imported bit_of with_bit
files_hold = refl

-- the memory afterwards: the samples from the named word on, and every other word as it was
pub memory_holds : import_memory (whole (mono ++ two_samples)) (replicate 6 9) 3 ≡ 9 ∷ 9 ∷ 9 ∷ 513 ∷ 1027 ∷ 9 ∷ []
unfolding little twos chunk_at is_whole before chunks_from is_headed listing is_unreadable chunks_in named first_of is_once any_short is_mono16 is_sampler_short loop_in first_sampler_short first_loop start_of end_of loop_bits is_broken is_miscounted is_other_format is_loop_invalid has_no_place import_answer import_memory
memory_holds = refl

-- and after a refusal as it was
pub refused_holds : import_memory (whole (mono ++ two_samples ++ two_samples)) (replicate 6 9) 3 ≡ replicate 6 9
unfolding little twos chunk_at is_whole before chunks_from is_headed listing is_unreadable chunks_in named first_of is_once any_short is_mono16 is_sampler_short loop_in first_sampler_short first_loop start_of end_of loop_bits is_broken is_miscounted is_other_format is_loop_invalid has_no_place import_answer import_memory
refused_holds = refl
