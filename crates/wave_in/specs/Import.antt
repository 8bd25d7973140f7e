-- What importing a WAVE file promises.
-- In order: the refusals, each by itself, and their order; what the call answers; the memory
-- afterwards; the promise. Assumes nothing.
use Rattle.std.specs.Prelude.{◌≡◌, ℕ, ◌+◌, ◌%◌, Bool, false, if◌then◌else◌, not, ◌&&◌, ◌||◌, List}
use Rattle.std.specs.Prelude.{[], ◌∷◌, nat_le, nat_lt, ◌==◌, length, Option, Some, None, Result, Ok}
use Rattle.std.specs.Prelude.{Err}
use Rattle.answer.specs.Answer.{Answer, Done, first_refusal, is_done}
use Rattle.answer.specs.declared.Refusal.{Refusal}
use Rattle.answer.specs.declared.Refusal.TheVariants.{MemoryLength, FileBroken, ChunkCount}
use Rattle.answer.specs.declared.Refusal.TheVariants.{SampleFormat, LoopInvalid, NoPlace}
use Rattle.machine.specs.Words.{voice_range, end_word}
use Rattle.layout.specs.Parts.{with_part}
use Rattle.sample.specs.Sample.{bank_words, too_many_words}
use Rattle.chunks.specs.Chunks.{chunks_of, named, format_name, data_name}
use Rattle.chunks.specs.declared.Chunk.{Chunk}
use Rattle.wave.specs.Wave.{is_once, format_of, is_mono16, data_of, count_of, samples_of, loop_of}
use Rattle.wave.specs.Wave.{is_broken}
use Rattle.wave.specs.declared.Loop.{Loop}
use Rattle.wave_in.specs.Registers.{start_of, end_of, loop_bits}
use Rattle.wave_in.specs.declared.Taken.{Taken}

-- ---- refusals; room is how many words are lent, and word the one that the caller names

-- 5 is `too_many_words`, of the memory alone, and 20 `is_broken`, of the file alone

-- 21: not one format chunk, or not one data chunk
unfoldable pub is_miscounted : List Chunk → Bool
is_miscounted cs = not (is_once (named format_name cs) && is_once (named data_name cs))

-- 22: samples that are no 16-bit PCM of one channel, or of which the last lacks a byte
unfoldable pub is_other_format : List ℕ → List Chunk → Bool
is_other_format file cs = not (is_mono16 file (format_of cs)) || (data_of cs).size % 2 == 1

-- 23: a loop with a point past the last sample, with its last before its start, or of a type that
-- is none of the three
unfoldable pub is_loop_invalid : ℕ → Option Loop → Bool
is_loop_invalid count None = false
is_loop_invalid count (Some l) = nat_le count l.last || (nat_lt l.last l.start || nat_lt 2 l.form)

-- 24: the lent memory or the bank ends before the samples do, or END is greater than its register's
-- greatest value. (It is a number of whole samples, so that is where it has more than 32 bits.)
unfoldable pub has_no_place : ℕ → ℕ → ℕ → Option Loop → Bool
has_no_place room word count l =
    nat_lt room (word + count)
    || (nat_lt bank_words (word % bank_words + count)
    || nat_le (voice_range end_word) (end_of word l))

-- all of them, in their order
abbrev pub import_tests : List ℕ → ℕ → ℕ → List (Bool × Refusal)
import_tests file room word =
    let cs = chunks_of file in
    let count = count_of (data_of cs) in
    (too_many_words room, MemoryLength)
    ∷ (is_broken file, FileBroken)
    ∷ (is_miscounted cs, ChunkCount)
    ∷ (is_other_format file cs, SampleFormat)
    ∷ (is_loop_invalid count (loop_of file cs), LoopInvalid)
    ∷ (has_no_place room word count (loop_of file cs), NoPlace)
    ∷ []

unfoldable pub import_answer : List ℕ → ℕ → ℕ → Answer
import_answer file room word = first_refusal (import_tests file room word)

-- ---- what is answered: in a refusal all but the answer is 0, and without a loop START, END and
-- the bits are

pub record Imported : Type 0 where
  pub answer : Answer
  pub start : ℕ
  pub end : ℕ
  pub bits : ℕ
  pub samples : ℕ

-- what the call gives, or why it is refused
abbrev pub outcome_of : Result Taken Refusal → Imported
outcome_of (Ok i) =
    record { answer = Done; start = i.start; end = i.end; bits = i.bits; samples = i.samples }
outcome_of (Err e) = record { answer = Err e; start = 0; end = 0; bits = 0; samples = 0 }

abbrev pub refused_by : Answer → Imported
refused_by a = record { answer = a; start = 0; end = 0; bits = 0; samples = 0 }

abbrev pub taken_at : ℕ → Chunk → Option Loop → Imported
taken_at word pcm l =
    record {
      answer = Done;
      start = start_of word l;
      end = end_of word l;
      bits = loop_bits l;
      samples = count_of pcm;
    }

unfoldable pub imported : List ℕ → ℕ → ℕ → Imported
imported file room word =
    if is_done (import_answer file room word)
    then taken_at word (data_of (chunks_of file)) (loop_of file (chunks_of file))
    else refused_by (import_answer file room word)

-- ---- the memory afterwards: the samples stand from the named word on

unfoldable pub import_memory : List ℕ → List ℕ → ℕ → List ℕ
import_memory file memory word =
    if is_done (import_answer file (length memory) word)
    then with_part memory word (samples_of file (data_of (chunks_of file)))
    else memory

-- the promise: all that is answered, and every word of the memory afterwards
pub record Imports (file memory : List ℕ) (word : ℕ) (r : Imported) (after : List ℕ) : Type 0 where
  pub answers : r ≡ imported file (length memory) word
  pub leaves : after ≡ import_memory file memory word
