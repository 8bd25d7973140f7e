-- What the steps of an import promise one another: whether it is refused, and where the samples go.
-- Assumes nothing.
use Rattle.std.specs.Prelude.{◌≡◌, ℕ, ◌+◌, ◌*◌, ◌≤◌, List, Option, Result, Ok, Err}
use Rattle.answer.specs.Answer.{Answer}
use Rattle.answer.specs.declared.Refusal.{Refusal}
use Rattle.chunks.specs.Chunks.{chunks_of}
use Rattle.chunks.specs.declared.Chunk.{Chunk}
use Rattle.wave.specs.Wave.{data_of, count_of, loop_of}
use Rattle.wave.specs.declared.Loop.{Loop}
use Rattle.wave.specs.Parse.{InFile}
use Rattle.wave_in.specs.Import.{import_answer}

-- a value where an answer is done
abbrev pub given : {T : Type 0} → Answer → T → Result T Refusal
given (Ok _) x = Ok x
given (Err e) x = Err e

unfoldable pub settled_of : List ℕ → ℕ → ℕ → Result (Chunk × Option Loop) Refusal
settled_of file room word =
    given (import_answer file room word) (data_of (chunks_of file), loop_of file (chunks_of file))

-- the samples' bytes are in the file, by twos, and as many words are lent from the named one on
pub record Placeable (file : List ℕ) (c : Chunk) (room word : ℕ) : Type 0 where
  pub inside : InFile file c
  pub even : c.size ≡ 2 * count_of c
  pub lent : word + count_of c ≤ room
