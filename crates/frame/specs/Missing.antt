-- How many words of sample memory the running voices of a frame ask for and miss, by the registers
-- as the frame begins: a sum over the record that is lent. That the turns come to the same number
-- is proofs/Missing. Then what it is for no word to be missing. Assumes nothing.
use Rattle.std.specs.Prelude.{IsTrue, List, ℕ, ◌+◌, ◌≤◌, slice_index}
use Rattle.numbers.specs.Sum.{sum}
use Rattle.control.specs.Control.{runs}
use Rattle.machine.specs.Words.{actv_word}
use Rattle.machine.specs.Voices.{voice_at}
use Rattle.voice.specs.Voice.{voice_of}
use Rattle.voice.specs.Missed.{missed_by, BothThere}

-- the voices 0 to ACTV, each with what it misses
unfoldable pub missed_in : List ℕ → List ℕ → ℕ
missed_in memory m =
    sum (slice_index m actv_word + 1) (λ v. missed_by memory (voice_of (voice_at m v)))

-- of every active voice that runs, both words are in the memory
abbrev pub AllThere : List ℕ → List ℕ → Type 0
AllThere memory m =
    (v : ℕ) → v ≤ slice_index m actv_word → IsTrue (runs (voice_of (voice_at m v)).cr)
    → BothThere memory (voice_of (voice_at m v))
