-- A loop that was imported plays in tune: a voice that gets what an import answered holds its note
-- with a period of just as many whole samples as the loop has, or twice as many there and back.
-- In order: the loop's samples, and those of one round, by the loop's type; what a voice gets; a
-- voice that plays; the statement. Assumes nothing.
use Rattle.std.specs.Prelude.{ℕ, ◌+◌, ◌-◌, ◌*◌, ◌≤◌, ◌≡◌, IsTrue, IsFalse, if◌then◌else◌, List}
use Rattle.std.specs.Prelude.{◌==◌}
use Rattle.answer.specs.Answer.{is_done}
use Rattle.control.specs.Control.{flag_of, runs, lei_bit, lpe_bit, ble_bit, dir_bit}
use Rattle.sample.specs.Sample.{whole_sample}
use Rattle.chunks.specs.Chunks.{chunks_of}
use Rattle.wave.specs.Wave.{Present, loop_of}
use Rattle.wave_in.specs.Import.{Imported, Imports}
use Rattle.voice.specs.Voice.{Voice}
use Rattle.voice.specs.Tune.{turns_of, Kind, Forward, Reverse, Bidirectional, period_of, InTune}

-- from the loop's first sample to its last
abbrev pub loop_samples : ℕ → ℕ → ℕ
loop_samples first last = last + 1 - first

-- by the loop's type in the file: the kind of loop that a voice plays, and the samples of one round
-- of a loop of n
abbrev pub kind_of : ℕ → Kind
kind_of type = if type == 1 then Bidirectional else if type == 2 then Reverse else Forward

abbrev pub round_samples : ℕ → ℕ → ℕ
round_samples type n = if type == 1 then 2 * n else n

-- The voice has START, END and the loop bits of what was answered; the other bits of its control
-- register are its own. In a loop there and back the direction is the voice's own as well: it
-- changes at each loop point.
pub record Gets (r : Imported) (v : Voice) : Type 0 where
  pub start : v.start ≡ r.start
  pub end : v.end ≡ r.end
  pub loops : flag_of lpe_bit v.cr ≡ flag_of lpe_bit r.bits
  pub both_ways : flag_of ble_bit v.cr ≡ flag_of ble_bit r.bits
  pub direction : IsFalse (flag_of ble_bit r.bits) → flag_of dir_bit v.cr ≡ flag_of dir_bit r.bits

-- It runs, heeds its loop points and is within the loop, of n samples, and no step is longer than
-- the loop.
pub record Plays (n : ℕ) (v : Voice) : Type 0 where
  pub running : IsTrue (runs v.cr)
  pub heeded : IsFalse (flag_of lei_bit v.cr)
  pub from : v.start ≤ v.accum
  pub to : v.accum ≤ v.end
  pub pace : v.fc ≤ n * whole_sample

-- Its period is that of one round, in whole samples, and it is in tune after any number of turns,
-- whatever the memory holds in each.
pub record Holds (type n : ℕ) (v : Voice) : Type 0 where
  pub period : period_of (kind_of type) v ≡ round_samples type n * whole_sample
  pub in_tune : (memory : ℕ → List ℕ) (slow : ℕ → ℕ) (turns : ℕ)
      → InTune (kind_of type) turns v (turns_of memory slow turns v)

abbrev pub ImportedInTune : Type 0
ImportedInTune =
    (file memory : List ℕ) (word : ℕ) (r : Imported) (after : List ℕ)
    → Imports file memory word r after → IsTrue (is_done r.answer)
    → (type first last : ℕ) → loop_of file (chunks_of file) ≡ Present type first last
    → (v : Voice) → Gets r v → Plays (loop_samples first last) v
    → Holds type (loop_samples first last) v
