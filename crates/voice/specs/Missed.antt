-- How many words of sample memory a voice asks for and misses, by its registers. Then what it is
-- for both to be there. Assumes nothing.
use Rattle.std.specs.Prelude.{if◌then◌else◌, List, ℕ, ◌<◌, length}
use Rattle.control.specs.Control.{runs}
use Rattle.sample.specs.Sample.{first_at, second_at, fetched, missing_of}
use Rattle.voice.specs.Voice.{Voice}

-- a running voice asks for the two words of its fetch; a stopped one asks for none
unfoldable pub missed_by : List ℕ → Voice → ℕ
missed_by memory v = if runs v.cr then missing_of (fetched memory v.cr v.accum) else 0

-- both words that it asks for where it runs are in the memory
pub record BothThere (memory : List ℕ) (v : Voice) : Type 0 where
  pub first : first_at v.cr v.accum < length memory
  pub second : second_at v.cr v.accum < length memory
