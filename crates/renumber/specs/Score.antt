-- The calls of a plain host. Before each frame it writes whole registers of voices, each after its
-- page; then it runs the frame. In order: the calls of writes; a score and its calls; the score on
-- other voices; what a score may hold. The calls of one write are `calls/specs/WholeWrite`. Assumes
-- nothing.
use Rattle.std.specs.Prelude.{List, [], ◌∷◌, ◌++◌, map, ℕ, ◌^◌, ◌<◌, ◌≤◌, pos, length, replicate}
use Rattle.sample.specs.Sample.{most_memory_words}
use Rattle.machine.specs.Words.{voice_count, voice_words, output_values}
use Rattle.calls.specs.Calls.{Call, Frame}
use Rattle.calls.specs.WholeWrite.{write_calls}
use Rattle.renumber.specs.Demand.{Put}

-- ---- the calls of writes

unfoldable pub writes : Put → List Call
writes p = write_calls p.voice p.word p.number

unfoldable pub all_writes : List Put → List Call
all_writes [] = []
all_writes (p ∷ ps) = writes p ++ all_writes ps

-- ---- a score

-- for one frame: the writes before it, and the sample memory that it is lent
pub record Step : Type 0 where
  pub puts : List Put
  pub memory : List ℕ

unfoldable pub calls_of : List Step → List Call
calls_of [] = []
calls_of (f ∷ fs) =
    all_writes f.puts ++ Frame f.memory (replicate output_values (pos 0)) ∷ calls_of fs

-- ---- the score on other voices

unfoldable pub put_on : (ℕ → ℕ) → Put → Put
put_on s p = record { voice = s p.voice; word = p.word; number = p.number }

unfoldable pub step_on : (ℕ → ℕ) → Step → Step
step_on s f = record { puts = map (put_on s) f.puts; memory = f.memory }

-- ---- what a score may hold: words of the 32 voices, 32 bits for each, and memory that no frame
-- refuses

pub record Fits (p : Put) : Type 0 where
  pub voice : p.voice < voice_count
  pub word : p.word < voice_words
  pub number : p.number < 2 ^ 32

abbrev pub AllFit : List Put → Type 0
AllFit [] = Unit {0}
AllFit (p ∷ ps) = Fits p × AllFit ps

abbrev pub Playable : List Step → Type 0
Playable [] = Unit {0}
Playable (f ∷ fs) = AllFit f.puts × (length f.memory ≤ most_memory_words) × Playable fs
