-- Two machines whose voices are in a relation P, voice v of the one and voice s v of the other, and
-- that have the same of all else that a frame hears: the shape of what theorems about two machines
-- ask. `Match` of `renumber` is it, of voices with the same registers, spelled out there so that
-- its statement stands in one file. Assumes nothing.
use Rattle.std.specs.Prelude.{◌≡◌, List, ℕ, ◌+◌, ◌<◌, slice_index}
use Rattle.machine.specs.Words.{voice_count, actv_word, slow_word, sums_word, output_values}
use Rattle.machine.specs.Voices.{voice_at}

pub record Paired (P : List ℕ → List ℕ → Type 0) (s : ℕ → ℕ) (m n : List ℕ) : Type 0 where
  pub voices : (v : ℕ) → v < voice_count → P (voice_at m v) (voice_at n (s v))
  pub active : slice_index m actv_word ≡ slice_index n actv_word
  pub slow : slice_index m slow_word ≡ slice_index n slow_word
  pub sums : (c : ℕ) → c < output_values
      → slice_index m (sums_word + c) ≡ slice_index n (sums_word + c)
