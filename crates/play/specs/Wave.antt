-- What is written of a score: the head of a WAVE file, and what is heard of the score. Assumes
-- nothing.
use Rattle.std.specs.Prelude.{ℕ, ◌*◌, ◌≡◌, List, ◌++◌, length, Option}
use Rattle.std.specs.Io.KnownBytes.{Appends}
use Rattle.wave_head.specs.Head.{sound_head}
use Rattle.scores.specs.Score.{Filled, score_frames}
use Rattle.scores.specs.Sound.{sample_size}
use Rattle.scores.specs.Playing.{score_sound}

-- between two contents of a writer; the sample memory has the score's words, and no more
abbrev pub WritesSound : Option (List ℕ) → Option (List ℕ) → List ℕ → Type 0
WritesSound old new score =
    (words : List ℕ)
    × (length words ≡ 4096)
    × Filled 4096 score words
    × Appends old new
    (sound_head 2 31250 (sample_size * score_frames score) ++ score_sound words score)
