-- A score played, a number of calls at a time; its commands are in full.
-- In order: the calls that are left at a place of the score; frames and refusals of a run; what is
-- heard of it, and of a score; what one call comes to; what some do; all of them, in parts. Assumes
-- nothing.
use Rattle.std.specs.Prelude.{ℕ, ◌+◌, ◌*◌, ◌/◌, ◌-◌, ◌≤◌, ◌<◌, ◌≡◌, Bool, true, false}
use Rattle.std.specs.Prelude.{if◌then◌else◌, List, [], ◌∷◌, ◌++◌, length, take, drop, replicate}
use Rattle.layout.specs.Parts.{with_part}
use Rattle.answer.specs.Answer.{Answer, is_done}
use Rattle.machine.specs.Words.{record_words}
use Rattle.calls.specs.Calls.{Call, Reset, Write, Read, SetPot, Waiting, Frame, answer_to, after}
use Rattle.calls.specs.Calls.{output_from, run, answers, outputs}
use Rattle.repeats.specs.Repeats.{command_count}
use Rattle.scores.specs.Score.{calls_from, score_calls, command_no, times_of}
use Rattle.scores.specs.Sound.{sample_size, sample_bytes, sound_of}
use Rattle.scores.specs.declared.Played.{Played}

-- the calls that are left at command k, where so many of its own are made
abbrev pub left_from : List ℕ → List ℕ → ℕ → ℕ → List Call
left_from memory commands k made =
    drop made (calls_from memory commands (command_count commands - k) k)

-- ---- a run

unfoldable pub is_frame : Call → Bool
is_frame Reset = false
is_frame (Write a b) = false
is_frame (Read a) = false
is_frame (SetPot p) = false
is_frame Waiting = false
is_frame (Frame memory out) = true

unfoldable pub frames_in : List Call → ℕ
frames_in [] = 0
frames_in (c ∷ cs) = (if is_frame c then 1 else 0) + frames_in cs

unfoldable pub refusals : List Answer → ℕ
refusals [] = 0
refusals (a ∷ rest) = (if is_done a then 0 else 1) + refusals rest

-- what is heard of the calls, made one after the other on the record m
unfoldable pub heard_from : List ℕ → List Call → List ℕ
heard_from m cs = sound_of (frames_in cs) (outputs m cs)

-- The record that a score is played on is not valid: what is asked before a reset is refused.
abbrev pub first_record : List ℕ
first_record = replicate record_words 4294967295

-- what is heard of a score, whose words of sample memory these are
abbrev pub score_sound : List ℕ → List ℕ → List ℕ
score_sound memory score = heard_from first_record (score_calls memory score)

-- ---- one call

-- what is heard of it: four bytes of a frame, nothing of another
unfoldable pub heard_at : List ℕ → Call → List ℕ
heard_at m c = if is_frame c then sample_bytes (output_from m c) else []

-- it is made, and what is heard of it put at a place of the sound
pub record Makes (m : List ℕ) (c : Call) (sound : List ℕ) (at : ℕ) (answer : Answer)
    (later heard : List ℕ) : Type 0 where
  pub leaves : later ≡ after m c
  pub hears : heard ≡ with_part sound at (heard_at m c)
  pub answers : answer ≡ answer_to m c

-- ---- as many calls as the sound has room for, from a place of the score on; fewer only where no
-- command is left

abbrev pub next_calls : List ℕ → List ℕ → ℕ → ℕ → List ℕ → List Call
next_calls memory commands k made sound =
    take (length sound / sample_size) (left_from memory commands k made)

pub record Plays (m memory commands : List ℕ) (k made : ℕ) (sound : List ℕ) (r : Played)
    (later heard : List ℕ) : Type 0 where
  pub leaves : later ≡ run m (next_calls memory commands k made sound)
  pub counts : r.frames ≡ frames_in (next_calls memory commands k made sound)
  pub refuses : r.refused ≡ refusals (answers m (next_calls memory commands k made sound))
  pub hears : take (sample_size * r.frames) heard
      ≡ heard_from m (next_calls memory commands k made sound)
  pub stays : drop (sample_size * r.frames) heard ≡ drop (sample_size * r.frames) sound
  pub goes : left_from memory commands r.position.command r.position.made
      ≡ drop (length sound / sample_size) (left_from memory commands k made)
  pub fits : sample_size * r.frames ≤ length sound
  pub within : r.position.made ≤ times_of (command_no commands r.position.command)
  pub ends : r.position.command < command_count commands
      → length sound / sample_size ≤ length (left_from memory commands k made)

-- ---- a score in parts, one after the other, until no command is left

-- what one part was lent for its sound, what it answered, and what it left of the record and in the
-- sound
pub record Part : Type 0 where
  pub sound : List ℕ
  pub played : Played
  pub later : List ℕ
  pub heard : List ℕ

abbrev pub PlaysAll : List ℕ → List ℕ → List ℕ → ℕ → ℕ → List Part → Type 0
PlaysAll m memory commands k made [] = command_count commands ≤ k
PlaysAll m memory commands k made (p ∷ ps) =
    Plays m memory commands k made p.sound p.played p.later p.heard
    × PlaysAll p.later memory commands p.played.position.command p.played.position.made ps

unfoldable pub parts_heard : List Part → List ℕ
parts_heard [] = []
parts_heard (p ∷ ps) = take (sample_size * p.played.frames) p.heard ++ parts_heard ps
