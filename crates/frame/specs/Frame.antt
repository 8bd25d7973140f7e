-- One frame over the record: the turns of voices 0 to ACTV, and the closing.
-- In order: a voice added to its channel; the interrupt step; one turn; the turns; the closing; the
-- call. How many words its voices miss is specs/Missing. Assumes nothing.
use Rattle.std.specs.Prelude.{◌≡◌, ℕ, zero, suc, ◌+◌, ◌*◌, ◌%◌, Bool, if◌then◌else◌, not, ◌&&◌}
use Rattle.std.specs.Prelude.{List, [], ◌∷◌, ◌++◌, map, ◌==◌, nat_lt, ℤ, length, slice_index}
use Rattle.std.specs.Prelude.{slice_set, take, drop, replicate}
use Rattle.numbers.specs.Numbers.{word}
use Rattle.answer.specs.Answer.{Answer, first_refusal, is_done}
use Rattle.answer.specs.declared.Refusal.TheVariants.{RecordLength, RecordInvalid, TooFewVoices}
use Rattle.answer.specs.declared.Refusal.TheVariants.{MemoryLength, OutputLength}
use Rattle.control.specs.Control.{flag_of, channel_of, irq_bit}
use Rattle.channel.specs.Channel.{mixed, put_out}
use Rattle.machine.specs.Words.{irqv_word, actv_word, slow_word, sums_word, output_values}
use Rattle.machine.specs.Words.{no_interrupt, with_mask}
use Rattle.machine.specs.Voices.{voice_at, put_voice}
use Rattle.machine.specs.Check.{wrong_length, not_valid}
use Rattle.sample.specs.Sample.{too_many_words}
use Rattle.voice.specs.Turn.{turn_of}
use Rattle.voice.specs.Voice.{voice_of, words_of}
use Rattle.frame.specs.Missing.{missed_in}

-- ---- one turn

-- a value added to one sum
unfoldable pub added_to : List ℕ → ℕ → ℤ → List ℕ
added_to m i z = slice_set m i (mixed (slice_index m i) (word 23 z))

-- left and right added to the sums of channel c; channels 6 and 7 are none
unfoldable pub added : List ℕ → ℕ → ℤ → ℤ → List ℕ
added m c left right =
    if nat_lt c 6 then added_to (added_to m (sums_word + 2 * c) left) (sums_word + 2 * c + 1) right
    else m

-- the interrupt step of voice v, whose control register is CR: a waiting voice enters an empty
-- vector
unfoldable pub signalled : List ℕ → ℕ → ℕ → List ℕ
signalled m v CR =
    if flag_of irq_bit CR && slice_index m irqv_word == no_interrupt then slice_set m irqv_word v
    else m

-- The turn of voice v. It is taken on the registers as they stand; the voice's words become those
-- that the turn leaves, and the mask follows its flag; left and right are added to the sums of the
-- channel that the voice was on; and the interrupt step goes by the flag as the turn left it.
unfoldable pub turn_at : List ℕ → ℕ → List ℕ → List ℕ
turn_at memory v m =
    let before = voice_of (voice_at m v) in
    let t = turn_of memory (slice_index m slow_word) before in
    let stored = with_mask (put_voice m v (words_of t.voice)) in
    let sounded = added stored (channel_of before.cr) t.left t.right in
    signalled sounded v t.voice.cr

-- the turns of voices 0 to n - 1, one after the other
unfoldable pub turns : List ℕ → ℕ → List ℕ → List ℕ
turns memory zero m = m
turns memory (suc n) m = turn_at memory n (turns memory n m)

-- ---- the closing

-- what is put out: each sum, held to its rails
unfoldable pub heard : List ℕ → List ℤ
heard m = map put_out (take output_values (drop sums_word m))

-- the sums at 0
unfoldable pub silenced : List ℕ → List ℕ
silenced m =
    take sums_word m ++ (replicate output_values 0 ++ drop output_values (drop sums_word m))

-- the record after the closing: the sums are 0, and the slow-ramp counter is one on
unfoldable pub closed : List ℕ → List ℕ
closed m = let s = silenced m in slice_set s slow_word ((slice_index s slow_word + 1) % 8)

-- ---- the call

-- all turns of a frame
unfoldable pub played : List ℕ → List ℕ → List ℕ
played memory m = turns memory (slice_index m actv_word + 1) m

-- the least ACTV that a frame takes, and a record that has less: fewer than five voices are active
abbrev pub least_actv : ℕ
least_actv = 4

abbrev pub too_few : List ℕ → Bool
too_few m = nat_lt (slice_index m actv_word) least_actv

unfoldable pub frame_answer : List ℕ → List ℕ → List ℤ → Answer
frame_answer m memory out =
    first_refusal
    ((wrong_length m, RecordLength)
    ∷ (not_valid m, RecordInvalid)
    ∷ (too_few m, TooFewVoices)
    ∷ (too_many_words (length memory), MemoryLength)
    ∷ (not (length out == output_values), OutputLength)
    ∷ [])

unfoldable pub frame_record : List ℕ → List ℕ → List ℤ → List ℕ
frame_record m memory out =
    if is_done (frame_answer m memory out) then closed (played memory m) else m

unfoldable pub frame_output : List ℕ → List ℕ → List ℤ → List ℤ
frame_output m memory out =
    if is_done (frame_answer m memory out) then heard (played memory m) else out

-- how many words were missing; a refused frame gives 0
unfoldable pub frame_missing : List ℕ → List ℕ → List ℤ → ℕ
frame_missing m memory out = if is_done (frame_answer m memory out) then missed_in memory m else 0

-- what a frame promises: its answer, the number of missing words, the record afterwards and the
-- output afterwards
pub record Frames (m memory : List ℕ) (out : List ℤ) (answer : Answer) (missing : ℕ)
    (after : List ℕ) (sound : List ℤ) : Type 0 where
  pub answers : answer ≡ frame_answer m memory out
  pub misses : missing ≡ frame_missing m memory out
  pub leaves : after ≡ frame_record m memory out
  pub sounds : sound ≡ frame_output m memory out
