-- Frames computed from their definition. In order: two notes, and a record that plays some; the frame of a record; a table of chords
-- and what is heard of them, with its theorem; one of voices and how many words they miss, with its theorem; one note's first frame, and its
-- second; records in which a voice waits, and the vector after their frames. Assumes nothing.
--
-- The rows of chords show what becomes of channel sums past the rails. A sum held after each voice would be heard: nine voices would give what
-- eight do, and high and low voices together would depend on which came first.
use Rattle.std.specs.Prelude.{Err}
use mathlib.Core.Path.{◌≡◌, refl}
use mathlib.Core.Bool.{true}
use mathlib.Core.List.{List, [], ◌∷◌, ◌++◌, map}
use Prim.Native.Nat.{ℕ, suc}
use lib.IntN.{ℤ, pos}
use lib.ListN.{get_or, set, replicate}
use Rattle.answer.specs.Answer.{Answer, Done}
use Rattle.numbers.specs.Numbers.{floor_div, floor_mod, minus, signed, word, held}
use Rattle.numbers.specs.Sum.{sum}
use Rattle.control.specs.Control.{bit_of, flag_of, with_bit, runs}
use Rattle.filter.specs.Filter.{low_pass, high_pass, coefficient, pole3, pole4, filtered}
use Rattle.volume.specs.Volume.{mantissa, exponent, volume_of, panned}
use Rattle.channel.specs.Channel.{mixed, put_out}
use Rattle.ramp.specs.Ramp.{increment, ramped, slow_ramped}
use Rattle.address.specs.Address.{raised, forward_event, forward, stepped}
use Rattle.sample.specs.Sample.{first_at, second_at, sample_of, fetched, fraction, interpolated, missing_of, sampled}
use Rattle.voice.specs.Turn.{last_outputs, ramped_levels, with_outputs, moved, stopped_turn, running_turn, turn_of}
use Rattle.answer.specs.declared.Refusal.TheVariants.{OutputLength}
use Rattle.machine.specs.Words.{cr_word, accum_word, actv_word, voice_word, shared_bits, bits_of, cut, cut_to, is_vector, has_true_mask, waiting_voices, with_mask, valid, irqv_word, no_interrupt}
use Rattle.machine.specs.Voices.{voice_at, put_voice}
use Rattle.machine.specs.Check.{checked}
use Rattle.machine.specs.Waiting.{mask_given}
use Rattle.machine.specs.Reset.{reset_answer, reset_word, words_from, fresh}
use Rattle.voice.specs.Voice.{words_of}
use Rattle.voice.specs.Missed.{missed_by}
use Rattle.frame.specs.Missing.{missed_in}
use Rattle.frame.specs.Frame.{added_to, added, signalled, turn_at, turns, heard, silenced, closed, played, frame_answer, frame_record, frame_output, frame_missing}

-- A voice at the top of its left volume, and at volume 0 on the right, its poles filled with p. It loops from END to START 2048, and
-- LVOL falls from one frame to the next.
abbrev note : ℕ → ℕ → List ℕ
note END p =
    776 ∷ 1 ∷ 0xFFF0 ∷ 0x8000 ∷ 0 ∷ 0 ∷ 9 ∷ 0xFFF0 ∷ 0 ∷ 0xFFF0 ∷ 0
    ∷ 2048 ∷ END ∷ END ∷ p ∷ p ∷ p ∷ p ∷ p ∷ p ∷ []

-- on the greatest sample and on the least; and the memory where they are
abbrev pub high : List ℕ
high = note 10240 131068

abbrev pub low : List ℕ
low = note 20480 131072

abbrev pub memory : List ℕ
memory = replicate 8 32767 ++ replicate 4 32768

abbrev pub silence : List ℤ
silence = replicate 12 (pos 0)

-- a record after a reset, with these voices from voice v on
abbrev pub playing : ℕ → List (List ℕ) → List ℕ
playing v [] = fresh
playing v (w ∷ ws) = put_voice (playing (suc v) ws) v w

-- what a frame answers, says to be missing, leaves and puts out; all that it computes by is named here, once
unfoldable pub framed : List ℕ → Answer × (ℕ × (List ℕ × List ℤ))
unfolding floor_div floor_mod signed word held bit_of flag_of with_bit runs low_pass high_pass coefficient pole3 pole4 filtered mantissa exponent volume_of panned mixed put_out increment ramped slow_ramped raised forward_event forward stepped first_at second_at sample_of fetched fraction interpolated last_outputs ramped_levels with_outputs moved stopped_turn sampled running_turn turn_of shared_bits bits_of cut cut_to is_vector has_true_mask waiting_voices with_mask valid voice_at put_voice reset_answer checked reset_word words_from fresh words_of added_to added signalled turn_at turns heard silenced closed played frame_answer frame_record frame_output missing_of missed_by sum missed_in frame_missing
framed m = (frame_answer m memory silence, (frame_missing m memory silence, (frame_record m memory silence, frame_output m memory silence)))

abbrev left : List (List ℕ) → ℤ
left voices = get_or (heard (played memory (playing 0 voices))) 0 (pos 0)

pub chords : List (ℤ × ℤ)
chords =
    (left (high ∷ []), pos 523248)
    ∷ (left (low ∷ []), minus 523264)
    ∷ (left (replicate 8 high), pos 524287)
    ∷ (left (replicate 9 high), minus 524288)
    ∷ (left (high ∷ high ∷ low ∷ []), pos 523232)
    ∷ (left (low ∷ high ∷ high ∷ []), pos 523232)
    ∷ []

pub chords_heard : map (λ (row : ℤ × ℤ). row.0) chords ≡ map (λ (row : ℤ × ℤ). row.1) chords
unfolding chords framed
chords_heard = refl

-- ---- missing words

-- The memory has twelve words; in one row none is lent. A voice that reaches its last one misses the next, which is not heard, since the voice is at a whole sample;
-- one beyond it misses both; and the last word of the bank is missing, where the next is the bank's first, which is there. A voice whose CR is
-- 777 or 778 has STP0 or STP1, and misses none; nor does voice 5 where ACTV is 4.
abbrev ends : List ℕ
ends = note 22528 131068

abbrev beyond : List ℕ
beyond = note 24576 131068

abbrev wraps : List ℕ
wraps = note 4294965248 131068

pub missed : List (ℕ × ℕ)
missed =
    (missed_in memory (playing 0 (high ∷ low ∷ [])), 0)
    ∷ (missed_in memory (playing 0 (ends ∷ [])), 1)
    ∷ (missed_in memory (playing 0 (beyond ∷ [])), 2)
    ∷ (missed_in memory (playing 0 (wraps ∷ [])), 1)
    ∷ (missed_in [] (playing 0 (wraps ∷ [])), 2)
    ∷ (missed_in memory (playing 0 (set beyond cr_word 777 ∷ set beyond cr_word 778 ∷ [])), 0)
    ∷ (missed_in memory (playing 0 (high ∷ ends ∷ beyond ∷ [])), 3)
    ∷ (missed_in memory (playing 4 (beyond ∷ beyond ∷ [])), 4)
    ∷ (missed_in memory (set (playing 4 (beyond ∷ beyond ∷ [])) actv_word 4), 2)
    ∷ []

pub missed_counted : map (λ (row : ℕ × ℕ). row.0) missed ≡ map (λ (row : ℕ × ℕ). row.1) missed
unfolding missed framed
missed_counted = refl

-- ---- one note

abbrev pub one : List ℕ
one = playing 0 (high ∷ [])

pub one_done : frame_answer one memory silence ≡ Done
unfolding framed
one_done = refl

-- the top of the left volume; and volume 0, which is not silence
pub one_heard : frame_output one memory silence ≡ pos 523248 ∷ pos 7 ∷ replicate 10 (pos 0)
unfolding framed
one_heard = refl

-- no word is missing; where the memory ends with the word that the note is at, the next one is
pub one_there : frame_missing one memory silence ≡ 0
unfolding framed
one_there = refl

abbrev pub short : List ℕ
short = replicate 6 32767

pub short_done : frame_answer one short silence ≡ Done
unfolding framed
short_done = refl

pub one_missing : frame_missing one short silence ≡ 1
unfolding framed
one_missing = refl

-- past END, back to START
pub one_stepped : get_or (frame_record one memory silence) (voice_word 0 accum_word) 0 ≡ 2049
unfolding framed
one_stepped = refl

-- the second frame has the volume as the first left it
pub two_heard : frame_output (frame_record one memory silence) memory (frame_output one memory silence) ≡ pos 515056 ∷ pos 7 ∷ replicate 10 (pos 0)
unfolding framed
two_heard = refl

-- ---- a voice that waits

-- voice v, stopped, with its flag set, and so in the mask
abbrev waits_alone : ℕ → List ℕ
waits_alone v = with_mask (set fresh (voice_word v cr_word) 131)

abbrev pub flagged : List ℕ
flagged = waits_alone 0

pub flagged_valid : valid flagged ≡ true
unfolding framed
flagged_valid = refl

pub one_waits : mask_given flagged ≡ 1
unfolding framed mask_given
one_waits = refl

-- what a frame answers, and what the vector is after it
abbrev vector_after : List ℕ → List ℤ → Answer × ℕ
vector_after m out = (frame_answer m memory out, get_or (frame_record m memory out) irqv_word 0)

-- an empty one takes the voice that waits; it stays empty where none does, and where the one that does, voice 7, is not active
pub vectors_after :
    (vector_after flagged silence ≡ (Done, 0))
    × ((vector_after one silence ≡ (Done, no_interrupt)) × (vector_after (set (waits_alone 7) actv_word 6) silence ≡ (Done, no_interrupt)))
unfolding framed
vectors_after = (refl, (refl, refl))

-- What frame/proofs/Vector asks of the frame is needed: a vector that names a voice stays, whoever waits; and one that is empty stays so where the
-- frame is refused, here for want of an output.
pub vectors_kept : (vector_after (set flagged irqv_word 5) silence ≡ (Done, 5)) × (vector_after flagged [] ≡ (Err OutputLength, no_interrupt))
unfolding framed
vectors_kept = (refl, refl)
