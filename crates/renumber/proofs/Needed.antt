-- What the theorem asks is needed: without it the same note sounds otherwise. Each case is computed on the machines of the example, and, but for
-- the word that is missing, the flags and the mask, compares the first of the twelve values.
-- In order: how loud each case is; that the note sounds, and that it can miss a word; then, each as what may not differ, the sample memory, a
-- write that is no voice's, an active voice that becomes an inactive one, and a channel sum; last the flags and the mask, which may come to
-- differ. Assumes nothing.
use mathlib.Core.Path.{◌≡◌, refl, ap}
use mathlib.Core.Logic.{◌≢◌}
use mathlib.Core.List.{List, [], ◌∷◌}
use Prim.Native.Nat.{ℕ, ◌<◌}
use native.Mathlib.Omega.{arith}
use lib.IntN.{ℤ, pos, nat_abs}
use lib.ListN.{get_or, set, replicate}
use Rattle.numbers.specs.Numbers.{floor_div, floor_mod, signed, word, held}
use Rattle.numbers.specs.Sum.{sum}
use Rattle.control.specs.Control.{bit_of, flag_of, with_bit, runs, irq_bit}
use Rattle.sample.specs.Sample.{first_at, second_at, fetched, missing_of, sample_of, fraction, interpolated, sampled}
use Rattle.filter.specs.Filter.{low_pass, high_pass, coefficient, pole3, pole4, filtered}
use Rattle.volume.specs.Volume.{mantissa, exponent, volume_of, panned}
use Rattle.channel.specs.Channel.{mixed, put_out}
use Rattle.address.specs.Address.{raised, forward_event, reverse_event, forward, reverse, stepped}
use Rattle.machine.specs.Words.{cr_word, actv_word, sums_word, shared_bits, bits_of, cut, cut_to, is_vector, has_true_mask, waiting_voices, with_mask, valid, wait_mask_word, voice_word}
use Rattle.machine.specs.Voices.{voice_at, put_voice}
use Rattle.machine.specs.Check.{checked}
use Rattle.machine.specs.Reset.{reset_answer, reset_word, words_from, fresh}
use Rattle.registers.specs.Registers.{register_of, low_page, high_page, sum_page, with_byte, stored, written_to, read_as, acknowledged, side_effect, read_from}
use Rattle.registers.specs.Access.{byte_answer, write_record, read_record}
use Rattle.voice.specs.Turn.{ramped_levels, with_outputs, moved, stopped_turn, running_turn, turn_of, last_outputs}
use Rattle.voice.specs.Voice.{words_of}
use Rattle.voice.specs.Missed.{missed_by}
use Rattle.frame.specs.Missing.{missed_in}
use Rattle.frame.specs.Frame.{added_to, added, signalled, turn_at, turns, heard, silenced, closed, played, frame_answer, frame_record, frame_output, frame_missing}
use Rattle.calls.specs.Calls.{Call, Write, Read, Frame, after, given_by, output_from, run, outputs}
use Rattle.renumber.proofs.Example.{note, machine, one, other}

-- a frame over sample memory that holds one value, lent an output of ones, which a refused frame would leave; and how loud a run is on the
-- left of channel 0, in its first frame
unfoldable pub frame : ℕ → Call
frame x = Frame (x ∷ x ∷ []) (replicate 12 (pos 1))

unfoldable pub loudness : List ℤ → ℕ
loudness out = nat_abs (get_or out 0 (pos 0))

-- ACTV is written, to 4: page 0 is set, and then register 11
unfoldable pub silence : List Call
silence = Write 63 0 ∷ Write 44 0 ∷ Write 45 0 ∷ Write 46 0 ∷ Write 47 4 ∷ frame 1000 ∷ []

pub computed :
    (loudness (outputs one (frame 1000 ∷ [])) ≡ 15952)
    × (loudness (outputs other (frame 1000 ∷ [])) ≡ 15952)
    × (loudness (outputs other (frame 2000 ∷ [])) ≡ 31905)
    × (loudness (outputs other silence) ≡ 0)
    × (loudness (outputs (set one actv_word 4) (frame 1000 ∷ [])) ≡ 15952)
    × (loudness (outputs (set other actv_word 4) (frame 1000 ∷ [])) ≡ 0)
    × (loudness (outputs (set other sums_word 1) (frame 1000 ∷ [])) ≡ 15953)
unfolding frame loudness silence one other machine note put_voice voice_at fresh words_from reset_word valid cut_to cut bits_of shared_bits is_vector has_true_mask waiting_voices with_mask sum reset_answer checked outputs output_from after byte_answer write_record written_to stored with_byte register_of low_page high_page sum_page frame_answer frame_record frame_output played turns turn_at added added_to signalled mixed put_out heard silenced closed words_of turn_of running_turn stopped_turn with_outputs moved ramped_levels last_outputs sampled fetched fraction interpolated sample_of first_at second_at floor_div floor_mod signed word held filtered pole3 pole4 low_pass high_pass coefficient panned volume_of mantissa exponent stepped forward reverse forward_event reverse_event raised runs flag_of bit_of with_bit
computed = (refl, refl, refl, refl, refl, refl, refl)

-- two runs that are not equally loud do not put out the same
differ : (x y : List ℤ) → loudness x ≢ loudness y → x ≢ y
differ x y h e = h (ap loudness e)

-- the note sounds, so the theorem does not speak of silence alone
pub note_sounds : 0 < loudness (outputs one (frame 1000 ∷ []))
note_sounds = omega (arith, computed.0)

-- nor of frames alone that miss no word: where one word of memory is lent, the note misses the next
pub note_misses : given_by one (Frame (1000 ∷ []) (replicate 12 (pos 1))) ≡ 1
unfolding one machine note put_voice voice_at fresh words_from reset_word valid cut_to cut bits_of shared_bits is_vector has_true_mask waiting_voices with_mask frame_answer given_by frame_missing missed_in sum missed_by missing_of fetched first_at second_at runs flag_of bit_of
note_misses = refl

-- each frame gets the same sample memory
pub memory_needed : outputs one (frame 1000 ∷ []) ≢ outputs other (frame 2000 ∷ [])
memory_needed = differ (outputs one (frame 1000 ∷ [])) (outputs other (frame 2000 ∷ [])) (λ e. omega (arith, computed.0, computed.2))

-- only voices' registers and the page are written: not ACTV
pub voices_needed : outputs one (frame 1000 ∷ []) ≢ outputs other silence
voices_needed = differ (outputs one (frame 1000 ∷ [])) (outputs other silence) (λ e. omega (arith, computed.0, computed.3))

-- active voices are mapped to active voices: where voices 0 to 4 are active, voice 5 is not
pub active_needed : outputs (set one actv_word 4) (frame 1000 ∷ []) ≢ outputs (set other actv_word 4) (frame 1000 ∷ [])
active_needed = differ (outputs (set one actv_word 4) (frame 1000 ∷ [])) (outputs (set other actv_word 4) (frame 1000 ∷ [])) (λ e. omega (arith, computed.4, computed.5))

-- channel sums are equal
pub sums_needed : outputs one (frame 1000 ∷ []) ≢ outputs (set other sums_word 1) (frame 1000 ∷ [])
sums_needed = differ (outputs one (frame 1000 ∷ [])) (outputs (set other sums_word 1) (frame 1000 ∷ [])) (λ e. omega (arith, computed.0, computed.6))

-- Interrupt flags are excepted, and the mask with them: a read of the vector on one machine alone clears a flag there.
pub flags_needed :
    (bit_of irq_bit (get_or (run one []) (voice_word 3 cr_word) 0) ≢ bit_of irq_bit (get_or (run one (Read 56 ∷ [])) (voice_word 3 cr_word) 0))
    × (get_or (run one []) wait_mask_word 0 ≢ get_or (run one (Read 56 ∷ [])) wait_mask_word 0)
unfolding one machine note put_voice fresh words_from reset_word valid cut_to cut bits_of shared_bits is_vector has_true_mask waiting_voices with_mask sum reset_answer checked run after byte_answer read_record read_from side_effect acknowledged read_as register_of bit_of with_bit
flags_needed = ((λ e. let q : ◌≡◌ {A = ℕ} 1 0 = e in omega arith), (λ e. let q : ◌≡◌ {A = ℕ} 8 0 = e in omega arith))
