-- `frame::turn` meets its contract: the voice's part of a valid record takes its turn, which counts what it misses; what it adds is added, and
-- its flag signalled. Assumes nothing.
use mathlib.Core.Path.{◌≡◌, ap, subst, ◌∙◌}
use mathlib.Core.List.{List}
use Prim.Native.Nat.{ℕ, ◌+◌, ◌-◌, ◌*◌, ◌<◌}
use native.Mathlib.Omega.{arith}
use borrow.Rule.Slice.PartMut.{put_mid}
use lib.ListN.{get_or, take, drop}
use Rattle.machine.specs.Words.{slow_word}
use Rattle.machine.specs.Voices.{voice_at}
use Rattle.machine.proofs.Valid.{Sound, InRange, sound, in_range, range_voice}
use Rattle.voice.specs.declared.Addend.{Addend}
use Rattle.voice.specs.Voice.{voice_of}
use Rattle.voice.specs.Missed.{missed_by}
use Rattle.voice.specs.Takes.{TakesTurn}
use Rattle.frame.proofs.Keeps.{ranges_of, sum_small}
use Rattle.frame.proofs.Taken.{back_range, mask_lacks, turn_taken}
use Rattle.frame.proofs.turn.Goals as goal

-- a voice's part is twenty words
abbrev part : ℕ → ℕ
part v = 20 * v + 20 - 20 * v

twenty : (v : ℕ) → part v ≡ 20
twenty v = omega arith

-- the slow-ramp counter is the record's
at_counter : (m : List ℕ) {memory w after : List ℕ} {slow : ℕ} {a : Addend} → slow ≡ get_or m slow_word 0 → TakesTurn memory slow w after a → TakesTurn memory (get_or m slow_word 0) w after a
at_counter m {memory} {w} {after} {slow} {a} e p = subst (λ (x : ℕ). TakesTurn memory x w after a) e p

-- the record with the part put back
put_back : (memory m : List ℕ) (v : ℕ) (after : List ℕ) (a : Addend) → TakesTurn memory (get_or m slow_word 0) (take (part v) (drop (20 * v) m)) after a → Sound m → v < 32
    → InRange (put_mid (20 * v) (part v) m after)
put_back memory m v after a p s h = back_range memory m v (part v) after a (twenty v) p s h

pub slice_bounds-turn-end : goal.slice_bounds-turn-end
slice_bounds-turn-end c = omega (arith, (sound c.args.m.now c.requires.is_valid).size, c.requires.is_voice)

pub turn-addend-requires-clause-ranges : goal.turn-addend-requires-clause-ranges
unfolding voice_at
turn-addend-requires-clause-ranges c =
    let m = c.args.m.now in
    let v = c.args.v in
    rw (twenty v) (ranges_of (voice_at m v) (λ j k. range_voice m (in_range (sound m c.requires.is_valid)) v j c.requires.is_voice k))

pub add-requires-clause-has_record_length : goal.add-requires-clause-has_record_length
add-requires-clause-has_record_length c = (put_back _ _ _ _ _ (at_counter c.args.m.now c.requires.slow_is_counter c.turn-addend.ensures.takes_turn) (sound _ c.requires.is_valid) c.requires.is_voice).size

pub add-requires-clause-sums_in_range : goal.add-requires-clause-sums_in_range
add-requires-clause-sums_in_range c = sum_small _ (put_back _ _ _ _ _ (at_counter c.args.m.now c.requires.slow_is_counter c.turn-addend.ensures.takes_turn) (sound _ c.requires.is_valid) c.requires.is_voice)

pub signal-requires-clause-has_record_length : goal.signal-requires-clause-has_record_length
signal-requires-clause-has_record_length c =
    c.add.auto.m ∙ (put_back _ _ _ _ _ (at_counter c.args.m.now c.requires.slow_is_counter c.turn-addend.ensures.takes_turn) (sound _ c.requires.is_valid) c.requires.is_voice).size

-- the mask lacks the voice's flag at most
pub signal-requires-clause-mask_but_for_voice : goal.signal-requires-clause-mask_but_for_voice
signal-requires-clause-mask_but_for_voice c =
    rw c.add.ensures
    (mask_lacks c.args.samples.now.memory.now c.args.m.now c.args.v (part c.args.v) _ _ (twenty c.args.v) (at_counter c.args.m.now c.requires.slow_is_counter c.turn-addend.ensures.takes_turn)
    (sound _ c.requires.is_valid) c.requires.is_voice)

pub returns-clause-m_after : goal.returns-clause-m_after
unfolding voice_at
returns-clause-m_after c =
    c.signal.ensures
    ∙ rw c.add.ensures
    (turn_taken c.args.samples.now.memory.now c.args.m.now c.args.v (part c.args.v) _ _ (twenty c.args.v) (at_counter c.args.m.now c.requires.slow_is_counter c.turn-addend.ensures.takes_turn)
    (sound _ c.requires.is_valid) c.requires.is_voice)

pub returns-clause-missing_after : goal.returns-clause-missing_after
unfolding voice_at
returns-clause-missing_after c =
    c.turn-addend.ensures.missing_after
    ∙ ap (λ (n : ℕ). c.args.missing.now + missed_by c.args.samples.now.memory.now (voice_of (take n (drop (20 * c.args.v) c.args.m.now)))) (twenty c.args.v)
