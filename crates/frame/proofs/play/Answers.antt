-- `frame::play` meets its contract: a record stays sound from turn to turn, and what all turns share is as it was made. Assumes nothing.
use mathlib.Core.Path.{◌≡◌, refl, sym, ap, ◌∙◌}
use mathlib.Core.List.{List}
use Prim.Native.Nat.{ℕ, ◌+◌}
use native.Mathlib.Numerals.{add-one}
use native.Mathlib.Omega.{arith}
use lib.ListN.{get_or}
use Rattle.numbers.specs.Sum.{sum}
use Rattle.machine.specs.Words.{actv_word, slow_word}
use Rattle.machine.specs.Voices.{voice_at}
use Rattle.machine.proofs.Valid.{sound, is_valid}
use Rattle.voice.specs.Voice.{voice_of}
use Rattle.voice.specs.Missed.{missed_by}
use Rattle.frame.specs.Frame.{turn_at, turns, played}
use Rattle.frame.proofs.Keeps.{active_le, sound_turn}
use Rattle.frame.proofs.Leaves.{slow_stays, turned}
use Rattle.frame.proofs.Missing.{missed_in_turns, missed_in-turns, missed_in-turns_most}
use Rattle.frame.proofs.play.Goals as goal

-- one turn more, over the memory that was lent
module _ (m : List ℕ) (v : ℕ) {memory lent now : List ℕ} (e : lent ≡ memory) (h : now ≡ turns memory v m) where
  turned_on : {after : List ℕ} → after ≡ turn_at lent v now → after ≡ turns memory (v + 1) m
  unfolding turns
  turned_on f = rw add-one (f ∙ (λ i. turn_at (e i) v (h i)))

  missed_on : {missing more : ℕ} → missing ≡ missed_in_turns memory v m → more ≡ missing + missed_by lent (voice_of (voice_at now v)) → more ≡ missed_in_turns memory (v + 1) m
  unfolding missed_in_turns sum
  missed_on k f = rw add-one (f ∙ (λ i. k i + missed_by (e i) (voice_of (voice_at (h i) v))))

pub loop-v-init : goal.loop-v-init
unfolding turns missed_in_turns sum
loop-v-init c = record { same = refl; turned = refl; missed = refl }

pub turn-requires-clause-is_voice : goal.turn-requires-clause-is_voice
turn-requires-clause-is_voice c = omega (arith, active_le _ (sound _ c.args.m.now.sound))

pub turn-requires-clause-slow_is_counter : goal.turn-requires-clause-slow_is_counter
turn-requires-clause-slow_is_counter c =
    let s = sound _ c.args.m.now.sound in
    let l = c.loop-v in
    sym (ap (λ (x : List ℕ). get_or x slow_word 0) l.invariant.turned ∙ slow_stays (turned c.args.memory.now l.v (omega (arith, active_le _ s)) s))

pub turn-requires-clause-missing_fits : goal.turn-requires-clause-missing_fits
turn-requires-clause-missing_fits c =
    omega (arith, c.loop-v.invariant.missed, missed_in-turns_most c.args.memory.now c.loop-v.v c.args.m.now.words.now, active_le _ (sound _ c.args.m.now.sound))

pub invariant_of-m : goal.invariant_of-m
invariant_of-m c =
    let s = sound_turn c.args.memory.now c.loop-v.v (sound _ c.loop-v.m.sound) (omega (arith, active_le _ (sound _ c.args.m.now.sound))) in
    let e = c.turn.ensures.m_after ∙ ap (λ (x : List ℕ). turn_at x c.loop-v.v c.loop-v.m.words.now) c.new-samples.ensures in
    record { whole = rw e s.size; sound = rw e (is_valid _ s) }

pub loop-v-preserved : goal.loop-v-preserved
loop-v-preserved c =
    let h = c.loop-v.invariant in
    record {
      same = h.same;
      turned = turned_on c.args.m.now.words.now c.loop-v.v c.new-samples.ensures h.turned c.turn.ensures.m_after;
      missed = missed_on c.args.m.now.words.now c.loop-v.v c.new-samples.ensures h.turned h.missed c.turn.ensures.missing_after;
    }

pub returns-clause-leaves : goal.returns-clause-leaves
unfolding played
returns-clause-leaves c =
    let h = c.loop-v.invariant in
    let m = c.args.m.now.words.now in
    let e : c.loop-v.v ≡ get_or m actv_word 0 + 1 = omega arith in
    (h.same, h.turned ∙ ap (λ (k : ℕ). turns c.args.memory.now k m) e)

pub returns-clause-missing : goal.returns-clause-missing
returns-clause-missing c =
    let m = c.args.m.now.words.now in
    let e : c.loop-v.v ≡ get_or m actv_word 0 + 1 = omega arith in
    c.loop-v.invariant.missed ∙ ap (λ (k : ℕ). missed_in_turns c.args.memory.now k m) e ∙ missed_in-turns c.args.memory.now (sound m c.args.m.now.sound)

-- the same where the last turn was that of voice ACTV
pub returns-2-clause-leaves : goal.returns-2-clause-leaves
unfolding played
returns-2-clause-leaves c =
    let h = c.loop-v.invariant in
    let m = c.args.m.now.words.now in
    let e : c.loop-v.v + 1 ≡ get_or m actv_word 0 + 1 = omega arith in
    (h.same, turned_on c.args.m.now.words.now c.loop-v.v c.new-samples.ensures h.turned c.turn.ensures.m_after ∙ ap (λ (k : ℕ). turns c.args.memory.now k m) e)

pub returns-2-clause-missing : goal.returns-2-clause-missing
returns-2-clause-missing c =
    let h = c.loop-v.invariant in
    let m = c.args.m.now.words.now in
    let e : c.loop-v.v + 1 ≡ get_or m actv_word 0 + 1 = omega arith in
    missed_on c.args.m.now.words.now c.loop-v.v c.new-samples.ensures h.turned h.missed c.turn.ensures.missing_after
    ∙ ap (λ (k : ℕ). missed_in_turns c.args.memory.now k m) e ∙ missed_in-turns c.args.memory.now (sound m c.args.m.now.sound)
