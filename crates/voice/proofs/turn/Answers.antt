-- `voice::turn` meets its contract: its parts, one after another, are the turn. Assumes nothing.
use mathlib.Core.Path.{◌≡◌, sym, ap, subst, ◌∙◌}
use mathlib.Core.Bool.{true, false}
use mathlib.Core.List.{List}
use Prim.Native.Nat.{ℕ}
use lib.Dec.{lit≤}
use lib.IntN.{ℤ, pos}
use lib.ListN.{get_or}
use mir.Syntax.{w32}
use mir.Val.{to_z, of_z}
use Rattle.numbers.specs.Numbers.{Within}
use Rattle.numbers.proofs.Local.{back, handed}
use Rattle.control.specs.Control.{runs}
use Rattle.volume.specs.Volume.{panned}
use Rattle.sample.specs.Sample.{sampled}
use Rattle.voice.specs.declared.Addend.{Addend}
use Rattle.voice.specs.Voice.{Turn, voice_of, words_of}
use Rattle.voice.specs.Turn.{passing, levels_of, running_turn, stopped_turn}
use Rattle.voice.specs.Ranges.{Ranges, Leveled}
use Rattle.voice.specs.Takes.{TakesTurn, after_filters, after_step, after_ramps}
use Rattle.voice.proofs.Laws.{turn_runs, turn_stands}
use Rattle.voice.proofs.Words.{filters_control, filters_levels, step_levels, parts_run, parts_stand}
use Rattle.voice.proofs.turn.Goals as goal

-- the levels after the filters are those of the voice
module _ (w : List ℕ) (x : ℤ) {after : List ℕ} (e : after ≡ after_filters x w) where
  kept : levels_of (voice_of after) ≡ levels_of (voice_of w)
  kept = ap (λ (l : List ℕ). levels_of (voice_of l)) e ∙ filters_levels w x

  leveled : Ranges (voice_of w) → Leveled (levels_of (voice_of after))
  leveled r = subst Leveled (sym kept) (record { ecount = r.ecount; lvol = r.lvol; rvol = r.rvol; k1 = r.k1; k2 = r.k2 })

  control_kept : get_or w 0 0 ≡ get_or after 0 0
  control_kept = sym (ap (λ (l : List ℕ). get_or l 0 0) e ∙ filters_control w x)

-- the words that are lent as an array are those of the slice
ranges_lent : {w u : List ℕ} → u ≡ w → Ranges (voice_of w) → Ranges (voice_of u)
ranges_lent e r = subst (λ (l : List ℕ). Ranges (voice_of l)) (sym e) r

turn_lent : {memory : List ℕ} {slow : ℕ} {w u after : List ℕ} {a : Addend} → u ≡ w → TakesTurn memory slow u after a → TakesTurn memory slow w after a
turn_lent {memory} {slow} {w} {u} {after} {a} e t = subst (λ (l : List ℕ). TakesTurn memory slow l after a) e t

pub pan-left-requires-clause-volume_in_range : goal.pan-left-requires-clause-volume_in_range
pan-left-requires-clause-volume_in_range c = (leveled _ _ c.pass-o4.ensures.words (ranges_lent c.in-Some.ensures.cases.same c.requires.ranges)).lvol

pub pan-right-requires-clause-volume_in_range : goal.pan-right-requires-clause-volume_in_range
pan-right-requires-clause-volume_in_range c = (leveled _ _ c.pass-o4.ensures.words (ranges_lent c.in-Some.ensures.cases.same c.requires.ranges)).rvol

pub step-requires : goal.step-requires
step-requires c = rw (← control_kept _ _ c.pass-o4.ensures.words) (ranges_lent c.in-Some.ensures.cases.same c.requires.ranges).cr

pub ramps-requires : goal.ramps-requires
ramps-requires c =
    let l = leveled _ _ c.pass-o4.ensures.words (ranges_lent c.in-Some.ensures.cases.same c.requires.ranges) in
    subst Leveled (sym (ap (λ (l : List ℕ). levels_of (voice_of l)) c.step.ensures ∙ step_levels c.pass-o4.new.w)) l

pub returns-then-runs-clause-takes_turn : goal.returns-then-runs-clause-takes_turn
unfolding running_turn
returns-then-runs-clause-takes_turn c =
    let w = c.in-Some.w.now in
    let v = voice_of w in
    let m = c.args.samples.now.memory.now in
    let slow = c.args.slow in
    let on : runs (get_or w 0 0) ≡ true = sym c.running-runs.ensures ∙ c.if-runs.true in
    let t = turn_runs m slow v on in
    let i = c.input-x in
    let p = c.pass-o4 in
    let x : to_z w32 (of_z w32 i.result) ≡ sampled m v.cr v.accum = back w32 i.type_inv ∙ i.ensures.value.0 ∙ rw on in
    let o4 : to_z w32 (of_z w32 p.result) ≡ (passing (sampled m v.cr v.accum) v).o4 = back w32 p.type_inv ∙ p.ensures.output ∙ ap (λ (y : ℤ). (passing y v).o4) x in
    let k = kept w _ p.ensures.words in
    let left = handed w32 (Within 1048576) c.pan-left.type_inv c.pan-left.ensures ((λ i. panned (k i).lvol (o4 i)) ∙ ap (λ (u : Turn). u.left) (sym t)) in
    let right = handed w32 (Within 1048576) c.pan-right.type_inv c.pan-right.ensures ((λ i. panned (k i).rvol (o4 i)) ∙ ap (λ (u : Turn). u.right) (sym t)) in
    turn_lent c.in-Some.ensures.cases.same (record {
      words =
          c.ramps.ensures
          ∙ ap (after_ramps slow) (c.step.ensures ∙ ap after_step (p.ensures.words ∙ ap (λ (y : ℤ). after_filters y w) x))
          ∙ parts_run w m slow ∙ ap (λ (u : Turn). words_of u.voice) (sym t);
      channel = c.channel.ensures.0 ∙ rw on;
      left = left.0;
      right = right.0;
      small_left = left.1;
      small_right = right.1;
    })

pub returns-clause-takes_turn : goal.returns-clause-takes_turn
unfolding stopped_turn
returns-clause-takes_turn c =
    let w = c.in-Some.w.now in
    let v = voice_of w in
    let m = c.args.samples.now.memory.now in
    let slow = c.args.slow in
    let stands : runs (get_or w 0 0) ≡ false = sym c.running-runs.ensures ∙ c.if-runs.false in
    let t = turn_stands m slow v stands in
    let i = c.input-x in
    let x : to_z w32 (of_z w32 i.result) ≡ pos 0 = back w32 i.type_inv ∙ i.ensures.value.0 ∙ rw stands in
    turn_lent c.in-Some.ensures.cases.same (record {
      words = c.pass-o4.ensures.words ∙ ap (λ (z : ℤ). after_filters z w) x ∙ parts_stand w ∙ ap (λ (u : Turn). words_of u.voice) (sym t);
      channel = rw stands;
      left = ap (λ (u : Turn). u.left) (sym t);
      right = ap (λ (u : Turn). u.right) (sym t);
      small_left = record { within = lit≤ tt };
      small_right = record { within = lit≤ tt };
    })
