-- The interrupt flag and a turn.
-- In order: two voices that hold the same registers, interrupt flags excepted (`beside_CR`, `ButFlag`); what the turn reads of them, by which they
-- miss as many words (`same_missed`); a turn does not heed the flag (`SameTurn`, `same_turn`: they add the same, and are such voices after
-- it); the flag after a turn (`turn_flag`: as it was, or on where the turn raises it). The flag after the address step alone is
-- `address/proofs/LoopEvent`; what the frame does with it is `frame/proofs/Leaves`. Assumes nothing.
use mathlib.Core.Path.{◌≡◌, refl, sym, ap, ◌∙◌}
use mathlib.Core.Bool.{◌||◌, or-false}
use mathlib.Core.List.{List}
use Prim.Native.Nat.{ℕ}
use native.Mathlib.Omega.{arith}
use lib.IntN.{ℤ, pos}
use Rattle.numbers.proofs.Tests.{split, alongside}
use Rattle.control.specs.Control.{flag_of, runs, lp3_bit, lp4_bit, cmpd_bit, irq_bit}
use Rattle.control.proofs.Agree.{AgreeBut, flag_agrees, bank_agrees, runs_agrees}
use Rattle.sample.specs.Sample.{fetched, sample_of, fraction, interpolated, sampled}
use Rattle.sample.proofs.Laws.{sample_coded, fetched_bank}
use Rattle.filter.specs.Filter.{filtered}
use Rattle.filter.proofs.Laws.{filtered_passes}
use Rattle.volume.specs.Volume.{panned}
use Rattle.address.specs.Address.{stepped}
use Rattle.address.proofs.Agree.{SamePlace, stepped_agrees}
use Rattle.address.proofs.LoopEvent.{stepped_flag}
use Rattle.voice.specs.Voice.{Voice, Turn}
use Rattle.voice.specs.Turn.{last_outputs, ramped_levels, with_outputs, moved, stopped_turn, running_turn, turn_of}
use Rattle.voice.specs.Missed.{missed_by}
use Rattle.voice.specs.Raises.{raises}
use Rattle.voice.proofs.Laws.{turn_runs, turn_stands}

-- ---- voices that differ in the interrupt flag alone

-- the other registers: the voice with CR put to 0
unfoldable pub beside_CR : Voice → Voice
beside_CR v =
    record {
      cr = 0;
      fc = v.fc;
      lvol = v.lvol;
      lvramp = v.lvramp;
      rvol = v.rvol;
      rvramp = v.rvramp;
      ecount = v.ecount;
      k2 = v.k2;
      k2ramp = v.k2ramp;
      k1 = v.k1;
      k1ramp = v.k1ramp;
      start = v.start;
      end = v.end;
      accum = v.accum;
      o4n1 = v.o4n1;
      o3n1 = v.o3n1;
      o3n2 = v.o3n2;
      o2n1 = v.o2n1;
      o2n2 = v.o2n2;
      o1n1 = v.o1n1;
    }

pub record ButFlag (v w : Voice) : Type 0 where
  pub cr : AgreeBut irq_bit v.cr w.cr
  pub others : beside_CR v ≡ beside_CR w

-- two turns that add the same and leave such voices
pub record SameTurn (t u : Turn) : Type 0 where
  pub left : t.left ≡ u.left
  pub right : t.right ≡ u.right
  pub voice : ButFlag t.voice u.voice

module _ (v w : Voice) (h : ButFlag v w) where
  -- ---- what the turn reads

  same_poles : (x : ℤ) → filtered v.cr v.k1 v.k2 x (last_outputs v) ≡ filtered w.cr w.k1 w.k2 x (last_outputs w)
  unfolding beside_CR last_outputs
  same_poles x =
      filtered_passes v.cr w.cr v.k1 v.k2 x (last_outputs v)
      (flag_agrees irq_bit v.cr w.cr h.cr lp3_bit (λ e. omega arith)) (flag_agrees irq_bit v.cr w.cr h.cr lp4_bit (λ e. omega arith))
      ∙ ap (λ (z : Voice). filtered w.cr z.k1 z.k2 x (last_outputs z)) h.others

  same_fetch : (memory : List ℕ) → fetched memory v.cr v.accum ≡ fetched memory w.cr w.accum
  unfolding beside_CR
  same_fetch memory =
      fetched_bank memory v.cr w.cr v.accum (bank_agrees v.cr w.cr h.cr)
      ∙ ap (λ (z : Voice). fetched memory w.cr z.accum) h.others

  same_sample : (memory : List ℕ) → sampled memory v.cr v.accum ≡ sampled memory w.cr w.accum
  unfolding beside_CR sampled
  same_sample memory =
      let f = same_fetch memory in
      let stands : (b : ℕ) → sample_of v.cr b ≡ sample_of w.cr b = λ b. sample_coded v.cr w.cr b (flag_agrees irq_bit v.cr w.cr h.cr cmpd_bit (λ e. omega arith)) in
      λ i. interpolated (fraction (h.others i).accum) (stands (f i).first.bits i) (stands (f i).second.bits i)

  pub same_missed : (memory : List ℕ) → missed_by memory v ≡ missed_by memory w
  unfolding missed_by
  same_missed memory = rw (runs_agrees v.cr w.cr h.cr, same_fetch memory)

  same_levels : (slow : ℕ) → ramped_levels slow v ≡ ramped_levels slow w
  unfolding beside_CR ramped_levels
  same_levels slow = ap (ramped_levels slow) h.others

  same_place : SamePlace (stepped v.cr v.fc v.start v.end v.accum) (stepped w.cr w.fc w.start w.end w.accum)
  unfolding beside_CR
  same_place =
      let p = stepped_agrees v.cr w.cr h.cr v.fc v.start v.end v.accum in
      let q = ap (λ (z : Voice). stepped w.cr z.fc z.start z.end z.accum) h.others in
      rw (← q) p

  -- ---- the turn

  stopped_same : SameTurn (stopped_turn v) (stopped_turn w)
  unfolding beside_CR with_outputs stopped_turn
  stopped_same =
      let p = same_poles (pos 0) in
      record { left = refl; right = refl; voice = record { cr = h.cr; others = λ i. beside_CR (with_outputs (h.others i) (p i)) } }

  running_same : (memory : List ℕ) (slow : ℕ) → SameTurn (running_turn memory slow v) (running_turn memory slow w)
  unfolding beside_CR with_outputs moved running_turn
  running_same memory slow =
      let p = ap (λ (x : ℤ). filtered v.cr v.k1 v.k2 x (last_outputs v)) (same_sample memory) ∙ same_poles (sampled memory w.cr w.accum) in
      let a = same_place in
      let l = same_levels slow in
      record {
        left = λ i. panned (h.others i).lvol (p i).o4;
        right = λ i. panned (h.others i).rvol (p i).o4;
        voice = record {
          cr = a.cr;
          others = λ i. beside_CR (moved (with_outputs (h.others i) (p i)) (record { accum = a.accum i; cr = 0 }) (l i));
        };
      }

  pub same_turn : (memory : List ℕ) (slow : ℕ) → SameTurn (turn_of memory slow v) (turn_of memory slow w)
  unfolding turn_of
  same_turn memory slow = alongside SameTurn (runs_agrees v.cr w.cr h.cr) (running_same memory slow) stopped_same

-- ---- the flag after a turn

pub turn_flag : (memory : List ℕ) (slow : ℕ) (v : Voice) → flag_of irq_bit (turn_of memory slow v).voice.cr ≡ (flag_of irq_bit v.cr || raises v)
unfolding with_outputs moved stopped_turn running_turn raises
turn_flag memory slow v = split _ (runs v.cr)
    (λ t. rw (turn_runs memory slow v t, t) (stepped_flag v.cr v.fc v.start v.end v.accum))
    (λ t. rw (turn_stands memory slow v t, t) (sym (or-false (flag_of irq_bit v.cr))))
