-- What a turn leaves of a voice: the registers that it does not touch are as they were, and those that it does keep their ranges.
-- Assumes nothing.
use mathlib.Core.Path.{◌≡◌, refl}
use mathlib.Core.Bool.{not, ◌&&◌}
use mathlib.Core.List.{List}
use Prim.Native.Nat.{ℕ, ◌%◌, ◌^◌, ◌<◌}
use native.Mathlib.Omega.{arith}
use lib.Dec.{eqb}
use lib.IntN.{pos}
use Rattle.numbers.proofs.Tests.{either, split}
use Rattle.numbers.proofs.Words.{word_lt}
use Rattle.control.specs.Control.{runs}
use Rattle.filter.specs.Filter.{filtered}
use Rattle.address.specs.Address.{stepped}
use Rattle.address.proofs.Range.{stepped_small}
use Rattle.ramp.specs.Ramp.{ramped, slow_ramped}
use Rattle.sample.specs.Sample.{sampled}
use Rattle.voice.specs.Voice.{Voice}
use Rattle.voice.specs.Turn.{last_outputs, ramped_levels, with_outputs, moved, stopped_turn, running_turn, turn_of}
use Rattle.voice.specs.Ranges.{Ranges, Leveled}
use Rattle.voice.proofs.Laws.{with_outputs_ranges, moved_ranges, turn_runs, turn_stands}

-- the ranges of the registers that a turn reads but that are whole words
pub record Places (v : Voice) : Type 0 where
  pub start : v.start < 2 ^ 32
  pub end : v.end < 2 ^ 32
  pub accum : v.accum < 2 ^ 32

-- w is a voice that may follow v
pub record Follows (v w : Voice) : Type 0 where
  pub ranges : Ranges w
  pub accum : w.accum < 2 ^ 32
  pub fc : w.fc ≡ v.fc
  pub lvramp : w.lvramp ≡ v.lvramp
  pub rvramp : w.rvramp ≡ v.rvramp
  pub k2ramp : w.k2ramp ≡ v.k2ramp
  pub k1ramp : w.k1ramp ≡ v.k1ramp
  pub start : w.start ≡ v.start
  pub end : w.end ≡ v.end

ramped_small : (x r : ℕ) → ramped x r < 65536
unfolding ramped
ramped_small x r = word_lt 16 _

slow_small : (slow x r : ℕ) → x < 65536 → slow_ramped slow x r < 65536
unfolding slow_ramped
slow_small slow x r h = either (λ y. y < 65536) (eqb (r % 2) 1 && not (eqb slow 0)) x (ramped x r) (λ t. h) (λ t. ramped_small x r)

levels_small : (slow : ℕ) (v : Voice) → Ranges v → Leveled (ramped_levels slow v)
unfolding ramped_levels
levels_small slow v h = either Leveled (eqb v.ecount 0) _ _
    (λ t. record { ecount = h.ecount; lvol = h.lvol; rvol = h.rvol; k1 = h.k1; k2 = h.k2 })
    (λ t. record {
      ecount = omega (arith, h.ecount);
      lvol = ramped_small v.lvol v.lvramp;
      rvol = ramped_small v.rvol v.rvramp;
      k1 = slow_small slow v.k1 v.k1ramp h.k1;
      k2 = slow_small slow v.k2 v.k2ramp h.k2;
    })

running_follows : (memory : List ℕ) (slow : ℕ) (v : Voice) → Ranges v → Places v → Follows v (running_turn memory slow v).voice
unfolding running_turn with_outputs moved
running_follows memory slow v h p =
    let q = filtered v.cr v.k1 v.k2 (sampled memory v.cr v.accum) (last_outputs v) in
    let a = stepped_small v.cr v.fc v.start v.end v.accum h.cr p.start p.end in
    record {
      ranges = moved_ranges (with_outputs v q) (stepped v.cr v.fc v.start v.end v.accum) (ramped_levels slow v) (with_outputs_ranges v q h) a.cr (levels_small slow v h);
      accum = a.accum;
      fc = refl;
      lvramp = refl;
      rvramp = refl;
      k2ramp = refl;
      k1ramp = refl;
      start = refl;
      end = refl;
    }

stopped_follows : (v : Voice) → Ranges v → Places v → Follows v (stopped_turn v).voice
unfolding stopped_turn with_outputs
stopped_follows v h p = record {
  ranges = with_outputs_ranges v (filtered v.cr v.k1 v.k2 (pos 0) (last_outputs v)) h;
  accum = p.accum;
  fc = refl;
  lvramp = refl;
  rvramp = refl;
  k2ramp = refl;
  k1ramp = refl;
  start = refl;
  end = refl;
}

pub turn_follows : (memory : List ℕ) (slow : ℕ) (v : Voice) → Ranges v → Places v → Follows v (turn_of memory slow v).voice
turn_follows memory slow v h p = split (Follows v (turn_of memory slow v).voice) (runs v.cr)
    (λ t. rw (turn_runs memory slow v t) (running_follows memory slow v h p))
    (λ t. rw (turn_stands memory slow v t) (stopped_follows v h p))
