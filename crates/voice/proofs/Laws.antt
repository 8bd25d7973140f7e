-- A turn keeps the ranges of the registers; and the levels and the turn by their tests. Assumes nothing.
use mathlib.Core.Path.{◌≡◌}
use mathlib.Core.Bool.{true, false}
use mathlib.Core.List.{List}
use Prim.Native.Nat.{ℕ, ◌-◌, ◌<◌}
use borrow.Author.Tests.{eq-eqb, ne_eqb}
use Rattle.numbers.proofs.Words.{word_lt}
use Rattle.control.specs.Control.{runs}
use Rattle.filter.specs.declared.Poles.{Poles}
use Rattle.address.specs.declared.Place.{Place}
use Rattle.ramp.specs.Ramp.{ramped, slow_ramped}
use Rattle.voice.specs.Voice.{Voice, Levels}
use Rattle.voice.specs.Turn.{ramped_levels, with_outputs, moved, stopped_turn, running_turn, turn_of}
use Rattle.voice.specs.Ranges.{Ranges, Leveled}

pub with_outputs_ranges : (v : Voice) (p : Poles) → Ranges v → Ranges (with_outputs v p)
unfolding with_outputs
with_outputs_ranges v p h = record {
  cr = h.cr;
  lvol = h.lvol;
  rvol = h.rvol;
  ecount = h.ecount;
  k2 = h.k2;
  k1 = h.k1;
  o4n1 = word_lt 18 p.o4;
  o3n1 = word_lt 18 p.o3;
  o3n2 = h.o3n1;
  o2n1 = word_lt 18 p.o2;
  o2n2 = h.o2n1;
  o1n1 = word_lt 18 p.o1;
}

pub moved_ranges : (v : Voice) (a : Place) (l : Levels) → Ranges v → a.cr < 65536 → Leveled l → Ranges (moved v a l)
unfolding moved
moved_ranges v a l h k r = record {
  cr = k;
  lvol = r.lvol;
  rvol = r.rvol;
  ecount = r.ecount;
  k2 = r.k2;
  k1 = r.k1;
  o4n1 = h.o4n1;
  o3n1 = h.o3n1;
  o3n2 = h.o3n2;
  o2n1 = h.o2n1;
  o2n2 = h.o2n2;
  o1n1 = h.o1n1;
}

module _ (slow : ℕ) (v : Voice) where
  pub levels_rest : v.ecount ≡ 0 → ramped_levels slow v ≡ record { ecount = v.ecount; lvol = v.lvol; rvol = v.rvol; k1 = v.k1; k2 = v.k2 }
  unfolding ramped_levels
  levels_rest h = rw (eq-eqb v.ecount 0 h)

  pub levels_move : (v.ecount ≡ 0 → ⊥)
      → ramped_levels slow v
      ≡ record {
        ecount = v.ecount - 1;
        lvol = ramped v.lvol v.lvramp;
        rvol = ramped v.rvol v.rvramp;
        k1 = slow_ramped slow v.k1 v.k1ramp;
        k2 = slow_ramped slow v.k2 v.k2ramp;
      }
  unfolding ramped_levels
  levels_move h = rw (ne_eqb v.ecount 0 h)

module _ (memory : List ℕ) (slow : ℕ) (v : Voice) where
  pub turn_runs : runs v.cr ≡ true → turn_of memory slow v ≡ running_turn memory slow v
  unfolding turn_of
  turn_runs t = rw t

  pub turn_stands : runs v.cr ≡ false → turn_of memory slow v ≡ stopped_turn v
  unfolding turn_of
  turn_stands t = rw t
