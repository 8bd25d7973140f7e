-- One turn of a voice: its twenty registers, the slow-ramp counter and the sample memory in; the
-- registers afterwards and what it adds to the left and right sums of its channel out. The turn
-- does not know the voice's number.
-- In order: the poles' last outputs as numbers, and their new ones; the levels that ramps move; a
-- voice with new outputs, and one moved; the turn of a stopped voice; that of a running one; the
-- turn.
-- Every rule reads the registers as they stood when the turn began. Assumes nothing.
use Rattle.std.specs.Prelude.{ℕ, ◌-◌, if◌then◌else◌, List, ◌==◌, ℤ, pos}
use Rattle.numbers.specs.Numbers.{signed, word}
use Rattle.control.specs.Control.{runs}
use Rattle.sample.specs.Sample.{sampled}
use Rattle.filter.specs.Filter.{filtered}
use Rattle.filter.specs.declared.Poles.{Poles}
use Rattle.volume.specs.Volume.{panned}
use Rattle.address.specs.Address.{stepped}
use Rattle.address.specs.declared.Place.{Place}
use Rattle.ramp.specs.Ramp.{ramped, slow_ramped}
use Rattle.voice.specs.Voice.{Voice, Levels, Turn}

-- the last outputs of the poles: the (n-1) words, signed 18 bits
unfoldable pub last_outputs : Voice → Poles
last_outputs v =
    record {
      o1 = signed 18 v.o1n1;
      o2 = signed 18 v.o2n1;
      o3 = signed 18 v.o3n1;
      o4 = signed 18 v.o4n1;
    }

-- the outputs of the poles when x passes
abbrev pub passing : ℤ → Voice → Poles
passing x v = filtered v.cr v.k1 v.k2 x (last_outputs v)

-- the levels as they stand, and after the ramps, which work while ECOUNT is not 0 and count it down
abbrev pub levels_of : Voice → Levels
levels_of v = record { ecount = v.ecount; lvol = v.lvol; rvol = v.rvol; k1 = v.k1; k2 = v.k2 }

unfoldable pub ramped_levels : ℕ → Voice → Levels
ramped_levels slow v =
    if v.ecount == 0 then levels_of v
    else record {
      ecount = v.ecount - 1;
      lvol = ramped v.lvol v.lvramp;
      rvol = ramped v.rvol v.rvramp;
      k1 = slow_ramped slow v.k1 v.k1ramp;
      k2 = slow_ramped slow v.k2 v.k2ramp;
    }

-- the voice with new outputs of its poles: the (n-1) words take them, and the (n-2) words the old
-- (n-1) words
unfoldable pub with_outputs : Voice → Poles → Voice
with_outputs v p =
    record {
      cr = v.cr;
      fc = v.fc;
      lvol = v.lvol;
      lvramp = v.lvramp;
      rvol = v.rvol;
      rvramp = v.rvramp;
      ecount = v.ecount;
      k2 = v.k2;
      k2ramp = v.k2ramp;
      k1 = v.k1;
      k1ramp = v.k1ramp;
      start = v.start;
      end = v.end;
      accum = v.accum;
      o4n1 = word 18 p.o4;
      o3n1 = word 18 p.o3;
      o3n2 = v.o3n1;
      o2n1 = word 18 p.o2;
      o2n2 = v.o2n1;
      o1n1 = word 18 p.o1;
    }

-- the voice at a new place and with new levels
unfoldable pub moved : Voice → Place → Levels → Voice
moved v a l =
    record {
      cr = a.cr;
      fc = v.fc;
      lvol = l.lvol;
      lvramp = v.lvramp;
      rvol = l.rvol;
      rvramp = v.rvramp;
      ecount = l.ecount;
      k2 = l.k2;
      k2ramp = v.k2ramp;
      k1 = l.k1;
      k1ramp = v.k1ramp;
      start = v.start;
      end = v.end;
      accum = a.accum;
      o4n1 = v.o4n1;
      o3n1 = v.o3n1;
      o3n2 = v.o3n2;
      o2n1 = v.o2n1;
      o2n2 = v.o2n2;
      o1n1 = v.o1n1;
    }

-- A stopped voice reads no memory, so its poles take 0 in; nothing else of it works. It adds
-- nothing to its channel.
unfoldable pub stopped_turn : Voice → Turn
stopped_turn v = record { voice = with_outputs v (passing (pos 0) v); left = pos 0; right = pos 0 }

-- A running voice: sample, filters, volume, address and ramps.
unfoldable pub running_turn : List ℕ → ℕ → Voice → Turn
running_turn memory slow v =
    let p = passing (sampled memory v.cr v.accum) v in
    record {
      voice = moved (with_outputs v p) (stepped v.cr v.fc v.start v.end v.accum)
          (ramped_levels slow v);
      left = panned v.lvol p.o4;
      right = panned v.rvol p.o4;
    }

unfoldable pub turn_of : List ℕ → ℕ → Voice → Turn
turn_of memory slow v = if runs v.cr then running_turn memory slow v else stopped_turn v
