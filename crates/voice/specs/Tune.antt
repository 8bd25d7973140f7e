-- A held note: turns of a voice one after another, and what it is for a voice in a loop to be in
-- tune.
-- In order: n turns; the kinds of loop, by the bits that make them, the position in the loop and
-- the loop's period; a voice in a loop; what n turns of it have to come to. Assumes nothing.
use Rattle.std.specs.Prelude.{ℕ, zero, suc, ◌+◌, ◌-◌, ◌*◌, ◌%◌, ◌<◌, ◌≤◌, ◌≡◌, ◌≢◌, IsTrue, IsFalse}
use Rattle.std.specs.Prelude.{if◌then◌else◌, List}
use Rattle.control.specs.Control.{flag_of, runs, lei_bit, lpe_bit, ble_bit, dir_bit, irq_bit}
use Rattle.voice.specs.Voice.{Voice}
use Rattle.voice.specs.Turn.{turn_of}

-- n turns. The host may change the sample memory between them, so turn k has a memory of its own,
-- and a slow-ramp counter.
unfoldable pub turns_of : (ℕ → List ℕ) → (ℕ → ℕ) → ℕ → Voice → Voice
turns_of memory slow zero v = v
turns_of memory slow (suc n) v = (turn_of (memory n) (slow n) (turns_of memory slow n v)).voice

-- The kinds of loop. The position is how far the voice has come since the loop began, and the
-- period how far it comes until the loop begins again. A bidirectional loop begins again when the
-- voice has been to END and back, so its position is one on the loop unfolded:
--                   BLE LPE DIR   position                        period
--   Forward          0   1   0    ACCUM - START                   END - START
--   Reverse          0   1   1    END - ACCUM                     END - START
--   Bidirectional    1   1   0    ACCUM - START                   2 * (END - START)
--                            1    END - START + (END - ACCUM)
pub data Kind : Type 0 where
  Forward Reverse Bidirectional : Kind

abbrev pub Mode : Kind → ℕ → Type 0
Mode Forward CR =
    IsFalse (flag_of ble_bit CR) × IsTrue (flag_of lpe_bit CR) × IsFalse (flag_of dir_bit CR)
Mode Reverse CR =
    IsFalse (flag_of ble_bit CR) × IsTrue (flag_of lpe_bit CR) × IsTrue (flag_of dir_bit CR)
Mode Bidirectional CR = IsTrue (flag_of ble_bit CR) × IsTrue (flag_of lpe_bit CR)

unfoldable pub position_of : Kind → Voice → ℕ
position_of Forward v = v.accum - v.start
position_of Reverse v = v.end - v.accum
position_of Bidirectional v =
    if flag_of dir_bit v.cr then v.end - v.start + (v.end - v.accum) else v.accum - v.start

unfoldable pub period_of : Kind → Voice → ℕ
period_of Forward v = v.end - v.start
period_of Reverse v = v.end - v.start
period_of Bidirectional v = 2 * (v.end - v.start)

-- The voice runs in a loop of that kind and heeds its loop points. It is between them, and no step
-- is longer than the loop; a longer one would be past the loop point still after the event.
pub record Loops (k : Kind) (v : Voice) : Type 0 where
  pub running : IsTrue (runs v.cr)
  pub heeded : IsFalse (flag_of lei_bit v.cr)
  pub mode : Mode k v.cr
  pub from : v.start ≤ v.accum
  pub to : v.accum ≤ v.end
  pub length : v.start < v.end
  pub pace : v.fc ≤ v.end - v.start
  pub address : v.end < 4294967296

-- w is v after n turns in tune: it still runs in that loop, between the same loop points, and is
-- where n steps of FC bring it, to the last bit of END. Nothing is lost or gained at a loop point,
-- so the pitch does not depend on how long the note is held.
pub record InTune (k : Kind) (n : ℕ) (v w : Voice) : Type 0 where
  pub loops : Loops k w
  pub start : w.start ≡ v.start
  pub end : w.end ≡ v.end
  pub fc : w.fc ≡ v.fc
  -- the control register is as it was, but for the interrupt flag and, in a bidirectional loop, the
  -- direction
  pub bits : (b : ℕ) → b ≢ irq_bit → b ≢ dir_bit → flag_of b w.cr ≡ flag_of b v.cr
  pub position : position_of k w % period_of k v ≡ (position_of k v + n * v.fc) % period_of k v
