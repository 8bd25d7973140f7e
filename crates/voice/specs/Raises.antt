-- Whether a turn raises the voice's interrupt flag, as a test, for theorems about interrupts. That
-- the flag after a turn goes by it is proofs/Flag. Assumes nothing.
use Rattle.std.specs.Prelude.{Bool, ◌&&◌}
use Rattle.control.specs.Control.{flag_of, runs, irqe_bit}
use Rattle.address.specs.LoopEvent.{loop_event}
use Rattle.voice.specs.Voice.{Voice}

-- the voice runs, has IRQE 1, and its step has a loop event; the flag may be on already
unfoldable pub raises : Voice → Bool
raises v = runs v.cr && (flag_of irqe_bit v.cr && loop_event v.cr v.fc v.start v.end v.accum)
