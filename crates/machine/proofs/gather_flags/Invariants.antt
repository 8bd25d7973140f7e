use Rattle.std.proofs.Common.{◌≡◌, ◌*◌, ◌/◌, ◌^◌}
use Rattle.control.specs.Control.{irq_bit}
use Rattle.machine.specs.Words.{waiting_voices}
use Rattle.machine.proofs.gather_flags.Given as goal

-- the flags gathered are the mask's part from the last voice passed on, each as far up as CR has its flag
abbrev pub invariant-loop-v : goal.invariant-loop-v
invariant-loop-v l = l.flags ≡ 2 ^ irq_bit * (waiting_voices l.m / 2 ^ l.v)
