use Rattle.std.proofs.Common.{◌*◌}
use Rattle.machine.specs.Kept.{gathered_kept, Lanes}
use Rattle.machine.proofs.check.Given as goal

-- no lane has a bit where the words passed have in no voice a bit that they do not keep
abbrev pub invariant-loop-g : goal.invariant-loop-g
invariant-loop-g l = Lanes l.stray (gathered_kept l.m (4 * l.g))
