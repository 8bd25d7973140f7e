use Rattle.std.proofs.Common.{◌+◌}
use Rattle.machine.specs.Kept.{gathered_kept, Lanes}
use Rattle.machine.proofs.look_at_four.Given as goal

-- no lane has a bit where the words passed have in no voice a bit that they do not keep
abbrev pub invariant-loop-l : goal.invariant-loop-l
invariant-loop-l l = Lanes l.stray (gathered_kept l.m (l.j + l.l))
