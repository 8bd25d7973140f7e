use Rattle.std.proofs.Common.{◌+◌, ◌&&◌}
use Rattle.machine.specs.Kept.{gathered_kept, sums_kept, shared_kept, Lanes}
use Rattle.machine.proofs.look_at_rest.Given as goal

-- no lane has a bit where the words of the voices, the sums and the words between that were passed have only bits that they keep
abbrev pub invariant-loop-l : goal.invariant-loop-l
invariant-loop-l l = Lanes l.stray (gathered_kept l.m (16 + l.l) && sums_kept l.m l.l && shared_kept l.m l.l)
