use Rattle.std.proofs.Common.{◌≡◌, map, take}
use Rattle.channel.specs.Channel.{put_out}
use Rattle.frame.proofs.put_out.Given as goal

-- the values so far
abbrev pub invariant-loop-i : goal.invariant-loop-i
invariant-loop-i l = take l.i l.out ≡ map put_out (take l.i l.sums)
