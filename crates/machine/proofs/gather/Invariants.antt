use Rattle.std.proofs.Common.{◌≡◌}
use Rattle.machine.specs.Kept.{gathered}
use Rattle.machine.proofs.gather.Given as goal

-- the accumulator is what the voices passed have
abbrev pub invariant-loop-voice : goal.invariant-loop-voice
invariant-loop-voice l = l.all ≡ gathered l.m 20 l.j l.voice-index
