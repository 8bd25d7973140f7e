use Rattle.std.proofs.Common.{◌≡◌, ℕ, ◌<◌}
use Rattle.std.proofs.Common.{slice_index}
use Rattle.machine.specs.Reset.{reset_word}
use Rattle.machine.proofs.reset.Given as goal

-- the words passed are as after a reset
abbrev pub invariant-loop-i : goal.invariant-loop-i
invariant-loop-i l = (k : ℕ) → k < l.i → slice_index l.m k ≡ reset_word k
