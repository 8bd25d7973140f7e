-- How far the pass over the chunks has come. Assumes nothing.
use Rattle.std.proofs.Common.{◌-◌}
use Rattle.wave.proofs.Collecting.{Progress}
use Rattle.wave.proofs.collect.Given as goal

abbrev pub invariant-loop-at : goal.invariant-loop-at
invariant-loop-at l = Progress l.file l.end l.found l.at

abbrev pub decreases-loop-at : goal.decreases-loop-at
decreases-loop-at l = l.end - l.at
