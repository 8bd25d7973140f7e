-- the words that were passed are the score's
use Rattle.scores.specs.Score.{Filled}
use Rattle.scores.proofs.fill.Given as goal

abbrev pub invariant-loop-i : goal.invariant-loop-i
invariant-loop-i l = Filled l.i l.score l.memory
