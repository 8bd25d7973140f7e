-- The values that were passed are written.
use Rattle.std.proofs.Common.{take}
use Rattle.std.specs.Io.KnownBytes.{Appends}
use Rattle.score.specs.Values.{values_text}
use Rattle.score.proofs.put_values.Given as goal

abbrev pub invariant-loop-value : goal.invariant-loop-value
invariant-loop-value g l = Appends (g.W.Write.contents l.initial.out) (g.W.Write.contents l.out) (values_text (take l.value-index l.values))
