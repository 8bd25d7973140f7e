-- The lines of the first k pairs are stored. Assumes nothing.
use Rattle.std.proofs.Common.{◌*◌, take}
use Rattle.chart.specs.Chart.{lines, Stored}
use Rattle.chart.proofs.put_lines.Given as goal

abbrev pub invariant-loop-high : goal.invariant-loop-high
invariant-loop-high l = Stored l.initial.out 0 (lines (take (2 * l.high-index) l.input)) l.out l.at
