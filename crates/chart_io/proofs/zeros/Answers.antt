-- By the law of a repeated element: to count them one by one takes a gigabyte.
use Rattle.std.proofs.Common.{ℕ, sym}
use lib.ListN.{length-replicate}
use Rattle.chart_io.proofs.zeros.Goals as goal

pub returns : goal.returns
returns g c = sym (length-replicate {A = ℕ} _ 0)
