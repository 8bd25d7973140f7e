-- What is printed of a number is its decimal, and its end stands after it.
use Rattle.std.proofs.Common.{◌∙◌, ap, arith}
use mir.Facts.{to_z-of_z}
use Rattle.std.specs.Fmt.{signed_decimal}
use Rattle.numbers.proofs.Within.{of_sfits}
use Rattle.chart.proofs.Decimals.{number_is}
use Rattle.chart.proofs.Stores.{then, reads_as}
use Rattle.chart.proofs.put_field.Goals as goal

pub returns : goal.returns
returns c = then (reads_as (c.as_bytes.ensures.value ∙ c.format.ensures.text ∙ ap signed_decimal (to_z-of_z c.ranges.z) ∙ number_is c.args.z (omega (arith, of_sfits c.ranges.z))) c.put-after.ensures) c.put.ensures
