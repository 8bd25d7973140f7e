-- Refused, and a value within its limit.
use Rattle.std.proofs.Common.{rules, ◌≡◌}
use Rattle.answer.specs.Answer.{Done}
use Rattle.answer.specs.declared.Refusal.TheVariants.{Pot}
use Rattle.registers.specs.Access.{asked}
use Rattle.registers.proofs.Laws.{pot_err, pot_done}
use Rattle.registers.proofs.set_pot.Goals as goal

pub returns-in_err-check_within : goal.returns-in_err-check_within
returns-in_err-check_within c = pot_err c.args.m.now c.args.value c.from_residual.result c.from_residual.ensures.0 (search rules)

pub returns : goal.returns
returns c = let done : asked c.args.m.now 1023 c.args.value Pot ≡ Done = search rules in pot_done c.args.m.now c.args.value done
