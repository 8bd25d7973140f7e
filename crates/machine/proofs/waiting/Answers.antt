-- A record that the check does not refuse has a mask.
use Rattle.std.proofs.Common.{rules, ◌≡◌, sym}
use Rattle.answer.specs.Answer.{Done}
use Rattle.machine.specs.Check.{checked}
use Rattle.machine.proofs.Answers.{waiting_err, waiting_done}
use Rattle.machine.proofs.waiting.Goals as goal

pub returns-in_err-check : goal.returns-in_err-check
returns-in_err-check c = waiting_err _ _ c.in_err-check.field-0.0 (search rules) (search rules)

pub returns : goal.returns
returns c = let done : checked c.args.m.now ≡ Done = search rules in waiting_done _ (sym done)
