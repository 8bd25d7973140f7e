-- Refused, and what the worker leaves of the record that was lent.
use Rattle.std.proofs.Common.{rules, ◌≡◌}
use Rattle.answer.specs.Answer.{Done}
use Rattle.answer.specs.declared.Refusal.TheVariants.{Address}
use Rattle.registers.specs.Access.{asked}
use Rattle.registers.proofs.Laws.{reads_err, reads_done}
use Rattle.registers.proofs.read.Goals as goal

pub returns-in_err-check_within : goal.returns-in_err-check_within
returns-in_err-check_within c = reads_err c.args.m.now c.args.address c.from_residual.result c.from_residual.ensures.0 (search rules)

pub returns : goal.returns
returns c =
    let done : asked c.args.m.now 63 c.args.address Address ≡ Done = search rules in
    let words = c.read_byte.ensures.leaves.1 in
    let lent = c.lent-machine.ensures.words in
    reads_done c.args.m.now c.args.address _ _ done (search rules) (search rules)
