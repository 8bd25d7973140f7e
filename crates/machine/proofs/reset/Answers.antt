-- Refused, and done.
use Rattle.std.proofs.Common.{arith}
use Rattle.machine.proofs.Answers.{reset_refused, reset_done}
use Rattle.machine.proofs.Fresh.{is_fresh}
use Rattle.machine.proofs.reset.Goals as goal

pub returns-then-m-ne-RECORD_WORDS : goal.returns-then-m-ne-RECORD_WORDS
returns-then-m-ne-RECORD_WORDS c = reset_refused c.args.m.now c.if-m-ne-RECORD_WORDS.true

pub returns : goal.returns
returns c = reset_done c.args.m.now _ c.if-m-ne-RECORD_WORDS.false (is_fresh c.loop-i.m (omega arith) (λ k h. c.loop-i.invariant k (omega arith)))
