-- A record that the check refuses is refused with its answer; one that it does not has as many words as it should.
use Rattle.std.proofs.Common.{rules, ◌≡◌, arith, sym, ◌∙◌}
use Rattle.std.specs.Prelude.{Err}
use Rattle.answer.specs.Answer.{Answer, Done}
use Rattle.machine.specs.Check.{checked}
use Rattle.machine.proofs.Answers.{not_refused}
use Rattle.frame.proofs.Answered.{told_record}
use Rattle.frame.proofs.check_frame.Goals as goal

pub returns-in_err-check : goal.returns-in_err-check
returns-in_err-check c =
    let e = c.in_err-check.field-0.0 in
    let r : ◌≡◌ {A = Answer} c.from_residual.result (Err e) = search rules in
    let h : checked c.args.m.now ≡ Err e = search rules in
    r ∙ sym (told_record _ _ _ e h)

pub bounds-m-643 : goal.bounds-m-643
bounds-m-643 c = let done : checked c.args.m.now ≡ Done = search rules in omega (arith, (not_refused _ done).size)
