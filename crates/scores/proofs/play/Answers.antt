-- One call more, or one command; and the end of it: by the laws of `Playing`.
use Rattle.std.proofs.Common.{◌≡◌, Bool, true, false, cond, sym, refl, ap, ◌∙◌, arith, rules, ℕ}
use Rattle.std.specs.Int.{from_bool}
use Rattle.std.specs.Result.{is_err}
use Rattle.std.specs.Prelude.{Result, Ok, Err}
use Rattle.answer.specs.Answer.{is_done, answer_of}
use Rattle.answer.specs.declared.Refusal.{Refusal}
use Rattle.calls.specs.Asks.{call_of}
use Rattle.scores.specs.Score.{silence}
use Rattle.scores.specs.Playing.{is_frame}
use Rattle.scores.proofs.Commands.{command_own, command_few}
use Rattle.scores.proofs.Making.{asks_frame, call_long}
use Rattle.scores.proofs.Playing.{one_call, one_command, next, ended}
use Rattle.scores.proofs.play.Goals as goal

counted : (b : Bool) → from_bool b ≡ cond b 1 0
counted true = refl
counted false = refl

refused : (r : Result ℕ Refusal) → from_bool (is_err r) ≡ cond (is_done (answer_of r)) 0 1
refused (Ok x) = refl
refused (Err e) = refl

pub overflow_add-made : goal.overflow_add-made
overflow_add-made c =
    let l = c.loop-calls in
    let own = c.from.ensures ∙ command_own c.args.commands.now _ c.as_chunks.ensures.front l.command (omega arith) in
    let one = one_call c.args.memory.now c.args.commands.now l.command l.made _ own (omega arith) c.in-Some.ask (sym c.in-Some.ensures) in
    record { fits = omega (arith, one.1, command_few c.args.commands.now l.command (omega arith) c.type_inv.commands) }

pub loop-calls-preserved-in-Some : goal.loop-calls-preserved-in-Some
loop-calls-preserved-in-Some c =
    let l = c.loop-calls in
    let ask = c.in-Some.ask in
    let own = c.from.ensures ∙ command_own c.args.commands.now _ c.as_chunks.ensures.front l.command (omega arith) in
    let one = one_call c.args.memory.now c.args.commands.now l.command l.made _ own (omega arith) ask (sym c.in-Some.ensures) in
    let going = rw one.0 at l.invariant.going in
    let more = next going (omega arith) (omega arith) (call_long ask c.args.memory.now) c.make-answer.ensures in
    let frame : c.from-frames.result ≡ cond (is_frame (call_of ask c.args.memory.now silence)) 1 0 =
    c.from-frames.ensures ∙ counted _ ∙ ap (λ b. cond b 1 0) (c.is_frame.ensures ∙ sym (asks_frame ask c.args.memory.now silence)) in
    let r = refused c.make-answer.result in
    let refusal : c.from-refused.result ≡ cond (is_done (answer_of c.make-answer.result)) 0 1 = cc in
    record {
      going = rw (frame, refusal) more;
      within = omega (arith, one.1);
      few = omega arith;
      same = search rules;
    }

pub loop-calls-preserved : goal.loop-calls-preserved
loop-calls-preserved c =
    let l = c.loop-calls in
    let own = c.from.ensures ∙ command_own c.args.commands.now _ c.as_chunks.ensures.front l.command (omega arith) in
    let one = one_command c.args.memory.now c.args.commands.now l.command l.made _ own (omega arith) l.invariant.within (sym c.in-None.ensures) in
    record {
      going = rw one at l.invariant.going;
      within = omega arith;
      few = l.invariant.few;
      same = l.invariant.same;
    }

pub returns-else-command-whole : goal.returns-else-command-whole
returns-else-command-whole c =
    let i = c.loop-calls.invariant in
    ended i.going i.few i.within (λ h. omega arith)

pub returns-after-loop-calls : goal.returns-after-loop-calls
returns-after-loop-calls c =
    let i = c.loop-calls.invariant in
    ended i.going i.few i.within (λ h. absurd (omega arith))
