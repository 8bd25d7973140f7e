-- `frame::frame` meets its contract: refused, and done. Assumes nothing.
use Rattle.std.proofs.Common.{rules, ◌≡◌, ap, ◌∙◌}
use Rattle.answer.specs.Answer.{Done}
use Rattle.machine.proofs.Valid.{is_valid}
use Rattle.frame.specs.Missing.{missed_in}
use Rattle.frame.specs.Frame.{played, closed, heard, frame_answer}
use Rattle.frame.proofs.Answered.{done_frame, frames_err, frames_done}
use Rattle.frame.proofs.frame.Goals as goal

pub returns-in_err-check_frame : goal.returns-in_err-check_frame
returns-in_err-check_frame c = frames_err _ _ _ _ c.in_err-check_frame.field-0.0 (search rules) (search rules)

pub lent-m-requires : goal.lent-m-requires
lent-m-requires c = let done : frame_answer c.args.m.now c.args.memory.now c.args.out.now ≡ Done = search rules in is_valid _ (done_frame _ _ _ done).machine

pub close-requires : goal.close-requires
close-requires c = let done : frame_answer c.args.m.now c.args.memory.now c.args.out.now ≡ Done = search rules in (done_frame _ _ _ done).values

pub returns : goal.returns
returns c =
    let memory = c.args.memory.now in
    let done : frame_answer c.args.m.now memory c.args.out.now ≡ Done = search rules in
    let name = c.play-missing.ensures.leaves.0 in
    let name_2 = c.close.ensures.leaves.0 in
    let played_is = c.play-missing.ensures.leaves.1 ∙ ap (played memory) c.lent-m.ensures.words in
    let closed_is = c.close.ensures.leaves.1 ∙ ap closed played_is in
    frames_done _ _ _ _ _ _ done (c.play-missing.ensures.missing ∙ ap (missed_in memory) c.lent-m.ensures.words) (search rules) (c.close.ensures.out ∙ ap heard played_is)
