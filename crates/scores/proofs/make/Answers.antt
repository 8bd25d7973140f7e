-- What `perform` promises of the call, and the four bytes of a frame.
use Rattle.std.proofs.Common.{sym, ◌∙◌, ap}
use Rattle.layout.specs.Parts.{with_part}
use Rattle.scores.proofs.Making.{a_frame, another}
use Rattle.scores.proofs.make.Goals as goal

pub returns-then-is_frame : goal.returns-then-is_frame
returns-then-is_frame c =
    a_frame c.args.m.now c.args.memory.now c.args.ask c.args.sound.now c.args.at c.perform-answer.ensures (sym c.if-is_frame.ensures)
    (c.put4.ensures ∙ ap (with_part c.args.sound.now c.args.at) c.sample_bytes.ensures)

pub returns-else-is_frame : goal.returns-else-is_frame
returns-else-is_frame c = another c.args.m.now c.args.memory.now c.args.ask c.args.sound.now c.args.at c.perform-answer.ensures (sym c.if-is_frame.ensures)
