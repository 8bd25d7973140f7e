use Rattle.std.proofs.Common.{◌≡◌, refl, arith}
use Rattle.numbers.specs.Sum.{sum}
use Rattle.repeats.specs.Repeats.{command_count}
use Rattle.scores.specs.Score.{all_frames}
use Rattle.scores.proofs.Commands.{frames_next}
use Rattle.scores.proofs.frames_of.Goals as goal

pub loop-command-init : goal.loop-command-init
unfolding sum
loop-command-init c = record { counted = refl; few = omega arith }

pub loop-command-preserved : goal.loop-command-preserved
loop-command-preserved c =
    record {
      counted = frames_next c.args.commands.now _ c.as_chunks.ensures.front _ c.loop-command.command-index _ _ (omega arith) c.loop-command.invariant.counted (cc) c.frames-n.ensures.value;
      few = omega arith;
    }

pub returns : goal.returns
unfolding all_frames
returns c =
    let e : c.loop-command.command-index ≡ command_count c.args.commands.now = omega arith in
    rw (← e) c.loop-command.invariant.counted
