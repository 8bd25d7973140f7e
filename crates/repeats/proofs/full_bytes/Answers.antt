use Rattle.std.proofs.Common.{refl, arith}
use Rattle.repeats.specs.Repeats.{full_to}
use Rattle.repeats.proofs.Command.{command_is}
use Rattle.repeats.proofs.Full.{full_length}
use Rattle.repeats.proofs.full_bytes.Goals as goal

pub loop-command-init : goal.loop-command-init
unfolding full_to
loop-command-init c = record { passed = refl; few = omega arith }

pub loop-command-preserved : goal.loop-command-preserved
loop-command-preserved c =
    let own = command_is c.args.commands.now _ c.loop-command.command-index c.as_chunks.ensures.front (omega arith) in
    record {
      passed = full_length c.args.commands.now c.loop-command.command-index _ _ _ _ (omega arith) own c.loop-command.invariant.passed (omega arith) c.stands_bytes-n.ensures.value;
      few = omega arith;
    }
