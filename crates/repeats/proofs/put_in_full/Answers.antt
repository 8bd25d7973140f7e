use Rattle.std.proofs.Common.{refl, arith}
use Rattle.repeats.specs.Repeats.{full_to}
use Rattle.repeats.proofs.Command.{command_is}
use Rattle.repeats.proofs.Full.{put_bytes, put_fits, put_next}
use Rattle.repeats.proofs.put_in_full.Goals as goal

pub loop-command-init : goal.loop-command-init
unfolding full_to
loop-command-init c = record { bytes = refl; put = refl }

pub put_stands_for-n-requires : goal.put_stands_for-n-requires
put_stands_for-n-requires c =
    let own = command_is c.args.commands.now _ c.loop-command.command-index c.as_chunks.ensures.front (omega arith) in
    let i = c.loop-command.invariant in
    let f = put_fits c.args.commands.now c.args.full.now c.requires c.loop-command.full _ c.loop-command.n c.loop-command.command-index (omega arith) own i.bytes i.put _ refl in
    omega arith

pub loop-command-preserved : goal.loop-command-preserved
loop-command-preserved c =
    let own = command_is c.args.commands.now _ c.loop-command.command-index c.as_chunks.ensures.front (omega arith) in
    let i = c.loop-command.invariant in
    let p = c.put_stands_for-n.ensures in
    record {
      bytes = put_bytes c.args.commands.now c.args.full.now c.requires c.loop-command.full _ c.loop-command.n c.loop-command.command-index (omega arith) own i.bytes i.put _ p.value;
      put = put_next c.args.commands.now c.args.full.now c.requires c.loop-command.full _ c.loop-command.n c.loop-command.command-index (omega arith) own i.bytes i.put _ p.full_after;
    }
