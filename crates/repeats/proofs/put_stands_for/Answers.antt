-- What a command stands for, put by one of two calls: by the laws of `Full`.
use Rattle.std.proofs.Common.{sym, ◌∙◌, arith}
use Rattle.repeats.proofs.Command.{bytes_are}
use Rattle.repeats.proofs.Full.{there, again_long, stands_again, itself_long, stands_itself}
use Rattle.repeats.proofs.put_stands_for.Goals as goal

pub overflow_sub-from : goal.overflow_sub-from
overflow_sub-from c = let w = there c.args.command 0 c.args.n (sym c.if-repeats_others.ensures) in omega arith

pub copy_within-requires-clause-in_bounds : goal.copy_within-requires-clause-in_bounds
copy_within-requires-clause-in_bounds c =
    let w = there c.args.command 0 c.args.n (sym c.if-repeats_others.ensures) in
    let l = again_long c.args.full.now c.args.command c.args.n (omega arith) c.requires c.if-repeats_others.ensures in
    omega arith

pub copy_within-requires-clause-dest_in_bounds : goal.copy_within-requires-clause-dest_in_bounds
copy_within-requires-clause-dest_in_bounds c =
    let l = again_long c.args.full.now c.args.command c.args.n (omega arith) c.requires c.if-repeats_others.ensures in
    omega arith

pub put4-requires : goal.put4-requires
put4-requires c =
    let l = itself_long c.args.full.now c.args.command c.args.n (omega arith) c.requires c.if-repeats_others.ensures in
    omega arith

pub returns-then-repeats_others-clause-value : goal.returns-then-repeats_others-clause-value
returns-then-repeats_others-clause-value c =
    let l = again_long c.args.full.now c.args.command c.args.n (omega arith) c.requires c.if-repeats_others.ensures in
    omega arith

pub returns-then-repeats_others-clause-full_after : goal.returns-then-repeats_others-clause-full_after
returns-then-repeats_others-clause-full_after c =
    c.copy_within.ensures.after
    ∙ stands_again c.args.full.now c.args.command c.args.n (omega arith) c.requires c.if-repeats_others.ensures _ _ (omega arith) (omega arith)

pub returns-else-repeats_others-clause-value : goal.returns-else-repeats_others-clause-value
returns-else-repeats_others-clause-value c = itself_long c.args.full.now c.args.command c.args.n (omega arith) c.requires c.if-repeats_others.ensures

pub returns-else-repeats_others-clause-full_after : goal.returns-else-repeats_others-clause-full_after
returns-else-repeats_others-clause-full_after c =
    stands_itself c.args.full.now c.args.command c.args.n (omega arith) c.requires c.if-repeats_others.ensures _ (grind (arith, bytes_are))
