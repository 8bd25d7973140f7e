-- One word of the voices more, one sum and three of the words between, in their lane.
use Rattle.std.proofs.Common.{◌≡◌, ◌+◌, arith}
use mathlib.Core.Bool.{and-true}
use Rattle.machine.specs.Words.{bits_of, shared_bits}
use Rattle.machine.specs.Kept.{sums_kept, shared_kept}
use Rattle.machine.proofs.Kept.{one_more_of_all, last_bits, three_sums}
use Rattle.machine.proofs.look_at_rest.Goals as goal

pub loop-l-init : goal.loop-l-init
unfolding sums_kept shared_kept
loop-l-init c = simp and-true c.requires.lanes

pub loop-l-preserved : goal.loop-l-preserved
unfolding bits_of shared_bits
loop-l-preserved c =
    let l = c.loop-l.l in
    let m = c.args.m.now in
    let e : 16 + (l + 1) ≡ 16 + l + 1 = omega arith in
    rw e
    (one_more_of_all m c.args.kept.now (16 + l) l _ _ _ c.loop-l.invariant (omega arith) c.gather-all.ensures (last_bits l (omega arith))
    (three_sums m l) c.requires.kept_is_shared_bits)
