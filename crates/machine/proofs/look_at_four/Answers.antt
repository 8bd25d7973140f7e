-- One word of the voices more, in its lane.
use Rattle.std.proofs.Common.{◌≡◌, ◌+◌, ℕ, List, arith, ap}
use lib.ListN.{get_or}
use Rattle.machine.proofs.Kept.{one_more_gathered}
use Rattle.machine.proofs.look_at_four.Goals as goal

pub loop-l-preserved : goal.loop-l-preserved
loop-l-preserved c =
    let l = c.loop-l.l in
    let j = c.args.j + l in
    let e : c.args.j + (l + 1) ≡ j + 1 = omega arith in
    rw e
    (one_more_gathered c.args.m.now j l _ _ c.loop-l.invariant (omega arith) c.gather-all.ensures
    (ap (λ (w : List ℕ). get_or w j 0) c.requires.kept_is_voice_bits))
