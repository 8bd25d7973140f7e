use Rattle.std.proofs.Common.{◌≢◌, ◌<◌, ◌*◌, length, arith, get_or-set_other, get_or-set_same, below_more, ap, ◌∙◌}
use Rattle.std.specs.Int.{w16, from_be_bytes}
use Rattle.layout.proofs.Endian.{big_2_at}
use Rattle.scores.proofs.fill.Goals as goal

pub loop-i-preserved : goal.loop-i-preserved
loop-i-preserved c =
    let lt : c.loop-i.i < length c.loop-i.memory = omega arith in
    below_more _ _
    (λ k h. let ne : k ≢ c.loop-i.i = omega arith in rw get_or-set_other (c.loop-i.invariant k h))
    (rw get_or-set_same (c.from_be_bytes.ensures ∙ ap (from_be_bytes w16) c.array_at.ensures ∙ big_2_at c.args.score.now (2 * c.loop-i.i) (omega arith)))
