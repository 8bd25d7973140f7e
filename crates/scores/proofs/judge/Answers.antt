use Rattle.std.proofs.Common.{◌∙◌, arith}
use Rattle.scores.proofs.Judged.{judged, put}
use Rattle.scores.proofs.judge.Goals as goal

pub returns-clause-value : goal.returns-clause-value
returns-clause-value c =
    let p = c.put_in_full-bytes.ensures in
    c.judge_commands.ensures ∙ judged c.args.score.now (omega arith) (omega arith) (omega arith) c.args.full.now _ _ (omega arith) p.value p.full_after

pub returns-clause-full_after : goal.returns-clause-full_after
returns-clause-full_after c good = put c.args.score.now c.args.full.now _ c.put_in_full-bytes.ensures.full_after
