use Rattle.std.proofs.Common.{◌∙◌, rules, get_or, ltb}
use borrow.Author.Tests.{tests}
use Rattle.std.proofs.lemmas.Iterator.{YieldsList-from_slice}
use Rattle.std.proofs.lemmas.Iterator.Search.{all_from_yields_List}
use Rattle.scores.proofs.Commands.{all_are_below}
use Rattle.scores.proofs.all_below.Goals as goal

pub returns : goal.returns
returns c =
    all_from_yields_List (λ command. ltb (get_or command 0 0) c.args.kind) _ _ _ c.all.ensures.ran (YieldsList-from_slice c.as_chunks.result.0.now (cc)) (λ x b q k. search (rules, tests))
    ∙ all_are_below c.args.commands.now _ c.as_chunks.ensures.front c.as_chunks.ensures.front_len c.args.kind
