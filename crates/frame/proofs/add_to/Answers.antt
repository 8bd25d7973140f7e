-- `frame::add_to` meets its contract: the old sum and the value's word are mixed. Assumes nothing.
use Rattle.std.proofs.Common.{ap, ◌∙◌}
use mir.Facts.{to_z-of_z}
use lib.ListN.{set}
use Rattle.numbers.specs.Numbers.{word}
use Rattle.channel.specs.Channel.{mixed}
use Rattle.frame.specs.Frame.{added_to}
use Rattle.frame.proofs.add_to.Goals as goal

pub returns : goal.returns
unfolding added_to
returns c = ap (set _ _) (c.mix.ensures.0 ∙ ap (mixed _) (c.word_of.ensures.0 ∙ ap (word 23) (to_z-of_z c.ranges.z)))
