-- `filter::scaled`: the product fits 32 bits.
use Rattle.std.proofs.Common.{ap, ◌∙◌, pos, ◌*ℤ◌, ℤ}
use Rattle.numbers.specs.Numbers.{floor_div}
use Rattle.filter.proofs.Steps.{part}
use Rattle.filter.proofs.scaled.Goals as goal

pub returns : goal.returns
returns c = (part c.requires c.y.invariant).num.is ∙ ap (λ (y : ℤ). floor_div (pos c.args.f *ℤ y) 8192) c.y.view_is
