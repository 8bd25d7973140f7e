-- `filter::low_pass`: each step fits 32 bits, and the output lies between the input and the last output.
use Rattle.std.proofs.Common.{sym, subst, ◌∙◌}
use Rattle.numbers.specs.Numbers.{Bits}
use Rattle.filter.specs.Filter.{low_pass}
use Rattle.filter.proofs.Laws.{low_bits}
use Rattle.filter.proofs.Steps.{product, low}
use Rattle.filter.proofs.low_pass.Goals as goal

pub overflow_mul-result : goal.overflow_mul-result
overflow_mul-result c = (product c.x.invariant c.yp.invariant c.k.invariant).asks

pub overflow_add-result : goal.overflow_add-result
overflow_add-result c = (low c.x.invariant c.yp.invariant c.k.invariant).asks

pub invariant_of-result : goal.invariant_of-result
unfolding low_pass
invariant_of-result c =
    subst (Bits 18) (sym (low c.x.invariant c.yp.invariant c.k.invariant).num.is) (low_bits _ _ _ c.k.invariant c.x.invariant c.yp.invariant)

pub returns : goal.returns
unfolding low_pass
returns c = (low c.x.invariant c.yp.invariant c.k.invariant).num.is ∙ (λ i. low_pass (c.k.view_is i) (c.x.view_is i) (c.yp.view_is i))
