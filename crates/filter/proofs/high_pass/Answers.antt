-- `filter::high_pass`: the sum fits 32 bits, and what is held has 18.
use Rattle.std.proofs.Common.{◌≡◌, sym, ap, subst, ◌∙◌, ℕ, ◌+◌, pos, ◌+ℤ◌, ◌-ℤ◌, ◌*ℤ◌}
use mir.Syntax.{w32}
use Rattle.numbers.specs.Numbers.{floor_div, held, minus, Bits}
use Rattle.numbers.proofs.Local.{back}
use Rattle.filter.specs.Filter.{high_pass}
use Rattle.filter.proofs.Laws.{high_bits}
use Rattle.filter.proofs.Steps.{sum}
use Rattle.filter.proofs.high_pass.Goals as goal

pub returns : goal.returns
unfolding high_pass
returns c =
    let part : c.hold.inside.0 ≡ floor_div (pos (4096 + c.args.k) *ℤ c.args.yp) 8192 =
    c.hold.view_is ∙ c.scaled.ensures ∙ ap (λ (k : ℕ). floor_div (pos (4096 + k) *ℤ c.args.yp) 8192) c.k.view_is in
    back w32 c.hold-2.type_inv ∙ c.hold-2.ensures ∙ ap (held (minus 131072) (pos 131071)) (sum c.x.invariant c.xp.invariant c.hold.invariant).num.is
    ∙ (λ i. held (minus 131072) (pos 131071) (c.x.view_is i -ℤ c.xp.view_is i +ℤ part i))

pub invariant_of-result : goal.invariant_of-result
invariant_of-result c = subst (Bits 18) (sym (returns c)) (high_bits _ _ _ _)
