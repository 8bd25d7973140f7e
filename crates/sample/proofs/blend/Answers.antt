-- `sample::blend` meets its contract: each operation fits 32 bits, so the machine's numbers are the rule's, and the fraction's 4 falls out
-- of the division. Assumes nothing.
use mathlib.Core.Path.{◌≡◌, sym, ap, subst, ◌∙◌}
use Prim.Native.Nat.{ℕ, ◌*◌}
use native.Mathlib.Omega.{arith}
use lib.Dec.{lit<}
use lib.IntN.{ℤ, pos, ◌+ℤ◌, ◌-ℤ◌, ◌*ℤ◌, *ℤ_comm}
use mir.Syntax.{w32}
use Rattle.numbers.specs.Numbers.{floor_div, Bits}
use Rattle.numbers.proofs.Words.{floor_shared}
use Rattle.numbers.proofs.Local.{held, nat, lit, sub, mul, shr, add}
use Rattle.sample.specs.Sample.{interpolated}
use Rattle.sample.proofs.Laws.{interpolated-bits}
use Rattle.sample.proofs.blend.Goals as goal

four_less : (f : ℕ) (d : ℤ) → floor_div (pos (4 * f) *ℤ d) 512 ≡ floor_div (pos f *ℤ d) 128
four_less f d =
    let e : 4 * f ≡ f * 4 = omega arith in
    ap (λ (z : ℤ). floor_div z 512) (*ℤ_comm (pos (4 * f)) d ∙ ap (λ (n : ℕ). d *ℤ pos n) e) ∙ floor_shared d f 4 128 (lit< tt) ∙ ap (λ (z : ℤ). floor_div z 128) (*ℤ_comm d (pos f))

pub overflow_add-result : goal.overflow_add-result
overflow_add-result c =
    let x = held w32 tt c.requires.s1_fits in
    let f = mul (lit (pos 4)) (nat w32 511 c.args.f tt (omega arith)) tt in
    let p = mul f.num (sub (held w32 tt c.requires.s2_fits) x tt).num tt in
    (add (mul (lit (pos 4)) x tt).num (shr 512 p.num tt).num tt).asks

pub returns : goal.returns
unfolding interpolated
returns c =
    let x = held w32 tt c.requires.s1_fits in
    let f = mul (lit (pos 4)) (nat w32 511 c.args.f tt (omega arith)) tt in
    let p = mul f.num (sub (held w32 tt c.requires.s2_fits) x tt).num tt in
    let r = add (mul (lit (pos 4)) x tt).num (shr 512 p.num tt).num tt in
    let e = r.num.is ∙ ap (λ (z : ℤ). pos 4 *ℤ c.args.s1 +ℤ z) (four_less c.args.f (c.args.s2 -ℤ c.args.s1)) in
    (e, subst (Bits 18) (sym e) (interpolated-bits _ _ _ c.requires.f_in_range c.requires.s1_fits c.requires.s2_fits))
