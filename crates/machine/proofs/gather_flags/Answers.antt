-- The flags gathered so far fit, and fit with one more.
use Rattle.std.proofs.Common.{◌≡◌, ◌+◌, ◌-◌, ◌*◌, ◌/◌, ◌^◌, ◌<◌, ℕ, List, arith, ap}
use Rattle.control.specs.Control.{irq_bit}
use Rattle.machine.specs.Words.{waiting_voices}
use Rattle.machine.proofs.Mask.{waiting_lt, flags_from, flags_small}
use Rattle.machine.proofs.gather_flags.Goals as goal

small : (m : List ℕ) (flags v : ℕ) → flags ≡ 2 ^ irq_bit * (waiting_voices m / 2 ^ v) → flags < 2 ^ 39
small m flags v e = omega (arith, e, flags_small m v)

pub loop-v-init : goal.loop-v-init
loop-v-init c = omega (arith, waiting_lt c.args.m.now)

pub overflow_mul-flags : goal.overflow_mul-flags
overflow_mul-flags c = omega (arith, small _ c.loop-v.flags c.loop-v.v c.loop-v.invariant)

pub overflow_add-flags : goal.overflow_add-flags
overflow_add-flags c = omega (arith, small _ c.loop-v.flags c.loop-v.v c.loop-v.invariant, c.bit.ensures.1, c.from.ensures)

pub loop-v-preserved : goal.loop-v-preserved
loop-v-preserved c =
    let m = c.args.m.now in
    let v = c.loop-v.v - 1 in
    let e : v + 1 ≡ c.loop-v.v = omega arith in
    omega (arith, c.loop-v.invariant, flags_from m v (omega arith), ap (λ (k : ℕ). waiting_voices m / 2 ^ k) e, c.bit.ensures.0, c.bit.ensures.1, c.from.ensures)

pub overflow_cast-result-2 : goal.overflow_cast-result-2
overflow_cast-result-2 c =
    let m = c.args.m.now in
    let e : c.loop-v.v ≡ 0 = omega arith in
    omega (arith, c.loop-v.invariant, ap (λ (k : ℕ). waiting_voices m / 2 ^ k) e, waiting_lt m)
