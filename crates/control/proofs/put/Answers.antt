-- `control::put`: each shifted bit fits, and a bit that is set can be taken off.
use Rattle.std.proofs.Common.{◌≡◌, ℕ, ◌*◌, ◌%◌, not, bit_or}
use mathlib.Core.Path.{ap₂, ◌∙◌}
use Prim.Native.Nat.{◌-◌, ◌^◌}
use native.Mathlib.Omega.{arith}
use mir.Val.{bool_byte}
use Rattle.control.specs.Control.{with_bit}
use Rattle.control.proofs.Bits.{in_place, or_bit, flag_le, put_set, set_within}
use Rattle.control.proofs.put.Goals as goal

-- the word with the bit set, and what is taken off
is_set : (c : goal.After-from) → bit_or c.args.w (1 * 2 ^ c.args.n % 4294967296) ≡ with_bit c.args.n 1 c.args.w
is_set c = let e : 1 * 2 ^ c.args.n % 4294967296 ≡ 2 ^ c.args.n = omega (arith, in_place c.args.n 1 c.requires (omega arith)) in rw e (or_bit c.args.n c.args.w)

taken : (c : goal.After-from) → c.from.result * 2 ^ c.args.n % 4294967296 ≡ bool_byte (not c.args.b) * 2 ^ c.args.n
taken c = rw c.from.ensures (in_place c.args.n (bool_byte (not c.args.b)) c.requires (flag_le _))

pub overflow_sub-result : goal.overflow_sub-result
overflow_sub-result c = omega (arith, is_set c, taken c, set_within c.args.n c.args.b c.args.w)

pub returns : goal.returns
returns c = ap₂ (λ (x y : ℕ). x - y) (is_set c) (taken c) ∙ put_set c.args.n c.args.b c.args.w
