-- The steps of a pole as the machine makes them: each fits 32 bits, so its numbers are the rule's. Assumes nothing.
use Prim.Native.Nat.{ℕ, ◌*◌, ◌<◌}
use native.Mathlib.Omega.{arith}
use lib.IntN.{ℤ, pos, ◌+ℤ◌, ◌-ℤ◌, ◌*ℤ◌}
use lib.Signed.{shr_z}
use mir.Syntax.{w32}
use mir.Val.{to_z, of_z}
use Rattle.numbers.specs.Numbers.{floor_div, Bits}
use Rattle.numbers.proofs.Local.{Done, held, nat, sub, mul, shr, add}

-- what a local of the code holds
abbrev local : ℤ → ℤ
local z = to_z w32 (of_z w32 z)

module _ {x y : ℤ} (hx : Bits 18 x) (hy : Bits 18 y) where
  pub difference : Done w32 262144 (x -ℤ y) (local x -ℤ local y)
  difference = sub (held w32 tt hx) (held w32 tt hy) tt

  -- the low pass of x, where k is its coefficient and y its last output
  module _ {k : ℕ} (hk : k < 4096) where
    pub product : Done w32 (4095 * 262144) (pos k *ℤ (x -ℤ y)) (to_z w32 k *ℤ local (local x -ℤ local y))
    product = mul (nat w32 4095 k tt (omega arith)) difference.num tt

    pub low : Done w32 393153 (y +ℤ floor_div (pos k *ℤ (x -ℤ y)) 4096) (local y +ℤ local (shr_z (local (to_z w32 k *ℤ local (local x -ℤ local y))) 4096))
    low = add (held w32 tt hy) (shr 4096 product.num tt).num tt

-- the part of y that a high pass keeps
pub part : {f : ℕ} {y : ℤ} → f < 8192 → Bits 18 y → Done w32 131057 (floor_div (pos f *ℤ y) 8192) (shr_z (local (to_z w32 f *ℤ local y)) 8192)
part {f} hf hy = shr 8192 (mul (nat w32 8191 f tt (omega arith)) (held w32 tt hy) tt).num tt

-- the sum that it is held of
pub sum : {x x' r : ℤ} → Bits 18 x → Bits 18 x' → Bits 18 r → Done w32 393216 (x -ℤ x' +ℤ r) (local (local x -ℤ local x') +ℤ local r)
sum hx hx' hr = add (difference hx hx').num (held w32 tt hr) tt
