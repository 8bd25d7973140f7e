-- `numbers::number_of` meets its contract: a word moved up by half the range, wrapped, and moved down again. Assumes nothing.
use native.Mathlib.Nat.{mod-lt}
use Rattle.std.proofs.Common.{arith, ◌≡◌, ◌<◌, ◌≤◌, ◌^◌, ℕ, ◌+◌, ◌-◌, ◌*◌, ◌%◌, w32, ◌-ℤ◌, to_z}
use lib.Pow.{pow_pos, pow_mono}
use Rattle.numbers.specs.Numbers.{signed}
use Rattle.numbers.proofs.Local.{Done, nat, sub}
use Rattle.numbers.proofs.Words.{bit_at, half_twice, pos-sub, signed_bias}
use Rattle.numbers.proofs.number_of.Goals as goal

-- half the range: the machine's `half` is 2 ^ (n - 1), which is small and not 0
record Half (n h : ℕ) : Type 0 where
  is : h ≡ 2 ^ (n - 1)
  small : 2 ^ (n - 1) ≤ 8388608
  above : 0 < 2 ^ (n - 1)
  wide : 0 < n
  twice : 2 ^ n ≡ 2 ^ (n - 1) + 2 ^ (n - 1)

half : (n : ℕ) → 0 < n → n ≤ 24 → Half n ((1 * 2 ^ (n - 1)) % 4294967296)
half n p h = record {
  is = bit_at (n - 1) (omega arith);
  small = pow_mono {i = n - 1} {j = 23} (omega arith);
  above = pow_pos (n - 1);
  wide = p;
  twice = half_twice n p;
}

-- the number: the wrapped sum less half the range
less : (n w h : ℕ) → Half n h → w < 2 ^ n → Done w32 25165824 (signed n w) (to_z w32 ((w + h) % (2 * h)) -ℤ to_z w32 h)
less n w h e l = rw e.is
    (let m : 2 * 2 ^ (n - 1) ≡ 2 ^ n = omega arith in
    let r : (w + 2 ^ (n - 1)) % 2 ^ n < 2 ^ n = mod-lt (w + 2 ^ (n - 1)) (omega arith) in
    rw (m, signed_bias n w e.wide l, ← pos-sub ((w + 2 ^ (n - 1)) % 2 ^ n) (2 ^ (n - 1)))
    (sub (nat w32 16777216 ((w + 2 ^ (n - 1)) % 2 ^ n) tt (omega arith)) (nat w32 8388608 (2 ^ (n - 1)) tt e.small) tt))

pub overflow_mul-result : goal.overflow_mul-result
overflow_mul-result c = omega (arith, half c.args.n c.requires.is_width.0 c.requires.is_width.1)

pub overflow_cast-result : goal.overflow_cast-result
overflow_cast-result c =
    let h = half c.args.n c.requires.is_width.0 c.requires.is_width.1 in
    let p : 0 < 2 * ((1 * 2 ^ (c.args.n - 1)) % 4294967296) = omega arith in
    let r = mod-lt (c.args.w + (1 * 2 ^ (c.args.n - 1)) % 4294967296) p in
    record { sfits = omega (arith, r) }

pub overflow_cast-result-2 : goal.overflow_cast-result-2
overflow_cast-result-2 c = let h = half c.args.n c.requires.is_width.0 c.requires.is_width.1 in record { sfits = omega arith }

pub overflow_sub-result : goal.overflow_sub-result
overflow_sub-result c = (less _ _ _ (half c.args.n c.requires.is_width.0 c.requires.is_width.1) c.requires.w_fits).asks

pub returns : goal.returns
returns c = (less _ _ _ (half c.args.n c.requires.is_width.0 c.requires.is_width.1) c.requires.w_fits).num.is
