-- The address step carries the interrupt flag and does not heed it: from control registers that agree but for IRQ it leads to the same
-- ACCUM, and to control registers that agree but for IRQ. Assumes nothing.
use mathlib.Core.Path.{◌≡◌, refl, ap}
use mathlib.Core.Logic.{◌≢◌}
use mathlib.Core.Bool.{Bool, not, ◌||◌}
use Prim.Native.Nat.{ℕ, ◌≤◌}
use native.Mathlib.Omega.{arith}
use lib.IntN.{ℤ, pos, ◌+ℤ◌, ◌-ℤ◌}
use lib.Signed.{le_z, lt_z}
use Rattle.numbers.proofs.Tests.{alongside}
use Rattle.control.specs.Control.{flag_of, with_bit, stp0_bit, lei_bit, lpe_bit, ble_bit, irqe_bit, dir_bit, irq_bit}
use Rattle.control.proofs.Agree.{AgreeBut, flag_agrees, put_agrees}
use Rattle.address.specs.declared.Place.{Place}
use Rattle.address.specs.Address.{raised, forward, reverse, stepped}
use Rattle.address.specs.Event.{event}
use Rattle.address.proofs.Laws.{forward_one, reverse_one}

pub record SamePlace (a b : Place) : Type 0 where
  pub accum : a.accum ≡ b.accum
  pub cr : AgreeBut irq_bit a.cr b.cr

module _ (c d : ℕ) (h : AgreeBut irq_bit c d) where
  same : (b : ℕ) → b ≢ irq_bit → flag_of b c ≡ flag_of b d
  same = flag_agrees irq_bit c d h

  raised_agrees : AgreeBut irq_bit (raised c) (raised d)
  unfolding raised
  raised_agrees = alongside (AgreeBut irq_bit) (same irqe_bit (λ e. omega arith)) (put_agrees irq_bit c d h irq_bit 1 (omega arith)) h

  event_agrees : (passed : ℕ) (across back : ℤ) (direction : ℕ) → direction ≤ 1 → SamePlace (event c passed across back direction) (event d passed across back direction)
  unfolding event
  event_agrees passed across back direction l =
      let r = raised_agrees in
      alongside SamePlace (same ble_bit (λ e. omega arith))
      (alongside SamePlace (same lpe_bit (λ e. omega arith))
      (record { accum = refl; cr = put_agrees irq_bit (raised c) (raised d) r dir_bit direction l })
      (record {
        accum = refl;
        cr = put_agrees irq_bit (with_bit ble_bit 0 (raised c)) (with_bit ble_bit 0 (raised d)) (put_agrees irq_bit (raised c) (raised d) r ble_bit 0 (omega arith)) lei_bit 1 (omega arith);
      }))
      (alongside SamePlace (same lpe_bit (λ e. omega arith))
      (record { accum = refl; cr = r })
      (record { accum = refl; cr = put_agrees irq_bit (raised c) (raised d) r stp0_bit 1 (omega arith) }))

  -- LEI is the same in both, so both heed a loop point or neither does
  heeds : (t : Bool) → (flag_of lei_bit c || t) ≡ (flag_of lei_bit d || t)
  heeds t = ap (λ (f : Bool). f || t) (same lei_bit (λ e. omega arith))

  pub stepped_agrees : (FC START END ACCUM : ℕ) → SamePlace (stepped c FC START END ACCUM) (stepped d FC START END ACCUM)
  unfolding stepped forward reverse
  stepped_agrees FC START END ACCUM =
      alongside SamePlace (same dir_bit (λ e. omega arith))
      (alongside SamePlace (heeds (not (lt_z (pos ACCUM -ℤ pos FC) (pos START)))) (record { accum = refl; cr = h }) (rw (reverse_one c START END _, reverse_one d START END _) (event_agrees START _ _ 0 (omega arith))))
      (alongside SamePlace (heeds (le_z (pos ACCUM +ℤ pos FC) (pos END))) (record { accum = refl; cr = h }) (rw (forward_one c START END _, forward_one d START END _) (event_agrees END _ _ 1 (omega arith))))
