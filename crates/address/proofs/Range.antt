-- The address step keeps the ranges of ACCUM and of the control register. Assumes nothing.
use mathlib.Core.Bool.{◌||◌, not}
use Prim.Native.Nat.{ℕ, ◌^◌, ◌<◌}
use native.Mathlib.Omega.{arith}
use lib.Dec.{lit<, lit≤}
use lib.IntN.{ℤ, pos, ◌+ℤ◌, ◌-ℤ◌}
use lib.Signed.{le_z, lt_z}
use Rattle.numbers.proofs.Tests.{either}
use Rattle.numbers.proofs.Words.{word_lt}
use Rattle.control.specs.Control.{flag_of, with_bit, lei_bit, lpe_bit, ble_bit, irqe_bit, dir_bit, irq_bit}
use Rattle.control.proofs.Bits.{put_small}
use Rattle.address.specs.declared.Place.{Place}
use Rattle.address.specs.Address.{raised, forward, reverse, stepped}
use Rattle.address.specs.Event.{event}
use Rattle.address.proofs.Laws.{forward_one, reverse_one}

pub record Small (p : Place) : Type 0 where
  pub accum : p.accum < 2 ^ 32
  pub cr : p.cr < 65536

raised_small : (CR : ℕ) → CR < 65536 → raised CR < 65536
unfolding raised
raised_small CR h = either (λ x. x < 65536) (flag_of irqe_bit CR) (with_bit irq_bit 1 CR) CR (λ t. put_small 7 1 CR (lit< tt) (lit≤ tt) h) (λ t. h)

event_small : (CR passed : ℕ) (across back : ℤ) (direction : ℕ) → CR < 65536 → passed < 2 ^ 32 → direction < 2 → Small (event CR passed across back direction)
unfolding event
event_small CR passed across back direction h k l =
    let r = raised_small CR h in
    either Small (flag_of ble_bit CR) _ _
    (λ b. either Small (flag_of lpe_bit CR) _ _
    (λ e. record { accum = word_lt 32 back; cr = put_small 6 direction (raised CR) (lit< tt) (omega arith) r })
    (λ e. record { accum = word_lt 32 across; cr = put_small 2 1 (with_bit ble_bit 0 (raised CR)) (lit< tt) (lit≤ tt) (put_small 4 0 (raised CR) (lit< tt) (omega arith) r) }))
    (λ b. either Small (flag_of lpe_bit CR) _ _
    (λ e. record { accum = word_lt 32 across; cr = r })
    (λ e. record { accum = k; cr = put_small 0 1 (raised CR) (lit< tt) (lit≤ tt) r }))

pub stepped_small : (CR FC START END ACCUM : ℕ) → CR < 65536 → START < 2 ^ 32 → END < 2 ^ 32 → Small (stepped CR FC START END ACCUM)
unfolding stepped forward reverse
stepped_small CR FC START END ACCUM h s e =
    either Small (flag_of dir_bit CR) _ _
    (λ t. either Small (flag_of lei_bit CR || not (lt_z (pos ACCUM -ℤ pos FC) (pos START))) _ _
    (λ u. record { accum = word_lt 32 (pos ACCUM -ℤ pos FC); cr = h })
    (λ u. rw (reverse_one CR START END _) (event_small CR START _ _ 0 h s (lit< tt))))
    (λ t. either Small (flag_of lei_bit CR || le_z (pos ACCUM +ℤ pos FC) (pos END)) _ _
    (λ u. record { accum = word_lt 32 (pos ACCUM +ℤ pos FC); cr = h })
    (λ u. rw (forward_one CR START END _) (event_small CR END _ _ 1 h e (lit< tt))))
