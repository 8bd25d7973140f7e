-- The loop event as a test, `loop_event`.
-- In order: it is the address rule's event (`stepped-event`: a step is an event where the test holds, and elsewhere leaves the control
-- register); the interrupt flag after a step (`stepped_flag`: as it was, or on where IRQE is 1 and the test holds). The step by each of
-- its tests, and the four ways of an event, are Laws; that no step heeds the flag is Agree. Assumes nothing.
use mathlib.Core.Path.{◌≡◌, sym, ap, ◌∙◌}
use mathlib.Core.Bool.{cond, ◌&&◌, ◌||◌, and-true, and-false, or-true, or-false}
use Prim.Native.Nat.{ℕ, ◌≤◌}
use native.Mathlib.Omega.{arith}
use lib.IntN.{ℤ, pos, ◌+ℤ◌, ◌-ℤ◌}
use lib.Signed.{le_z, lt_z}
use Rattle.numbers.specs.Numbers.{word}
use Rattle.numbers.proofs.Tests.{either, split}
use Rattle.control.specs.Control.{flag_of, with_bit, stp0_bit, lei_bit, lpe_bit, ble_bit, irqe_bit, dir_bit, irq_bit}
use Rattle.control.proofs.Bits.{flag_put, flag_other}
use Rattle.address.specs.declared.Place.{Place}
use Rattle.address.specs.Address.{raised, forward, reverse, stepped}
use Rattle.address.specs.Event.{event}
use Rattle.address.specs.LoopEvent.{loop_event}
use Rattle.address.proofs.Laws.{raised_on, raised_off, forward_one, reverse_one}

-- ---- the event

pub stepped-event : (CR FC START END ACCUM : ℕ)
    → stepped CR FC START END ACCUM
    ≡ cond (loop_event CR FC START END ACCUM)
    (cond (flag_of dir_bit CR)
    (event CR START (pos END -ℤ (pos START -ℤ (pos ACCUM -ℤ pos FC))) (pos START +ℤ (pos START -ℤ (pos ACCUM -ℤ pos FC))) 0)
    (event CR END (pos START +ℤ (pos ACCUM +ℤ pos FC -ℤ pos END)) (pos END -ℤ (pos ACCUM +ℤ pos FC -ℤ pos END)) 1))
    (record { accum = word 32 (cond (flag_of dir_bit CR) (pos ACCUM -ℤ pos FC) (pos ACCUM +ℤ pos FC)); cr = CR })
unfolding stepped forward reverse loop_event
stepped-event CR FC START END ACCUM = split _ (flag_of dir_bit CR)
    (λ d. split _ (flag_of lei_bit CR)
    (λ l. rw (d, l))
    (λ l. split _ (lt_z (pos ACCUM -ℤ pos FC) (pos START))
    (λ t. rw (d, l, t) (reverse_one CR START END _))
    (λ t. rw (d, l, t))))
    (λ d. split _ (flag_of lei_bit CR)
    (λ l. rw (d, l))
    (λ l. split _ (le_z (pos ACCUM +ℤ pos FC) (pos END))
    (λ t. rw (d, l, t))
    (λ t. rw (d, l, t) (forward_one CR START END _))))

-- ---- the interrupt flag

raised_flag : (CR : ℕ) → flag_of irq_bit (raised CR) ≡ (flag_of irq_bit CR || flag_of irqe_bit CR)
raised_flag CR = split _ (flag_of irqe_bit CR)
    (λ t. rw (raised_on CR t, t, flag_put irq_bit 1 CR (omega arith)) (sym (or-true (flag_of irq_bit CR))))
    (λ t. rw (raised_off CR t, t) (sym (or-false (flag_of irq_bit CR))))

-- the bits that an event puts besides are not the flag
event_flag : (CR passed : ℕ) (across back : ℤ) (direction : ℕ) → direction ≤ 1
    → flag_of irq_bit (event CR passed across back direction).cr ≡ (flag_of irq_bit CR || flag_of irqe_bit CR)
unfolding event
event_flag CR passed across back direction h =
    let P : Place → Type 0 = λ p. flag_of irq_bit p.cr ≡ (flag_of irq_bit CR || flag_of irqe_bit CR) in
    let r = raised_flag CR in
    either P (flag_of ble_bit CR) _ _
    (λ _. either P (flag_of lpe_bit CR) _ _
    (λ _. flag_other irq_bit dir_bit direction (raised CR) h (λ e. omega arith) ∙ r)
    (λ _. flag_other irq_bit lei_bit 1 (with_bit ble_bit 0 (raised CR)) (omega arith) (λ e. omega arith) ∙ flag_other irq_bit ble_bit 0 (raised CR) (omega arith) (λ e. omega arith) ∙ r))
    (λ _. either P (flag_of lpe_bit CR) _ _
    (λ _. r)
    (λ _. flag_other irq_bit stp0_bit 1 (raised CR) (omega arith) (λ e. omega arith) ∙ r))

pub stepped_flag : (CR FC START END ACCUM : ℕ) → flag_of irq_bit (stepped CR FC START END ACCUM).cr ≡ (flag_of irq_bit CR || (flag_of irqe_bit CR && loop_event CR FC START END ACCUM))
stepped_flag CR FC START END ACCUM =
    ap (λ (p : Place). flag_of irq_bit p.cr) (stepped-event CR FC START END ACCUM)
    ∙ split _ (loop_event CR FC START END ACCUM)
    (λ t. rw (t, and-true (flag_of irqe_bit CR)) (either (λ (p : Place). flag_of irq_bit p.cr ≡ (flag_of irq_bit CR || flag_of irqe_bit CR)) (flag_of dir_bit CR) _ _
    (λ _. event_flag CR START _ _ 0 (omega arith))
    (λ _. event_flag CR END _ _ 1 (omega arith))))
    (λ t. rw (t, and-false (flag_of irqe_bit CR)) (sym (or-false (flag_of irq_bit CR))))
