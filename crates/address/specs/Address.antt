-- The address step of a running voice: ACCUM moves by FC, and a loop point that it passes makes a
-- loop event.
-- In order: what an event leaves, by the loop mode, forward and in reverse; the step forward; the
-- step in reverse; the step. Addresses are whole numbers until they are stored, in 32 bits, so a
-- step past either end of the range is seen. Assumes nothing.
use Rattle.std.specs.Prelude.{ℕ, Bool, true, false, if◌then◌else◌, ◌||◌, not, ℤ, pos, ◌+ℤ◌, ◌-ℤ◌}
use Rattle.std.specs.Int.Signed.{le_z, lt_z}
use Rattle.numbers.specs.Numbers.{word}
use Rattle.control.specs.Control.{flag_of, with_bit, stp0_bit, lei_bit, lpe_bit, ble_bit, irqe_bit}
use Rattle.control.specs.Control.{dir_bit, irq_bit}
use Rattle.address.specs.declared.Place.{Place}

-- the control register after an event: its flag is set where the voice may interrupt
unfoldable pub raised : ℕ → ℕ
raised CR = if flag_of irqe_bit CR then with_bit irq_bit 1 CR else CR

-- An event forward, by the loop mode BLE, LPE; d is how far the target is past END. CR is `raised`
-- already.
--   0,0  stop at END, and set STP0
--   0,1  go on from START
--   1,0  likewise, and clear BLE and set LEI: this once
--   1,1  turn round at END
unfoldable pub forward_event : Bool → Bool → ℕ → ℕ → ℕ → ℤ → Place
forward_event false false CR START END d = record { accum = END; cr = with_bit stp0_bit 1 CR }
forward_event false true CR START END d = record { accum = word 32 (pos START +ℤ d); cr = CR }
forward_event true false CR START END d =
    record { accum = word 32 (pos START +ℤ d); cr = with_bit lei_bit 1 (with_bit ble_bit 0 CR) }
forward_event true true CR START END d =
    record { accum = word 32 (pos END -ℤ d); cr = with_bit dir_bit 1 CR }

-- In reverse START and END change places, and so do plus and minus; 1,1 turns to forward. d is how
-- far the target is past START.
unfoldable pub reverse_event : Bool → Bool → ℕ → ℕ → ℕ → ℤ → Place
reverse_event false false CR START END d = record { accum = START; cr = with_bit stp0_bit 1 CR }
reverse_event false true CR START END d = record { accum = word 32 (pos END -ℤ d); cr = CR }
reverse_event true false CR START END d =
    record { accum = word 32 (pos END -ℤ d); cr = with_bit lei_bit 1 (with_bit ble_bit 0 CR) }
reverse_event true true CR START END d =
    record { accum = word 32 (pos START +ℤ d); cr = with_bit dir_bit 0 CR }

-- forward: no event where LEI is 1 or the target is not past END
unfoldable pub forward : ℕ → ℕ → ℕ → ℕ → ℕ → Place
forward CR FC START END ACCUM =
    let t = pos ACCUM +ℤ pos FC in
    if flag_of lei_bit CR || le_z t (pos END) then record { accum = word 32 t; cr = CR }
    else forward_event (flag_of ble_bit CR) (flag_of lpe_bit CR) (raised CR) START END
    (t -ℤ pos END)

-- in reverse: no event where LEI is 1 or the target is not below START
unfoldable pub reverse : ℕ → ℕ → ℕ → ℕ → ℕ → Place
reverse CR FC START END ACCUM =
    let t = pos ACCUM -ℤ pos FC in
    if flag_of lei_bit CR || not (lt_z t (pos START)) then record { accum = word 32 t; cr = CR }
    else reverse_event (flag_of ble_bit CR) (flag_of lpe_bit CR) (raised CR) START END
    (pos START -ℤ t)

-- ACCUM and the control register after the step
unfoldable pub stepped : ℕ → ℕ → ℕ → ℕ → ℕ → Place
stepped CR FC START END ACCUM =
    if flag_of dir_bit CR then reverse CR FC START END ACCUM else forward CR FC START END ACCUM
