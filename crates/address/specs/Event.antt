-- A loop event as the code goes about it, both directions in one: what `event` promises to
-- `forward` and `reverse`. That it is the rule's event of each direction is proofs/Laws. Assumes
-- nothing.
use Rattle.std.specs.Prelude.{ℕ, if◌then◌else◌, ℤ}
use Rattle.numbers.specs.Numbers.{word}
use Rattle.control.specs.Control.{flag_of, with_bit, stp0_bit, lei_bit, lpe_bit, ble_bit, dir_bit}
use Rattle.address.specs.Address.{raised}
use Rattle.address.specs.declared.Place.{Place}

-- At the loop point `passed` the voice stops; or it goes on to `across`, as far past the other loop
-- point; or it turns `back`, as far before the one that it passed, and its direction bit is
-- `direction`.
unfoldable pub event : ℕ → ℕ → ℤ → ℤ → ℕ → Place
event CR passed across back direction =
    if flag_of ble_bit CR then
    (if flag_of lpe_bit CR
    then record { accum = word 32 back; cr = with_bit dir_bit direction (raised CR) }
    else record {
      accum = word 32 across;
      cr =
          with_bit lei_bit 1 (with_bit ble_bit 0 (raised CR));
    })
    else if flag_of lpe_bit CR then record { accum = word 32 across; cr = raised CR }
    else record { accum = passed; cr = with_bit stp0_bit 1 (raised CR) }
