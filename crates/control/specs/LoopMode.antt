-- What a voice does at a loop point, by BLE and LPE of its control register. Assumes nothing.
use Rattle.std.specs.Prelude.{ℕ, if◌then◌else◌}
use Rattle.control.specs.Control.{flag_of, lpe_bit, ble_bit}
use Rattle.control.specs.declared.LoopMode.{LoopMode}
use Rattle.control.specs.declared.LoopMode.TheVariants.{Stop, Loop, Once, Turn}

abbrev pub loop_mode_of : ℕ → LoopMode
loop_mode_of w =
    if flag_of ble_bit w then (if flag_of lpe_bit w then Turn else Once)
    else if flag_of lpe_bit w then Loop
    else Stop
