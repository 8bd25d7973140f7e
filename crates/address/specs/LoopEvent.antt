-- A loop event as a test, for theorems that ask whether a step has one. That the step goes by it is
-- proofs/LoopEvent. Assumes nothing.
use Rattle.std.specs.Prelude.{ℕ, Bool, if◌then◌else◌, not, ◌&&◌, pos, ◌+ℤ◌, ◌-ℤ◌}
use Rattle.std.specs.Int.Signed.{le_z, lt_z}
use Rattle.control.specs.Control.{flag_of, lei_bit, dir_bit}

-- LEI is 0, and the step takes the address past the loop point that it runs towards: forward past
-- END, in reverse below START
unfoldable pub loop_event : ℕ → ℕ → ℕ → ℕ → ℕ → Bool
loop_event CR FC START END ACCUM =
    not (flag_of lei_bit CR)
    && (if flag_of dir_bit CR then lt_z (pos ACCUM -ℤ pos FC) (pos START)
    else not (le_z (pos ACCUM +ℤ pos FC) (pos END)))
