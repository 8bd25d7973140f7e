-- The volume of a voice, on one side. Assumes nothing.
use Rattle.std.specs.Prelude.{ℕ, ◌+◌, ◌-◌, ◌/◌, ◌%◌, ◌^◌, ℤ, pos, ◌*ℤ◌}
use Rattle.numbers.specs.Numbers.{floor_div}

-- A volume register has a mantissa M, bits 11 to 4, and an exponent E, bits 15 to 12.
unfoldable pub mantissa : ℕ → ℕ
mantissa VOL = VOL / 16 % 256

unfoldable pub exponent : ℕ → ℕ
exponent VOL = VOL / 4096

-- o at that volume: o * (256 + M) / 32, and that divided by 2 ^ (15 - E)
unfoldable pub volume_of : ℕ → ℤ → ℤ
volume_of VOL o = floor_div (floor_div (o *ℤ pos (256 + mantissa VOL)) 32) (2 ^ (15 - exponent VOL))

-- pole 4's output at that volume: o is its upper 16 of 18 bits
unfoldable pub panned : ℕ → ℤ → ℤ
panned VOL o4 = volume_of VOL (floor_div o4 4)
