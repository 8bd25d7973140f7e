-- Ramps: a volume or a filter coefficient moved by its ramp register. Assumes nothing.
use Rattle.std.specs.Prelude.{ℕ, ◌/◌, ◌%◌, if◌then◌else◌, not, ◌&&◌, ◌==◌, ℤ, pos, ◌+ℤ◌}
use Rattle.numbers.specs.Numbers.{signed, word, held}

-- the increment: bits 15 to 8 of the ramp register, signed
unfoldable pub increment : ℕ → ℤ
increment RAMP = signed 8 (RAMP / 256 % 256)

-- the value moved by its increment, held to 16 bits
unfoldable pub ramped : ℕ → ℕ → ℕ
ramped value RAMP = word 16 (held (pos 0) (pos 65535) (pos value +ℤ increment RAMP))

-- a coefficient whose ramp has bit 0 set is slow: it moves only when the slow-ramp counter is 0
unfoldable pub slow_ramped : ℕ → ℕ → ℕ → ℕ
slow_ramped slow value RAMP = if RAMP % 2 == 1 && not (slow == 0) then value else ramped value RAMP
