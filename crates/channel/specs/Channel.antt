-- The sum of a channel, a word of 23 bits in two's complement: how it adds up, and what it puts
-- out. Assumes nothing.
use Rattle.std.specs.Prelude.{ℕ, ℤ, pos, ◌+ℤ◌}
use Rattle.numbers.specs.Numbers.{signed, word, held, minus}

-- the sum of two words, which wraps at 23 bits
unfoldable pub mixed : ℕ → ℕ → ℕ
mixed a b = word 23 (signed 23 a +ℤ signed 23 b)

-- what a sum puts out: held to 20 bits
unfoldable pub put_out : ℕ → ℤ
put_out a = held (minus 524288) (pos 524287) (signed 23 a)
