-- The four poles that a voice's samples pass, on whole numbers: the two kinds of pole, which kind
-- the control register makes of poles 3 and 4, and the four outputs. Assumes nothing.
use Rattle.std.specs.Prelude.{ℕ, ◌+◌, ◌/◌, if◌then◌else◌, ℤ, pos, ◌+ℤ◌, ◌-ℤ◌, ◌*ℤ◌}
use Rattle.numbers.specs.Numbers.{floor_div, held, minus}
use Rattle.control.specs.Control.{flag_of, lp3_bit, lp4_bit}
use Rattle.filter.specs.declared.Poles.{Poles}

-- low pass, of the input x and the pole's last output y: Y = y + k * (x - y) / 4096
unfoldable pub low_pass : ℕ → ℤ → ℤ → ℤ
low_pass k x y = y +ℤ floor_div (pos k *ℤ (x -ℤ y)) 4096

-- high pass, of the input x, the last input x' and the last output y: Y = x - x' + (4096 + k) * y /
-- 8192, held to 18 bits. 4096 is the offset, one half of 8192.
unfoldable pub high_pass : ℕ → ℤ → ℤ → ℤ → ℤ
high_pass k x x' y =
    held (minus 131072) (pos 131071) (x -ℤ x' +ℤ floor_div (pos (4096 + k) *ℤ y) 8192)

-- the coefficient of a K register
unfoldable pub coefficient : ℕ → ℕ
coefficient K = K / 16

-- Pole 3 and pole 4 by LP4 and LP3, k₁ and k₂ the coefficients of K1 and K2:
--   LP4 LP3   pole 3     pole 4
--    0   0    high, K2   high, K2
--    0   1    low, K1    high, K2
--    1   0    low, K2    low, K2
--    1   1    low, K1    low, K2
unfoldable pub pole3 : ℕ → ℕ → ℕ → ℤ → ℤ → ℤ → ℤ
pole3 cr k₁ k₂ x x' y =
    if flag_of lp4_bit cr then (if flag_of lp3_bit cr then low_pass k₁ x y else low_pass k₂ x y)
    else if flag_of lp3_bit cr then low_pass k₁ x y
    else high_pass k₂ x x' y

unfoldable pub pole4 : ℕ → ℕ → ℤ → ℤ → ℤ → ℤ
pole4 cr k₂ x x' y = if flag_of lp4_bit cr then low_pass k₂ x y else high_pass k₂ x x' y

-- The four new outputs, of the sample x and the last outputs p. Each pole's input is the new output
-- of the pole before it; the last input of poles 3 and 4 is the last output of the pole before.
unfoldable pub filtered : ℕ → ℕ → ℕ → ℤ → Poles → Poles
filtered cr K₁ K₂ x p =
    let k₁ = coefficient K₁ in
    let k₂ = coefficient K₂ in
    let y₁ = low_pass k₁ x p.o1 in
    let y₂ = low_pass k₁ y₁ p.o2 in
    let y₃ = pole3 cr k₁ k₂ y₂ p.o2 p.o3 in
    record { o1 = y₁; o2 = y₂; o3 = y₃; o4 = pole4 cr k₂ y₃ p.o3 p.o4 }
