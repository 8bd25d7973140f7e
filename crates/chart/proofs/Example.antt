-- Charts by computation: three samples, one byte alone, and no input. Assumes nothing.
use mathlib.Core.Path.{◌≡◌, refl}
use mathlib.Core.List.{List, [], ◌∷◌, ◌++◌}
use Prim.Native.Nat.{ℕ}
use Rattle.numbers.specs.Numbers.{signed}
use Rattle.codes.specs.Codes.{value_of, best_below, code_of}
use Rattle.chart.specs.Chart.{decimal_in, line, lines, chart_of, odd_byte}

-- "32767 255 31744"
abbrev loudest : List ℕ
loudest = 51 ∷ 50 ∷ 55 ∷ 54 ∷ 55 ∷ 32 ∷ 50 ∷ 53 ∷ 53 ∷ 32 ∷ 51 ∷ 49 ∷ 55 ∷ 52 ∷ 52 ∷ 10 ∷ []

-- "0 0 0"
abbrev silence : List ℕ
silence = 48 ∷ 32 ∷ 48 ∷ 32 ∷ 48 ∷ 10 ∷ []

-- "-32768 224 -32768"
abbrev lowest : List ℕ
lowest = 45 ∷ 51 ∷ 50 ∷ 55 ∷ 54 ∷ 56 ∷ 32 ∷ 50 ∷ 50 ∷ 52 ∷ 32 ∷ 45 ∷ 51 ∷ 50 ∷ 55 ∷ 54 ∷ 56 ∷ 10 ∷ []

-- 7F FF 00 00 80 00
pub three_samples : chart_of (127 ∷ 255 ∷ 0 ∷ 0 ∷ 128 ∷ 0 ∷ []) ≡ loudest ++ silence ++ lowest
unfolding chart_of lines line decimal_in signed code_of best_below value_of
three_samples = refl

pub one_byte : (b : ℕ) → chart_of (b ∷ []) ≡ odd_byte
unfolding chart_of lines
one_byte b = refl

pub nothing : chart_of [] ≡ []
unfolding chart_of lines
nothing = refl
