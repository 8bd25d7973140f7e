-- The code chart: the bytes of the text that the chart program writes for the bytes of its input,
-- in ASCII. In order: a number in decimal; the line of a sample; the lines of an input; the chart;
-- what a call that is lent an output answers and leaves there; and what the steps on the way
-- promise each other. Assumes nothing.
use Rattle.std.specs.Prelude.{ℕ, zero, suc, ◌+◌, ◌*◌, ◌/◌, ◌%◌, ◌≡◌, if◌then◌else◌, List, [], ◌∷◌}
use Rattle.std.specs.Prelude.{◌++◌, nat_lt, ℤ, pos, negsuc, length, drop, Option, None, Some}
use Rattle.std.proofs.lemmas.List.Edits.{sets}
use Rattle.numbers.specs.Numbers.{signed}
use Rattle.codes.specs.Codes.{value_of, code_of}

-- n in decimal with no zeros in front, in at most k digits: the digits of n / 10, where that is not
-- 0, and then the last
unfoldable pub decimal_in : ℕ → ℕ → List ℕ
decimal_in zero n = []
decimal_in (suc k) n =
    if nat_lt n 10 then (48 + n) ∷ [] else decimal_in k (n / 10) ++ (48 + n % 10) ∷ []

-- n in decimal: five digits hold every number of a chart
abbrev pub decimal : ℕ → List ℕ
decimal n = decimal_in 5 n

-- a number, with "-" (45) before the digits of one below zero
abbrev pub number : ℤ → List ℕ
number (pos n) = decimal n
number (negsuc n) = 45 ∷ decimal (suc n)

-- the line of a sample: the sample, its code and the code's value, with a space (32) between and a
-- line end (10)
unfoldable pub line : ℤ → List ℕ
line s =
    number s ++ (32 ∷ number (pos (code_of s))) ++ (32 ∷ number (value_of (code_of s))) ++ (10 ∷ [])

-- "odd byte" and "too long", each with its line end
abbrev pub odd_byte : List ℕ
odd_byte = 111 ∷ 100 ∷ 100 ∷ 32 ∷ 98 ∷ 121 ∷ 116 ∷ 101 ∷ 10 ∷ []

abbrev pub too_long : List ℕ
too_long = 116 ∷ 111 ∷ 111 ∷ 32 ∷ 108 ∷ 111 ∷ 110 ∷ 103 ∷ 10 ∷ []

-- a line for each pair of bytes, the high byte first, and one for a last odd byte
unfoldable pub lines : List ℕ → List ℕ
lines [] = []
lines (a ∷ []) = odd_byte
lines (a ∷ b ∷ rest) = line (signed 16 (256 * a + b)) ++ lines rest

-- the chart of an input of at most 65,536 bytes; a longer one gives no line but "too long"
unfoldable pub chart_of : List ℕ → List ℕ
chart_of input = if nat_lt 65536 (length input) then too_long else lines input

-- ---- a call that is lent an output

-- The output must have nine bytes for each byte of input, which hold any chart: the longest line of
-- a pair has 18, and that of an odd byte 9. Otherwise the call answers none, and leaves the output
-- as it was.
unfoldable pub chart_answer : List ℕ → List ℕ → Option ℕ
chart_answer input out =
    if nat_lt (length out) (9 * length input) then None else Some (length (chart_of input))

-- the output afterwards: the chart, and past it what stood there
unfoldable pub chart_output : List ℕ → List ℕ → List ℕ
chart_output input out =
    if nat_lt (length out) (9 * length input) then out
    else chart_of input ++ drop (length (chart_of input)) out

-- out' is out with the text stored from `at` on, and r the place after it
pub record Stored (out : List ℕ) (at : ℕ) (text : List ℕ) (out' : List ℕ) (r : ℕ) : Type 0 where
  pub after : r ≡ at + length text
  pub stored : out' ≡ sets out at text
