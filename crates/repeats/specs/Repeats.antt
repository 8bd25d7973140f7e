-- Commands of four bytes, of which some repeat others: a kind, a number of two bytes, the high one
-- first, and one byte. In order: how many there are, and what one has at its place; what one stands
-- for; all of them in full. Assumes nothing.
use Rattle.std.specs.Prelude.{ℕ, zero, suc, ◌+◌, ◌*◌, ◌/◌, ◌-◌, Bool, if◌then◌else◌, ◌&&◌, List, []}
use Rattle.std.specs.Prelude.{◌++◌, ◌==◌, nat_le, length, slice_index}
use Rattle.layout.specs.Parts.{part}
use Rattle.layout.specs.Bytes.{big2_at}

abbrev pub command_bytes : ℕ
command_bytes = 4

-- how many whole commands there are
abbrev pub command_count : List ℕ → ℕ
command_count xs = length xs / command_bytes

-- of the command whose bytes begin at i
abbrev pub kind_at : List ℕ → ℕ → ℕ
kind_at xs i = slice_index xs i

abbrev pub number_at : List ℕ → ℕ → ℕ
number_at xs i = big2_at xs (i + 1)

abbrev pub byte_at : List ℕ → ℕ → ℕ
byte_at xs i = slice_index xs (i + 3)

-- ---- repeats

abbrev pub repeat_kind : ℕ
repeat_kind = 7

-- A repeat goes back by as many commands as its number says, and asks for as many as its byte says;
-- here both by their bytes.
abbrev pub back_at : List ℕ → ℕ → ℕ
back_at xs i = command_bytes * number_at xs i

abbrev pub asked_at : List ℕ → ℕ → ℕ
asked_at xs i = command_bytes * byte_at xs i

-- whether the command at i, with n bytes in full before it, repeats others: it asks for no more
-- than it goes back by, and goes back no further than to the first
unfoldable pub repeats_at : List ℕ → ℕ → ℕ → Bool
repeats_at xs i n =
    kind_at xs i == repeat_kind && nat_le (asked_at xs i) (back_at xs i) && nat_le (back_at xs i) n

-- what it stands for after others, which are in full: those that it repeats, or itself
unfoldable pub stands_for : List ℕ → List ℕ → ℕ → List ℕ
stands_for before xs i =
    if repeats_at xs i (length before)
    then part before (length before - back_at xs i) (asked_at xs i)
    else part xs i command_bytes

-- the first k commands in full, and all of them
unfoldable pub full_to : List ℕ → ℕ → List ℕ
full_to xs zero = []
full_to xs (suc k) = full_to xs k ++ stands_for (full_to xs k) xs (command_bytes * k)

abbrev pub in_full : List ℕ → List ℕ
in_full xs = full_to xs (command_count xs)
