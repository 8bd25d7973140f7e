-- Numbers written as bytes, the lowest first or the highest.
-- In order: the number that some bytes are; that of two bytes and that of four at a place of a
-- list; a list by twos; the bytes of a number. Assumes nothing.
use Rattle.std.specs.Prelude.{ℕ, zero, suc, ◌+◌, ◌*◌, ◌/◌, ◌%◌, ◌^◌, List, [], ◌∷◌, length}
use Rattle.layout.specs.Parts.{part}

-- the lowest byte first
unfoldable pub little : List ℕ → ℕ
little [] = 0
little (b ∷ bs) = b + 256 * little bs

-- the highest byte first
unfoldable pub big : List ℕ → ℕ
big [] = 0
big (b ∷ bs) = b * 256 ^ length bs + big bs

-- at index i; where the list ends before, of the bytes that are there
abbrev pub little2_at : List ℕ → ℕ → ℕ
little2_at xs i = little (part xs i 2)

abbrev pub little4_at : List ℕ → ℕ → ℕ
little4_at xs i = little (part xs i 4)

abbrev pub big2_at : List ℕ → ℕ → ℕ
big2_at xs i = big (part xs i 2)

-- the numbers of a list's bytes by twos, in the order that is handed over: `twos little`, `twos
-- big`. A last odd byte is left out.
unfoldable pub twos : (List ℕ → ℕ) → List ℕ → List ℕ
twos order [] = []
twos order (a ∷ []) = []
twos order (a ∷ b ∷ bytes) = order (a ∷ b ∷ []) ∷ twos order bytes

-- the n lowest bytes of a number, the lowest first
unfoldable pub little_bytes : ℕ → ℕ → List ℕ
little_bytes zero x = []
little_bytes (suc n) x = x % 256 ∷ little_bytes n (x / 256)
