-- std's numbers of bytes are this crate's: its `from_le_bytes`, `from_be_bytes` and `to_le_bytes`, of two bytes and of four, of bytes that are
-- given one by one and of those at a place of a list. Assumes nothing.
use mathlib.Core.Path.{◌≡◌, refl}
use mathlib.Core.List.{List, [], ◌∷◌}
use Prim.Native.Nat.{ℕ, ◌+◌, ◌/◌, ◌≤◌}
use native.Mathlib.Omega.{arith}
use lib.ListN.{length}
use Rattle.std.specs.Int.{w16, w32, from_le_bytes, from_be_bytes, to_le_bytes}
use Rattle.layout.specs.Parts.{part}
use Rattle.layout.specs.Bytes.{little, big, little2_at, little4_at, big2_at, little_bytes}
use Rattle.layout.proofs.Bytes.{part_2, part_4}

-- ---- bytes that are given one by one

pub little_2 : (a b : ℕ) → from_le_bytes w16 (a ∷ b ∷ []) ≡ little (a ∷ b ∷ [])
unfolding little
little_2 a b = omega arith

pub little_4 : (a b c d : ℕ) → from_le_bytes w32 (a ∷ b ∷ c ∷ d ∷ []) ≡ little (a ∷ b ∷ c ∷ d ∷ [])
unfolding little
little_4 a b c d = omega arith

pub big_2 : (a b : ℕ) → from_be_bytes w16 (a ∷ b ∷ []) ≡ big (a ∷ b ∷ [])
unfolding big
big_2 a b = omega arith

-- ---- at a place of a list

pub little_2_at : (xs : List ℕ) (i : ℕ) → i + 2 ≤ length xs → from_le_bytes w16 (part xs i 2) ≡ little2_at xs i
unfolding little big
little_2_at xs i h = rw (part_2 xs i h) (omega arith)

pub little_4_at : (xs : List ℕ) (i : ℕ) → i + 4 ≤ length xs → from_le_bytes w32 (part xs i 4) ≡ little4_at xs i
unfolding little
little_4_at xs i h = rw (part_4 xs i h) (omega arith)

pub big_2_at : (xs : List ℕ) (i : ℕ) → i + 2 ≤ length xs → from_be_bytes w16 (part xs i 2) ≡ big2_at xs i
unfolding little big
big_2_at xs i h = rw (part_2 xs i h) (omega arith)

-- ---- the bytes of a number

pub little_bytes_2 : (x : ℕ) → to_le_bytes w16 x ≡ little_bytes 2 x
unfolding little_bytes
little_bytes_2 x = refl

pub little_bytes_4 : (x : ℕ) → to_le_bytes w32 x ≡ little_bytes 4 x
unfolding little_bytes
little_bytes_4 x =
    let third : x / 65536 ≡ x / 256 / 256 = omega arith in
    let fourth : x / 16777216 ≡ x / 256 / 256 / 256 = omega arith in
    rw (third, fourth) refl
