-- A command by its own four bytes, as the code has it, and as it stands in a list of them.
-- In order: the arrays that are commands (`command_is`); what a command says, and what it stands for,
-- by its own bytes (`own_kind`, `own_number`, `own_byte`, `own_asked`, `own_repeats`, `own_stands`); its number of two bytes (`number_is`);
-- its four bytes (`bytes_are`). Assumes nothing.
use mathlib.Core.Path.{◌≡◌, refl, sym, ap, ◌∙◌}
use mathlib.Core.List.{List, [], ◌∷◌}
use Prim.Native.Nat.{ℕ, ◌+◌, ◌*◌, ◌<◌}
use native.Mathlib.Nat.{add-zero}
use native.Mathlib.Omega.{arith}
use lib.ListN.{length, get_or, take, drop}
use lib.Seq.{drop-drop, take_all}
use Rattle.std.specs.Simd.{first_chunks}
use Rattle.std.proofs.lemmas.List.{drop-take, take-take}
use Rattle.layout.specs.Parts.{part}
use Rattle.layout.specs.Bytes.{big, big2_at}
use Rattle.layout.proofs.Parts.{part_at, chunk_is}
use Rattle.layout.proofs.Bytes.{part_2, part_4}
use Rattle.layout.proofs.Endian.{big_2}
use Rattle.repeats.specs.Repeats.{command_bytes, command_count, kind_at, number_at, byte_at, back_at, asked_at, repeats_at, stands_for}

-- the arrays that the code has of a list are its parts
pub command_is : (xs : List ℕ) (chunks : List (List ℕ)) (k : ℕ) → chunks ≡ first_chunks command_bytes (command_count xs) xs → k < command_count xs
    → get_or chunks k [] ≡ part xs (command_bytes * k) command_bytes
command_is xs chunks k e h = rw e (chunk_is command_bytes (command_count xs) xs k h)

module _ (xs : List ℕ) (i : ℕ) where
  pub own_kind : kind_at (part xs i command_bytes) 0 ≡ kind_at xs i
  own_kind = part_at xs i command_bytes 0 0 (omega arith) ∙ rw add-zero refl

  pub own_number : number_at (part xs i command_bytes) 0 ≡ number_at xs i
  own_number =
      ap big (ap (take 2) (drop-take 1 3 (drop i xs)) ∙ take-take 2 3 (drop 1 (drop i xs)) (omega arith) ∙ ap (take 2) (drop-drop 1 i xs))

  pub own_byte : byte_at (part xs i command_bytes) 0 ≡ byte_at xs i
  own_byte = part_at xs i command_bytes 3 0 (omega arith)

  own_back : back_at (part xs i command_bytes) 0 ≡ back_at xs i
  own_back = ap (λ (n : ℕ). command_bytes * n) own_number

  pub own_asked : asked_at (part xs i command_bytes) 0 ≡ asked_at xs i
  own_asked = ap (λ (n : ℕ). command_bytes * n) own_byte

  pub own_repeats : (before : ℕ) → repeats_at (part xs i command_bytes) 0 before ≡ repeats_at xs i before
  unfolding repeats_at
  own_repeats before = rw (own_kind, own_back, own_asked) refl

  pub own_stands : (before : List ℕ) → stands_for before (part xs i command_bytes) 0 ≡ stands_for before xs i
  unfolding stands_for
  own_stands before = rw (own_repeats (length before), own_back, own_asked, take-take command_bytes command_bytes (drop i xs) (omega arith)) refl

-- the number, of its two bytes
pub number_is : (command : List ℕ) → length command ≡ command_bytes → get_or command 1 0 * 256 + get_or command 2 0 ≡ big2_at command 1
number_is command h = big_2 (get_or command 1 0) (get_or command 2 0) ∙ ap big (sym (part_2 command 1 (omega arith)))

-- its four bytes, one by one
pub bytes_are : (command : List ℕ) → length command ≡ command_bytes → get_or command 0 0 ∷ get_or command 1 0 ∷ get_or command 2 0 ∷ get_or command 3 0 ∷ [] ≡ command
bytes_are command h = sym (part_4 command 0 (omega arith)) ∙ take_all command_bytes command (omega arith)
