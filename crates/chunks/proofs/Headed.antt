-- What each answer of `chunks::open` tells of the file, and where the chunks of one with a header end. Assumes nothing.
use mathlib.Core.Path.{◌≡◌}
use mathlib.Core.Bool.{true, false, and-eq-true_iff, ◌&&◌}
use mathlib.Core.List.{List}
use Prim.Native.Nat.{ℕ, ◌≤◌}
use native.Mathlib.Omega.{arith}
use borrow.Author.Tests.{leb-true}
use lib.Dec.{leb, eqb}
use lib.ListN.{length}
use Rattle.std.specs.Prelude.{Option, Some, None}
use Rattle.layout.specs.Bytes.{little4_at}
use Rattle.chunks.specs.Chunks.{riff_name, wave_name, most_file_bytes, first_chunk, riff_length, riff_end, is_headed}
use Rattle.chunks.specs.Walk.{opened_of}
use Rattle.chunks.proofs.Told.{none_where, some_where}

module _ (file : List ℕ) (r : Option ℕ) (read : r ≡ opened_of file) where
  pub was_unheaded : r ≡ None → is_headed file ≡ false
  unfolding opened_of
  was_unheaded e = none_where (is_headed file) (riff_end file) r read e

  pub was_upto : (end : ℕ) → r ≡ Some end → (is_headed file ≡ true) × (end ≡ riff_end file)
  unfolding opened_of
  was_upto end e = some_where (is_headed file) (riff_end file) end r read e

-- the chunks end within the file, which is not too long
pub headed_within : (file : List ℕ) → is_headed file ≡ true → (first_chunk ≤ riff_end file) × (riff_end file ≤ length file) × (length file ≤ most_file_bytes)
unfolding is_headed
headed_within file h =
    let e = leb (riff_end file) (length file) in
    let w = leb 4 (riff_length file) in
    let v = eqb (little4_at file 8) wave_name in
    let u = eqb (little4_at file 0) riff_name in
    let a = (and-eq-true_iff (leb (length file) most_file_bytes) (u && (v && (w && e)))).0 h in
    let d = (and-eq-true_iff w e).0 ((and-eq-true_iff v (w && e)).0 ((and-eq-true_iff u (v && (w && e))).0 a.1).1).1 in
    let k = leb-true 4 (riff_length file) d.0 in
    (omega arith, leb-true (riff_end file) (length file) d.1, leb-true (length file) most_file_bytes a.0)
