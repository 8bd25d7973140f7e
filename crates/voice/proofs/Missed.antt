-- How many words a voice misses: at most two; and none where it is stopped, or both of its words are there, and nowhere else.
-- That it does not hang on the interrupt flag is Flag. Assumes nothing.
use mathlib.Core.Path.{◌≡◌, refl}
use mathlib.Core.Bool.{true}
use mathlib.Core.List.{List}
use Prim.Native.Nat.{ℕ, ◌≤◌}
use native.Mathlib.Omega.{arith}
use borrow.Author.Tests.{lt-ltb, ltb-true}
use lib.ListN.{length}
use Rattle.numbers.proofs.Tests.{split}
use Rattle.control.specs.Control.{runs}
use Rattle.sample.specs.Sample.{first_at, second_at, fetched, missing_of}
use Rattle.sample.proofs.Laws.{missing_most, missing_none, missing_both}
use Rattle.voice.specs.Voice.{Voice}
use Rattle.voice.specs.Missed.{missed_by, BothThere}

module _ (memory : List ℕ) (v : Voice) where
  pub missed_most : missed_by memory v ≤ 2
  unfolding missed_by
  missed_most = let m = missing_most (fetched memory v.cr v.accum) in split _ (runs v.cr) (λ t. rw t m) (λ t. rw t (omega (arith, m)))

  pub missed_none : missed_by memory v ≡ 0 → runs v.cr ≡ true → BothThere memory v
  unfolding missed_by fetched
  missed_none e t =
      let n : missing_of (fetched memory v.cr v.accum) ≡ 0 = rw t at e in
      let b = missing_none (fetched memory v.cr v.accum) n in
      record {
        first = ltb-true (first_at v.cr v.accum) (length memory) b.0;
        second = ltb-true (second_at v.cr v.accum) (length memory) b.1;
      }

  pub missed_both : (runs v.cr ≡ true → BothThere memory v) → missed_by memory v ≡ 0
  unfolding missed_by fetched
  missed_both h = split _ (runs v.cr)
      (λ t.
      rw t
      (missing_both (fetched memory v.cr v.accum)
      (lt-ltb (first_at v.cr v.accum) (length memory) (h t).first) (lt-ltb (second_at v.cr v.accum) (length memory) (h t).second)))
      (λ t. rw t refl)
