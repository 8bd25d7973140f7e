-- The loudest sample, of samples as the code has them, in arrays of two bytes. Assumes nothing.
use mathlib.Core.Path.{◌≡◌, refl, sym, ap, ◌∙◌}
use mathlib.Core.List.{List, []}
use Prim.Native.Nat.{ℕ, zero, suc, ◌+◌, ◌*◌, ◌/◌, ◌≤◌, ◌<◌, max}
use native.Mathlib.Numerals.{add-one}
use native.Mathlib.Omega.{arith}
use borrow.Author.Tests.{lt-ltb, le-ltb}
use lib.IntN.{nat_abs}
use lib.ListN.{length, get_or, take}
use lib.Seq.{take-length}
use mir.Val.{Fits}
use mir.Syntax.{w8, w16}
use Rattle.std.specs.Int.{from_le_bytes, cast_signed}
use Rattle.std.specs.List.{fold}
use Rattle.std.specs.Simd.{first_chunks}
use Rattle.std.proofs.lemmas.List.Sums.{fold_more}
use Rattle.numbers.specs.Numbers.{signed}
use Rattle.numbers.proofs.Tests.{cases}
use Rattle.layout.specs.Parts.{part}
use Rattle.layout.specs.Bytes.{little2_at}
use Rattle.layout.proofs.Bytes.{part_2}
use Rattle.layout.proofs.Endian.{little_2_at}
use Rattle.layout.proofs.Parts.{chunk_is}
use Rattle.scores.specs.Sound.{loudest_of}

-- how far a sample is from 0: from the middle on, a word stands for a number below 0
far : (w : ℕ) → w < 65536 → nat_abs (cast_signed w16 w) ≡ nat_abs (signed 16 w)
unfolding signed
far w l = cases w 32768 _ (λ h. rw (lt-ltb w 32768 h) refl) (λ h. rw (le-ltb w 32768 h, lt-ltb w 65536 l) (omega arith))

module _ (sound : List ℕ) (chunks : List (List ℕ)) (front : chunks ≡ first_chunks 2 (length sound / 2) sound) (long : length chunks ≡ length sound / 2)
    (bytes : (i : ℕ) → Fits w8 (get_or sound i 0)) (before : ℕ) where
  louder : ℕ → List ℕ → ℕ
  louder most sample = max most (nat_abs (cast_signed w16 (from_le_bytes w16 sample)))

  sample_is : (k : ℕ) → k < length sound / 2 → from_le_bytes w16 (get_or chunks k []) ≡ little2_at sound (2 * k)
  sample_is k h =
      let own : get_or chunks k [] ≡ part sound (2 * k) 2 = rw front (chunk_is 2 (length sound / 2) sound k h) in
      ap (from_le_bytes w16) own ∙ little_2_at sound (2 * k) (omega arith)

  small : (k : ℕ) → k < length sound / 2 → little2_at sound (2 * k) < 65536
  small k h =
      let e : from_le_bytes w16 (part sound (2 * k) 2) ≡ little2_at sound (2 * k) = little_2_at sound (2 * k) (omega arith) in
      let p = ap (from_le_bytes w16) (part_2 sound (2 * k) (omega arith)) in
      omega (arith, bytes (2 * k), bytes (2 * k + 1), e, p)

  loud_to : (k : ℕ) → k ≤ length sound / 2 → fold louder before (take k chunks) ≡ loudest_of sound k before
  unfolding loudest_of louder
  loud_to zero h = refl
  loud_to (suc k) h =
      let more = rw add-one at (fold_more louder before chunks k [] (omega arith)) in
      let w : nat_abs (cast_signed w16 (from_le_bytes w16 (get_or chunks k []))) ≡ nat_abs (signed 16 (little2_at sound (2 * k))) =
      ap (λ (n : ℕ). nat_abs (cast_signed w16 n)) (sample_is k (omega arith)) ∙ far (little2_at sound (2 * k)) (small k (omega arith)) in
      more ∙ (λ j. max (loud_to k (omega arith) j) (w j))

  pub loudest_is : fold (λ most sample. max most (nat_abs (cast_signed w16 (from_le_bytes w16 sample)))) before chunks ≡ loudest_of sound (length sound / 2) before
  unfolding louder
  loudest_is = ap (fold louder before) (sym (take-length chunks) ∙ ap (λ (n : ℕ). take n chunks) long) ∙ loud_to (length sound / 2) (omega arith)

-- and where the arrays are of a list that is the sound
pub loudest_of_same : (sound xs : List ℕ) (chunks : List (List ℕ)) → chunks ≡ first_chunks 2 (length xs / 2) xs → length chunks ≡ length xs / 2 → xs ≡ sound
    → ((i : ℕ) → Fits w8 (get_or sound i 0)) → (before : ℕ)
    → fold (λ most sample. max most (nat_abs (cast_signed w16 (from_le_bytes w16 sample)))) before chunks ≡ loudest_of sound (length sound / 2) before
loudest_of_same sound xs chunks front long same bytes before =
    loudest_is sound chunks (front ∙ ap (λ (ys : List ℕ). first_chunks 2 (length ys / 2) ys) same) (long ∙ ap (λ (ys : List ℕ). length ys / 2) same) bytes before
