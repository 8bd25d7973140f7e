-- What is known of a score that is good, and its commands as a part that is lent.
-- In order: the commands as the code lends them (`part_is`); what a good score keeps (`good_score`). Assumes
-- nothing.
use mathlib.Core.Path.{◌≡◌, refl, sym}
use mathlib.Core.Logic.{◌≢◌}
use mathlib.Core.Bool.{Bool, true, false, cond, not}
use mathlib.Core.List.{List}
use Prim.Native.Nat.{ℕ, ◌-◌, ◌%◌, ◌≤◌, ◌<◌}
use native.Mathlib.Omega.{arith}
use borrow.Author.Tests.{ltb-false, lt-ltb, le-ltb, ne_eqb, eq-eqb}
use lib.Dec.{ltb, eqb}
use lib.ListN.{length, take, drop, length-drop}
use lib.Seq.{take_all}
use Rattle.layout.specs.Parts.{with_part}
use Rattle.layout.proofs.Parts.{with_first}
use Rattle.repeats.specs.Repeats.{command_bytes, repeat_kind, in_full}
use Rattle.scores.specs.Score.{most_bytes, memory_bytes, most_full_bytes, most_frames, kind_count, commands_of, score_frames, all_below, Verdict, Good, commands_verdict, verdict_of}
use Rattle.scores.specs.declared.ScoreError.{ScoreError}
use Rattle.scores.specs.declared.ScoreError.TheVariants.{TooLong, NoMemory, Cut, TooManyCommands}
use Rattle.std.specs.Prelude.{Err}

pub part_is : (score : List ℕ) → take (length score - memory_bytes) (drop memory_bytes score) ≡ drop memory_bytes score
part_is score = take_all (length score - memory_bytes) (drop memory_bytes score) (rw length-drop (omega arith))

-- a test that would have spoken against it did not hold
passed : (b : Bool) (e : ScoreError) (y : Verdict) → cond b (Err e) y ≡ Good → (b ≡ false) × (y ≡ Good)
passed true e y h = absurd (cc)
passed false e y h = (refl, h)

pub good_score : (score : List ℕ) → verdict_of score ≡ Good
    → (length score ≤ most_bytes) × (memory_bytes ≤ length score) × (length (commands_of score) ≤ most_full_bytes) × (score_frames score ≤ most_frames)
unfolding verdict_of commands_verdict
good_score score e =
    let full = commands_of score in
    let a = passed (ltb most_bytes (length score)) _ _ e in
    let b = passed (ltb (length score) memory_bytes) _ _ a.1 in
    let c = passed (not (eqb ((length score - memory_bytes) % command_bytes) 0)) _ _ b.1 in
    let d = passed (ltb most_full_bytes (length full)) _ _ c.1 in
    let f = passed (not (all_below kind_count full)) _ _ d.1 in
    let g = passed (not (all_below repeat_kind full)) _ _ f.1 in
    let h = passed (ltb most_frames (score_frames score)) _ _ g.1 in (
      ltb-false most_bytes (length score) a.0,
      ltb-false (length score) memory_bytes b.0,
      ltb-false most_full_bytes (length full) d.0,
      ltb-false most_frames (score_frames score) h.0,
    )

-- ---- the verdict, by what the code found

module _ (score : List ℕ) where
  pub too_long : most_bytes < length score → verdict_of score ≡ Err TooLong
  unfolding verdict_of
  too_long a = rw (lt-ltb most_bytes (length score) a) refl

  pub no_memory : length score ≤ most_bytes → length score < memory_bytes → verdict_of score ≡ Err NoMemory
  unfolding verdict_of
  no_memory a b = rw (le-ltb most_bytes (length score) a, lt-ltb (length score) memory_bytes b) refl

  pub cut : length score ≤ most_bytes → memory_bytes ≤ length score → (length score - memory_bytes) % command_bytes ≢ 0 → verdict_of score ≡ Err Cut
  unfolding verdict_of
  cut a b c = rw (le-ltb most_bytes (length score) a, le-ltb (length score) memory_bytes b, ne_eqb ((length score - memory_bytes) % command_bytes) 0 c) refl

  -- the commands, as the code lends them
  abbrev lent : List ℕ
  lent = take (length score - memory_bytes) (drop memory_bytes score)

  module _ (a : length score ≤ most_bytes) (b : memory_bytes ≤ length score) (c : (length score - memory_bytes) % command_bytes ≡ 0) where
    pub too_many : most_full_bytes < length (in_full lent) → verdict_of score ≡ Err TooManyCommands
    unfolding verdict_of
    too_many d =
        let e = rw (part_is score) at d in
        rw (
          le-ltb most_bytes (length score) a,
          le-ltb (length score) memory_bytes b,
          eq-eqb ((length score - memory_bytes) % command_bytes) 0 c,
          lt-ltb most_full_bytes (length (commands_of score)) e,
        ) refl

    by_commands : length (commands_of score) ≤ most_full_bytes → verdict_of score ≡ commands_verdict (commands_of score)
    unfolding verdict_of
    by_commands d =
        rw (
          le-ltb most_bytes (length score) a,
          le-ltb (length score) memory_bytes b,
          eq-eqb ((length score - memory_bytes) % command_bytes) 0 c,
          le-ltb most_full_bytes (length (commands_of score)) d,
        ) refl

    -- of the commands that were put in full
    pub judged : (full later : List ℕ) (n : ℕ) → length (in_full lent) ≤ most_full_bytes → n ≡ length (in_full lent) → later ≡ with_part full 0 (in_full lent)
        → commands_verdict (take n later) ≡ verdict_of score
    judged full later n d e f =
        let few : length (commands_of score) ≤ most_full_bytes = rw (part_is score) at d in
        rw (e, f, with_first full (in_full lent), part_is score) (sym (by_commands few))

  pub put : (full later : List ℕ) → later ≡ with_part full 0 (in_full lent) → later ≡ with_part full 0 (commands_of score)
  put full later f = rw f (rw (part_is score) refl)
