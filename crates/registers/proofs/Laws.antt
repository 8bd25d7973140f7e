-- What each call answers and leaves, by the way that it ends: the record refused, the number refused, done.
-- In order: the answer, of any call that asks the record and then one number; the promise of each call from its way. Assumes nothing.
use Rattle.std.specs.Prelude.{Result, Ok, Err, IsErr}
use mathlib.Core.Path.{◌≡◌, refl, sym, ap, ◌∙◌}
use mathlib.Core.Bool.{Bool, true, false, false≢true}
use mathlib.Core.List.{List, [], ◌∷◌}
use Prim.Native.Nat.{ℕ, ◌/◌, ◌%◌, ◌<◌, ◌≤◌}
use native.Mathlib.Omega.{arith}
use lib.Dec.{ltb}
use lib.ListN.{length, get_or, set}
use borrow.Author.Tests.{lt-ltb, le-ltb, ltb-false}
use Rattle.numbers.proofs.Tests.{split}
use Rattle.answer.specs.Answer.{answer_of, value_or, Answer, Done, is_done}
use Rattle.answer.specs.declared.Refusal.{Refusal}
use Rattle.answer.specs.declared.Refusal.TheVariants.{RecordLength, RecordInvalid, Address, Pot}
use Rattle.answer.proofs.Refusals.{none_holds, refused_early}
use Rattle.machine.specs.Words.{par_word, read_latch_word, record_words, valid}
use Rattle.machine.specs.Check.{wrong_length, not_valid, checked}
use Rattle.machine.proofs.Valid.{Sound, is_valid}
use Rattle.machine.proofs.Answers.{sound_tests, tests_sound, not_refused}
use Rattle.registers.specs.Registers.{byte_of, written_to, read_from}
use Rattle.registers.specs.Access.{asked, byte_answer, write_record, read_record, read_byte, Writes, Reads, pot_answer, pot_record, SetsPot}

refused : (r : Answer) → IsErr r → is_done r ≡ false
refused (Err e) h = refl
refused (Ok x) h = absurd (false≢true h)

-- ---- the answer

module _ (m : List ℕ) (bound x : ℕ) (far : Refusal) where
  pub asked_bad : (r : Answer) → IsErr r → r ≡ checked m → r ≡ asked m bound x far
  unfolding checked
  asked_bad r h e =
      let tests : List (Bool × Refusal) = (wrong_length m, RecordLength) ∷ (not_valid m, RecordInvalid) ∷ [] in
      e ∙ sym (refused_early tests ((ltb bound x, far) ∷ []) (ap is_done (sym e) ∙ refused r h))

  pub asked_far : checked m ≡ Done → bound < x → Err far ≡ asked m bound x far
  asked_far d k = let t = sound_tests m (not_refused m d) in rw (t.0, t.1, lt-ltb bound x k) refl

  pub asked_done : checked m ≡ Done → x ≤ bound → Done ≡ asked m bound x far
  asked_done d k = let t = sound_tests m (not_refused m d) in rw (t.0, t.1, le-ltb bound x k) refl

  -- the other way round
  pub asked_back : is_done (asked m bound x far) ≡ true → Sound m × (x ≤ bound)
  asked_back h =
      let n = none_holds ((wrong_length m, RecordLength) ∷ (not_valid m, RecordInvalid) ∷ (ltb bound x, far) ∷ []) h in
      (tests_sound m n.1.0, ltb-false bound x n.1.1.0)

-- a byte that is not refused: the record is valid, and the address at most 63
module _ (m : List ℕ) (a : ℕ) where
  pub byte_done : is_done (byte_answer m a) ≡ true → Sound m × (a ≤ 63)
  unfolding byte_answer
  byte_done = asked_back m 63 a Address

  pub byte_valid : asked m 63 a Address ≡ Done → valid m ≡ true
  byte_valid d = is_valid m (asked_back m 63 a Address (ap is_done d)).0

  pub byte_place : asked m 63 a Address ≡ Done → (a / 4 < 16) × (a % 4 < 4)
  byte_place d = let h = (asked_back m 63 a Address (ap is_done d)).1 in (omega (arith, h), omega arith)

  -- an address above 63 is refused, whatever the record is
  pub far_refused : 63 < a → is_done (byte_answer m a) ≡ false
  unfolding byte_answer
  far_refused h = split _ (wrong_length m)
      (λ t. rw t)
      (λ t. split _ (not_valid m) (λ v. rw (t, v)) (λ v. rw (t, v, lt-ltb 63 a h)))

-- ---- each call

module _ (m : List ℕ) (a b : ℕ) where
  pub writes_err : (r : Answer) → IsErr r → r ≡ asked m 63 a Address → Writes m a b r m
  unfolding byte_answer write_record
  writes_err r h e = record { answers = e; leaves = rw (← e, refused r h) }

  pub writes_done : (after : List ℕ) → asked m 63 a Address ≡ Done → after ≡ written_to m (a / 4) (a % 4) b → Writes m a b Done after
  unfolding byte_answer write_record
  writes_done after e l = record { answers = sym e; leaves = rw e l }

module _ (m : List ℕ) (a : ℕ) where
  pub reads_err : (r : Result ℕ Refusal) → IsErr r → answer_of r ≡ asked m 63 a Address → Reads m a (answer_of r) (value_or 0 r) m
  unfolding byte_answer read_record read_byte
  reads_err (Err x) h e = record { answers = e; gives = rw (← e); leaves = rw (← e) }
  reads_err (Ok x) h e = absurd (false≢true h)

  pub reads_done : (byte : ℕ) (after : List ℕ) → asked m 63 a Address ≡ Done → after ≡ read_from m (a / 4) (a % 4)
      → byte ≡ byte_of (a % 4) (get_or after read_latch_word 0) → Reads m a Done byte after
  unfolding byte_answer read_record read_byte
  reads_done byte after e l g = record { answers = sym e; gives = rw (e, ← l) g; leaves = rw e l }

module _ (m : List ℕ) (p : ℕ) where
  pub pot_err : (r : Answer) → IsErr r → r ≡ asked m 1023 p Pot → SetsPot m p r m
  unfolding pot_answer pot_record
  pot_err r h e = record { answers = e; leaves = rw (← e, refused r h) }

  pub pot_done : asked m 1023 p Pot ≡ Done → SetsPot m p Done (set m par_word p)
  unfolding pot_answer pot_record
  pot_done e = record { answers = sym e; leaves = rw e }

  pub pot_long : asked m 1023 p Pot ≡ Done → length m ≡ record_words
  pot_long e = (asked_back m 1023 p Pot (ap is_done e)).0.size
