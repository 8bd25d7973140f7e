-- The frame call by its answer. In order: what a frame asks for, `Ready`; each refusal, and done, and back; the promise of a frame that is
-- refused, of one with too few voices, and of one that is done; tightness. Assumes nothing.
use Rattle.std.specs.Prelude.{Result, Err}
use mathlib.Core.Path.{◌≡◌, refl, sym, ap, subst, ◌∙◌}
use mathlib.Core.Bool.{Bool, true, false, not}
use mathlib.Core.List.{List, [], ◌∷◌}
use Prim.Native.Nat.{ℕ, ◌<◌, ◌≤◌}
use borrow.Author.Tests.{eq-eqb, ne_eqb, lt-ltb, le-ltb, eqb-true, ltb-false, not-false}
use lib.Dec.{eqb, ltb}
use lib.IntN.{ℤ}
use lib.ListN.{length, get_or}
use Rattle.answer.specs.Answer.{Answer, Done, is_done, answer_of, value_or}
use Rattle.answer.specs.declared.Refusal.{Refusal}
use Rattle.answer.specs.declared.Refusal.TheVariants.{RecordLength, RecordInvalid, TooFewVoices, MemoryLength, OutputLength}
use Rattle.answer.proofs.Refusals.{none_holds, refused_early}
use Rattle.machine.specs.Words.{actv_word, output_values, valid}
use Rattle.machine.specs.Check.{wrong_length, not_valid, checked}
use Rattle.machine.proofs.Valid.{Sound}
use Rattle.machine.proofs.Answers.{sound_tests, tests_sound, not_refused}
use Rattle.sample.specs.Sample.{most_memory_words}
use Rattle.frame.specs.Missing.{missed_in}
use Rattle.frame.specs.Frame.{least_actv, played, closed, heard, too_few, frame_answer, frame_record, frame_output, frame_missing, Frames}

-- all that a frame asks of what it is lent
pub record Ready (m memory : List ℕ) (out : List ℤ) : Type 0 where
  pub machine : Sound m
  pub voices : too_few m ≡ false
  pub samples : length memory ≤ most_memory_words
  pub values : length out ≡ output_values

module _ (m memory : List ℕ) (out : List ℤ) where
  pub refused_voices : Sound m → too_few m ≡ true → frame_answer m memory out ≡ Err TooFewVoices
  unfolding frame_answer
  refused_voices s k = let t = sound_tests m s in rw (t.0, t.1, k)

  module _ (s : Sound m) (v : too_few m ≡ false) where
    pub refused_memory : most_memory_words < length memory → frame_answer m memory out ≡ Err MemoryLength
    unfolding frame_answer
    refused_memory k = let t = sound_tests m s in rw (t.0, t.1, v, lt-ltb most_memory_words (length memory) k)

    pub refused_output : length memory ≤ most_memory_words → (length out ≡ output_values → ⊥) → frame_answer m memory out ≡ Err OutputLength
    unfolding frame_answer
    refused_output k l =
        let t = sound_tests m s in
        rw (t.0, t.1, v, le-ltb most_memory_words (length memory) k, ne_eqb (length out) output_values l)

  pub not_refused_frame : Ready m memory out → frame_answer m memory out ≡ Done
  unfolding frame_answer
  not_refused_frame r =
      let t = sound_tests m r.machine in
      rw (t.0, t.1, r.voices, le-ltb most_memory_words (length memory) r.samples, eq-eqb (length out) output_values r.values)

  -- the same by the tests that the code makes of a record that is not refused
  pub told_voices : checked m ≡ Done → get_or m actv_word 0 < least_actv → frame_answer m memory out ≡ Err TooFewVoices
  told_voices d k = refused_voices (not_refused m d) (lt-ltb (get_or m actv_word 0) least_actv k)

  module _ (d : checked m ≡ Done) (v : least_actv ≤ get_or m actv_word 0) where
    pub told_memory : most_memory_words < length memory → frame_answer m memory out ≡ Err MemoryLength
    told_memory k = refused_memory (not_refused m d) (le-ltb (get_or m actv_word 0) least_actv v) k

    pub told_output : length memory ≤ most_memory_words → (length out ≡ output_values → ⊥) → frame_answer m memory out ≡ Err OutputLength
    told_output k l = refused_output (not_refused m d) (le-ltb (get_or m actv_word 0) least_actv v) k l

    pub told_ready : length memory ≤ most_memory_words → length out ≡ output_values → frame_answer m memory out ≡ Done
    told_ready k l = not_refused_frame (record { machine = not_refused m d; voices = le-ltb (get_or m actv_word 0) least_actv v; samples = k; values = l })

  -- the tests of the voices, the memory and the output, which come after those of the record
  abbrev later : List (Bool × Refusal)
  later = (too_few m, TooFewVoices) ∷ (ltb most_memory_words (length memory), MemoryLength) ∷ (not (eqb (length out) output_values), OutputLength) ∷ []

  pub refused_record : is_done (checked m) ≡ false → frame_answer m memory out ≡ checked m
  unfolding frame_answer checked
  refused_record h = refused_early ((wrong_length m, RecordLength) ∷ (not_valid m, RecordInvalid) ∷ []) later h

  pub told_record : (e : Refusal) → checked m ≡ Err e → frame_answer m memory out ≡ Err e
  told_record e h = refused_record (ap is_done h) ∙ h

  -- and back: the frame is done, so no test held
  pub done_frame : frame_answer m memory out ≡ Done → Ready m memory out
  unfolding frame_answer
  done_frame e =
      let n = (none_holds ((wrong_length m, RecordLength) ∷ (not_valid m, RecordInvalid) ∷ later) (ap is_done e)).1 in
      record {
        machine = tests_sound m n.0;
        voices = n.1.0;
        samples = ltb-false most_memory_words (length memory) n.1.1.0;
        values = eqb-true (length out) output_values (not-false (eqb (length out) output_values) n.1.1.1.0);
      }

  pub frames_refused : (a : Answer) → a ≡ frame_answer m memory out → is_done a ≡ false → Frames m memory out a 0 m out
  unfolding frame_record frame_output frame_missing
  frames_refused a e h = let d : is_done (frame_answer m memory out) ≡ false = sym (ap is_done e) ∙ h in record { answers = e; misses = rw d; leaves = rw d; sounds = rw d }

  pub frames_err : (r : Result ℕ Refusal) (e : Refusal) → r ≡ Err e → Err e ≡ frame_answer m memory out → Frames m memory out (answer_of r) (value_or 0 r) m out
  frames_err r e p q = subst (λ (x : Result ℕ Refusal). Frames m memory out (answer_of x) (value_or 0 x) m out) (sym p) (frames_refused (Err e) q refl)

  -- a valid record of too few voices: 7, no word missing, and nothing changes, whatever memory and output are lent with it
  pub frames_few : valid m ≡ true → too_few m ≡ true → Frames m memory out (Err TooFewVoices) 0 m out
  frames_few v k = frames_refused (Err TooFewVoices) (sym (refused_voices (tests_sound m (ap not v)) k)) refl

  pub frames_done : (missing : ℕ) (after : List ℕ) (sound : List ℤ) → frame_answer m memory out ≡ Done
      → missing ≡ missed_in memory m → after ≡ closed (played memory m) → sound ≡ heard (played memory m) → Frames m memory out Done missing after sound
  unfolding frame_record frame_output frame_missing
  frames_done missing after sound e k p q = record { answers = sym e; misses = rw e k; leaves = rw e p; sounds = rw e q }

-- two outcomes that the promise allows are equal
pub one_frame : {m memory : List ℕ} {out : List ℤ} {a b : Answer} {i j : ℕ} {x y : List ℕ} {s t : List ℤ} → Frames m memory out a i x s → Frames m memory out b j y t
    → (a ≡ b) × ((i ≡ j) × ((x ≡ y) × (s ≡ t)))
one_frame p q = (p.answers ∙ sym q.answers, (p.misses ∙ sym q.misses, (p.leaves ∙ sym q.leaves, p.sounds ∙ sym q.sounds)))
