-- The theorem's hypotheses can be met, by machines and traces that differ: two machines that were reset, one with a note in voice 3 and one with
-- it in voice 5, with another page, another vector, another interrupt flag and another mask, and two hosts that write its volume, one of them with a frame
-- between the bytes.
-- In order: the machines; voices 3 and 5 exchanged; the machines match; two traces; the theorem at them. Assumes nothing.
use mathlib.Core.Path.{◌≡◌, refl, sym, ap, ◌∙◌}
use mathlib.Core.Logic.{◌≢◌}
use mathlib.Core.Bool.{true, false, cond}
use mathlib.Core.List.{List, [], ◌∷◌, ◌++◌}
use Prim.Native.Nat.{ℕ, zero, suc, ◌+◌, ◌*◌, ◌%◌, ◌≤◌, ◌<◌}
use native.Mathlib.Decide.{ℕ_discrete}
use native.Mathlib.Omega.{arith}
use lib.Dec.{eqb, lit<}
use lib.IntN.{ℤ}
use lib.ListN.{length, get_or, set, length-set}
use lib.Seq.{get_or-set_other}
use borrow.Author.Tests.{ne_eqb, lt-ltb}
use Rattle.numbers.specs.Sum.{sum}
use Rattle.control.specs.Control.{bit_of, with_bit, irq_bit}
use Rattle.control.proofs.Agree.{put_apart}
use Rattle.machine.specs.Words.{page_word, irqv_word, actv_word, slow_word, sums_word, shared_bits, bits_of, cut, cut_to, is_vector, has_true_mask, waiting_voices, with_mask, valid, wait_mask_word, record_words}
use Rattle.machine.specs.Voices.{voice_at, put_voice}
use Rattle.machine.specs.Reset.{reset_word, words_from, fresh}
use Rattle.machine.proofs.Parts.{voice_same, voice_set_shared, put_length, put_same, put_other, put_out_lem}
use Rattle.machine.proofs.Fresh.{fresh-length, fresh_at}
use Rattle.machine.proofs.Mask.{masked_word, masked_voice}
use Rattle.machine.proofs.Valid.{Sound, sound}
use Rattle.registers.specs.Registers.{register_of, low_page}
use Rattle.registers.proofs.Laws.{far_refused}
use Rattle.frame.specs.Frame.{too_few}
use Rattle.calls.specs.Calls.{Call, Write, Read, SetPot, Waiting, Frame, answer_to, run, outputs}
use Rattle.renumber.specs.Demand.{Renumbering, SameVoice, Match, Put, of_voice, idle, begun, Between, nothing, reading, potting, asking, refused, paging, first, next, last}
use Rattle.renumber.specs.Demand.{Log, End, Then, Trace, stop, SameWrites}
use Rattle.renumber.specs.Score.{writes, Fits}
use Rattle.renumber.proofs.Same.{same_equal}
use Rattle.renumber.proofs.Stretch.{In, stretch, between}
use Rattle.renumber.proofs.Theorem.{inaudible}
use Rattle.renumber.proofs.Corollaries.{one_after_other, one_write, one_frame_more}

-- ---- the machines

-- a voice that runs at full volume, through low passes alone
unfoldable pub note : ℕ → List ℕ
note CR = CR ∷ 0 ∷ 65520 ∷ 0 ∷ 65520 ∷ 0 ∷ 0 ∷ 65520 ∷ 0 ∷ 65520 ∷ 0 ∷ 0 ∷ 4294967168 ∷ 0 ∷ 0 ∷ 0 ∷ 0 ∷ 0 ∷ 0 ∷ 0 ∷ []

unfoldable pub machine : ℕ → ℕ → ℕ → ℕ → List ℕ
machine v CR page vector = with_mask (set (set (put_voice fresh v (note CR)) page_word page) irqv_word vector)

-- the note is in voice 3, whose interrupt flag is set, in the mask too, and which the vector names; or in voice 5, with no flag and another page
unfoldable pub one : List ℕ
one = machine 3 896 3 3

unfoldable pub other : List ℕ
other = machine 5 768 90 128

one_valid : valid one ≡ true
unfolding one machine note put_voice fresh words_from reset_word valid cut_to cut bits_of shared_bits is_vector has_true_mask waiting_voices with_mask sum bit_of
one_valid = refl

other_valid : valid other ≡ true
unfolding other machine note put_voice fresh words_from reset_word valid cut_to cut bits_of shared_bits is_vector has_true_mask waiting_voices with_mask sum bit_of
other_valid = refl

-- at least five voices are active: a reset leaves all of them so
one_active : too_few one ≡ false
unfolding one machine note put_voice fresh words_from reset_word with_mask
one_active = refl

other_active : too_few other ≡ false
unfolding other machine note put_voice fresh words_from reset_word with_mask
other_active = refl

-- ---- voices 3 and 5 exchanged

unfoldable pub exchanged : ℕ → ℕ
exchanged v = cond (eqb v 3) 5 (cond (eqb v 5) 3 v)

exchanged_cases : (v : ℕ) (P : ℕ → ℕ → Type 0) → P 3 5 → P 5 3 → (v ≢ 3 → v ≢ 5 → P v v) → P v (exchanged v)
unfolding exchanged
exchanged_cases v P a b c = at (ℕ_discrete v 3) (ℕ_discrete v 5)
  where
    at : Dec (v ≡ 3) → Dec (v ≡ 5) → P v (cond (eqb v 3) 5 (cond (eqb v 5) 3 v))
    at (yes e) d = rw e a
    at (no e) (yes f) = rw f b
    at (no e) (no f) = rw (ne_eqb v 3 e, ne_eqb v 5 f) (c e f)

twice : (v : ℕ) → exchanged (exchanged v) ≡ v
unfolding exchanged
twice v = exchanged_cases v (λ x y. exchanged y ≡ x) refl refl (λ e f. rw (ne_eqb v 3 e, ne_eqb v 5 f))

renumbers : Renumbering (get_or one actv_word 0) exchanged
unfolding one machine note put_voice fresh words_from reset_word with_mask
renumbers = record {
  into = λ v h. exchanged_cases v (λ x y. x < 32 → y < 32) (λ _. lit< tt) (λ _. lit< tt) (λ _ _ k. k) h;
  one_to_one = λ v u h k e. sym (twice v) ∙ ap exchanged e ∙ twice u;
  stays_active = λ v h. exchanged_cases v (λ x y. x ≤ 31 → y ≤ 31) (λ _. omega arith) (λ _. omega arith) (λ _ _ k. k) h;
}

-- ---- the machines match

module _ (v CR page vector : ℕ) (h : v < 32) where
  note_fits : 20 * v + 20 ≤ length fresh
  note_fits = omega (arith, fresh-length)

  note_long : length (note CR) ≡ 20
  unfolding note
  note_long = refl

  size : length (put_voice fresh v (note CR)) ≡ record_words
  size = put_length fresh v (note CR) note_long note_fits ∙ fresh-length

  -- the shared words are none of the voices'
  below : (u : ℕ) → u < 32 → voice_at (machine v CR page vector) u ≡ voice_at (put_voice fresh v (note CR)) u
  unfolding machine
  below u k =
      masked_voice (set (set (put_voice fresh v (note CR)) page_word page) irqv_word vector) u (simp length-set size) k
      ∙ voice_set_shared (set (put_voice fresh v (note CR)) page_word page) u irqv_word vector (length-set (put_voice fresh v (note CR)) page_word page ∙ size) k (omega arith)
      ∙ voice_set_shared (put_voice fresh v (note CR)) u page_word page size k (omega arith)

  at_note : voice_at (machine v CR page vector) v ≡ note CR
  at_note = below v h ∙ put_same fresh v (note CR) note_long note_fits

  at_rest : (u : ℕ) → u < 32 → u ≢ v → voice_at (machine v CR page vector) u ≡ voice_at fresh u
  at_rest u k d = below u k ∙ put_other fresh v (note CR) note_long note_fits u (omega (arith, fresh-length)) d

  above : (i : ℕ) → irqv_word < i → i < wait_mask_word → get_or (machine v CR page vector) i 0 ≡ get_or fresh i 0
  unfolding machine
  above i k l =
      masked_word (set (set (put_voice fresh v (note CR)) page_word page) irqv_word vector) i (λ e. omega arith)
      ∙ get_or-set_other (set (put_voice fresh v (note CR)) page_word page) irqv_word i vector 0 (λ e. omega arith)
      ∙ get_or-set_other (put_voice fresh v (note CR)) page_word i page 0 (λ e. omega arith)
      ∙ put_out_lem fresh v (note CR) note_long note_fits i (λ a b. omega arith)

-- after a reset all voices are alike
rest_word : (v j : ℕ) → v < 32 → j < 20 → get_or fresh (20 * v + j) 0 ≡ cond (eqb j 0) 3 0
unfolding reset_word
rest_word v j h k =
    let e : (20 * v + j) % 20 ≡ j = omega arith in
    fresh_at (20 * v + j) (omega arith) ∙ rw (lt-ltb (20 * v + j) page_word (omega arith), e)

rest : (u v : ℕ) → u < 32 → v < 32 → voice_at fresh u ≡ voice_at fresh v
rest u v h k = voice_same fresh fresh u v (omega (arith, fresh-length)) (omega (arith, fresh-length)) (λ j l. rest_word u j h l ∙ sym (rest_word v j k l))

-- the two notes differ in the interrupt flag alone
same_note : SameVoice (note 896) (note 768)
unfolding note with_bit bit_of
same_note = record { control = put_apart irq_bit 1 768 (omega arith); others = at }
  where
    at : (j : ℕ) → 0 < j → j < 20 → get_or (note 896) j 0 ≡ get_or (note 768) j 0
    at zero l k = absurd (let z : ⊥ = omega arith in z)
    at (suc j) l k = refl

matches : Match exchanged one other
unfolding one other
matches = record {
  voices = λ v h. exchanged_cases v (λ x y. x < 32 → SameVoice (voice_at one x) (voice_at other y))
      (λ _. rw (at_note 3 896 3 3 (lit< tt), at_note 5 768 90 128 (lit< tt)) same_note)
      (λ _. rw (at_rest 3 896 3 3 (lit< tt) 5 (lit< tt) (λ e. omega arith), at_rest 5 768 90 128 (lit< tt) 3 (lit< tt) (λ e. omega arith)) (same_equal (rest 5 3 (lit< tt) (lit< tt))))
      (λ e f k. rw (at_rest 3 896 3 3 (lit< tt) v k e, at_rest 5 768 90 128 (lit< tt) v k f) (same_equal refl))
      h;
  active = same actv_word (lit< tt) (lit< tt);
  slow = same slow_word (lit< tt) (lit< tt);
  sums = λ c h. same (sums_word + c) (omega arith) (omega arith);
}
  where
    same : (i : ℕ) → irqv_word < i → i < wait_mask_word → get_or one i 0 ≡ get_or other i 0
    same i k l = above 3 896 3 3 (lit< tt) i k l ∙ sym (above 5 768 90 128 (lit< tt) i k l)

-- ---- two traces

unfoldable pub memory : List ℕ
memory = 1000 ∷ 1000 ∷ []

-- LVOL of the note, and CR of voice 0, which stays stopped
unfoldable pub volume : ℕ → Put
volume v = record { voice = v; word = 2; number = 32768 }

unfoldable pub stopped : Put
stopped = record { voice = 0; word = 0; number = 3 }

-- On the one machine LVOL of voice 3 is written, on the page that is set, with a read of the vector and a frame between its bytes; then CR
-- of voice 0.
unfoldable pub begin : List Call
begin = Write 8 0 ∷ Read 56 ∷ []

unfoldable pub finish : List Call
finish = (Write 9 0 ∷ Write 10 128 ∷ Write 11 0 ∷ []) ++ writes stopped

-- On the other both writes stand whole after the frame. CR of voice 0 comes first; then a pot result, the question which voices wait, a byte of
-- PAGE that is left at that, and a write that is refused; then LVOL of voice 5.
unfoldable pub whole : List Call
whole = (writes stopped ++ SetPot 5 ∷ Waiting ∷ Write 60 1 ∷ Write 99 7 ∷ []) ++ writes (volume 5)

fits : (v : ℕ) → v < 32 → Fits (volume v)
unfolding volume
fits v h = record { voice = h; word = lit< tt; number = lit< tt }

fits_stopped : Fits stopped
unfolding stopped
fits_stopped = record { voice = lit< tt; word = lit< tt; number = lit< tt }

begins : Between one idle begin [] (begun 2 3 2 1 0)
unfolding begin one machine note put_voice fresh words_from reset_word with_mask register_of low_page
begins = first 2 3 2 0 (lit< tt) (lit< tt) (lit< tt) (lit< tt) refl (reading 56 nothing)

finishes : {m : List ℕ} → Sound m → In m (begun 2 3 2 1 0) → Between m (begun 2 3 2 1 0) finish (volume 3 ∷ stopped ∷ []) idle
unfolding finish volume
finishes s i =
    let d = next {k = 1} 0 (lit< tt) (lit< tt) (next {k = 2} 128 (lit< tt) (lit< tt) (last 0 (lit< tt) nothing)) in
    one_after_other d (one_write stopped (stretch s i d).moved.sound fits_stopped)

both_whole : {m : List ℕ} → Sound m → Between m idle whole (stopped ∷ volume 5 ∷ []) idle
unfolding whole answer_to
both_whole s =
    let d = one_after_other (one_write stopped s fits_stopped) (potting 5 (asking (paging 0 1 (lit< tt) (lit< tt) (refused 99 7 (far_refused _ 99 (lit< tt)) nothing)))) in
    one_after_other d (one_write (volume 5) (between s d).sound (fits 5 (lit< tt)))

same_writes : SameWrites exchanged (volume 3 ∷ stopped ∷ []) (stopped ∷ volume 5 ∷ [])
unfolding volume stopped
same_writes v h = exchanged_cases v (λ x y. of_voice x (volume 3 ∷ stopped ∷ []) ≡ of_voice y (stopped ∷ volume 5 ∷ [])) refl refl (λ e f. at (ℕ_discrete v 0) e f)
  where
    at : Dec (v ≡ 0) → v ≢ 3 → v ≢ 5 → of_voice v (volume 3 ∷ stopped ∷ []) ≡ of_voice v (stopped ∷ volume 5 ∷ [])
    at (yes d) e f = rw d refl
    at (no d) e f = rw (ne_eqb v 3 e, ne_eqb v 0 d, ne_eqb v 5 f)

-- both writes count between the two frames, where their bytes 3 stand
unfoldable pub log : List Put → Log
log ps = Then [] memory (Then ps memory (End []))

module _ (out out' : List ℤ) (long : length out ≡ 12) (long' : length out' ≡ 12) where
  unfoldable pub calls : List Call
  calls = begin ++ Frame memory out ∷ (finish ++ Frame memory out ∷ Read 0 ∷ [])

  unfoldable pub calls' : List Call
  calls' = Frame memory out' ∷ (whole ++ Frame memory out' ∷ [])

  trace : Trace one idle calls (log (volume 3 ∷ stopped ∷ []))
  unfolding calls log memory
  trace = one_frame_more memory out (omega arith) long (sound one one_valid) one_active tt begins
      (λ s v i. one_frame_more memory out (omega arith) long s v i (finishes s i) (λ _ _ _. stop (reading 0 nothing)))

  trace' : Trace other idle calls' (log (stopped ∷ volume 5 ∷ []))
  unfolding calls' log memory
  trace' = one_frame_more memory out' (omega arith) long' (sound other other_valid) other_active tt nothing
      (λ s v i. one_frame_more memory out' (omega arith) long' s v i (both_whole s) (λ _ _ _. stop nothing))

  -- ---- the theorem at them

  pub sounds_the_same : (outputs one calls ≡ outputs other calls') × Match exchanged (run one calls) (run other calls')
  unfolding log
  sounds_the_same =
      let r = inaudible exchanged one other one_valid other_valid renumbers matches calls calls' (log (volume 3 ∷ stopped ∷ [])) (log (stopped ∷ volume 5 ∷ [])) trace trace'
      ((λ v h. refl), refl, (same_writes, refl, λ v h. refl)) in
      (r.1, r.2)
