-- The vector after a frame that found it empty is the lowest active voice of the mask as the frame left it, or it is still empty (`frame_vector`); there
-- is one such vector (`one_lowest`).
-- In order: the lowest of the voices that had their turn; one turn more; all turns; the closing, and the mask for the flags; the theorem, and that it
-- leaves no choice. Assumes nothing.
use mathlib.Core.Path.{◌≡◌, refl, sym, ap, subst, ◌∙◌}
use mathlib.Core.Bool.{Bool, true, false, cond, ◌&&◌, false≢true}
use mathlib.Core.List.{List}
use Prim.Native.Nat.{ℕ, zero, suc, ◌<◌, ◌≤◌}
use native.Mathlib.Nat.{not-suc-le-zero}
use native.Mathlib.Numerals.{add-one}
use native.Mathlib.Omega.{arith}
use borrow.Author.Tests.{ne_eqb}
use lib.Dec.{eqb, lit<, lit≤}
use lib.IntN.{ℤ}
use lib.ListN.{get_or}
use Rattle.answer.specs.Answer.{Done}
use Rattle.numbers.proofs.Tests.{split, cases}
use Rattle.control.specs.Control.{flag_of, irq_bit}
use Rattle.machine.specs.Words.{cr_word, irqv_word, actv_word, slow_word, wait_mask_word, no_interrupt, waits}
use Rattle.machine.specs.Voices.{voice_at}
use Rattle.machine.proofs.Parts.{voice_word_lem}
use Rattle.machine.proofs.Mask.{flag_waits}
use Rattle.machine.proofs.Valid.{Sound}
use Rattle.voice.specs.Turn.{turn_of}
use Rattle.voice.specs.Voice.{voice_of, words_of}
use Rattle.frame.specs.Frame.{turn_at, turns, played, closed, frame_answer, frame_record}
use Rattle.frame.specs.Vector.{LowestOf, lowest, none}
use Rattle.frame.proofs.Answered.{done_frame}
use Rattle.frame.proofs.Keeps.{sound_turns, active_le}
use Rattle.frame.proofs.Leaves.{words_after, turn_vector, turn_same, turn_other, all_turned, closed_voice, closed_word, closed_stays, sound_closed}

-- a voice waits by its own words
waits_voice : (m : List ℕ) (v : ℕ) → waits m v ≡ flag_of irq_bit (get_or (voice_at m v) cr_word 0)
waits_voice m v = ap (flag_of irq_bit) (sym (voice_word_lem m v cr_word (lit< tt)))

same_waits : (m n : List ℕ) (v : ℕ) → voice_at m v ≡ voice_at n v → waits m v ≡ waits n v
same_waits m n v e = waits_voice m v ∙ ap (λ (w : List ℕ). flag_of irq_bit (get_or w cr_word 0)) e ∙ sym (waits_voice n v)

-- ---- the voices that had their turn

-- x is the lowest of the voices below k that wait in m, or the vector's "none" where none does
data LowestBelow (m : List ℕ) (k : ℕ) : ℕ → Type 0 where
  found : (v : ℕ) → v < k → waits m v ≡ true → ((u : ℕ) → u < v → waits m u ≡ false) → LowestBelow m k v
  nobody : ((u : ℕ) → u < k → waits m u ≡ false) → LowestBelow m k no_interrupt

-- one turn more
module _ (memory : List ℕ) (k : ℕ) (m : List ℕ) (s : Sound m) (h : k < 32) where
  past_waits : (u : ℕ) → u < k → waits (turn_at memory k m) u ≡ waits m u
  past_waits u l = same_waits (turn_at memory k m) m u (turn_other memory k m s h u (omega arith) (λ e. omega arith))

  own_waits : waits (turn_at memory k m) k ≡ flag_of irq_bit (turn_of memory (get_or m slow_word 0) (voice_of (voice_at m k))).voice.cr
  unfolding words_after words_of
  own_waits = waits_voice (turn_at memory k m) k ∙ ap (λ (w : List ℕ). flag_of irq_bit (get_or w cr_word 0)) (turn_same memory k m s h)

  -- the vector by the flag that the turn leaves
  vector_after : get_or (turn_at memory k m) irqv_word 0 ≡ cond (waits (turn_at memory k m) k && eqb (get_or m irqv_word 0) no_interrupt) k (get_or m irqv_word 0)
  vector_after = turn_vector memory k m s h ∙ ap (λ (b : Bool). cond (b && eqb (get_or m irqv_word 0) no_interrupt) k (get_or m irqv_word 0)) (sym own_waits)

  one_more : (x : ℕ) → x ≡ get_or m irqv_word 0 → LowestBelow m k x → LowestBelow (turn_at memory k m) (suc k) (get_or (turn_at memory k m) irqv_word 0)
  one_more x e (found v l w below) =
      let n = turn_at memory k m in
      let stays : get_or n irqv_word 0 ≡ v = vector_after ∙ rw (← e, ne_eqb v no_interrupt (λ z. omega arith)) (split _ (waits n k) (λ t. rw t) (λ t. rw t)) in
      subst (LowestBelow n (suc k)) (sym stays) (found v (omega arith) (past_waits v l ∙ w) (λ u b. past_waits u (omega arith) ∙ below u b))
  one_more x e (nobody f) =
      let n = turn_at memory k m in
      split (LowestBelow n (suc k) (get_or n irqv_word 0)) (waits n k)
      (λ t.
      let enters : get_or n irqv_word 0 ≡ k = vector_after ∙ rw (t, ← e) in
      subst (LowestBelow n (suc k)) (sym enters) (found k (omega arith) t (λ u b. past_waits u b ∙ f u b)))
      (λ t.
      let empty : get_or n irqv_word 0 ≡ no_interrupt = vector_after ∙ rw (t, ← e) in
      subst (LowestBelow n (suc k)) (sym empty)
      (nobody (λ u b. cases u k (waits n u ≡ false) (λ l. past_waits u l ∙ f u l) (λ l. let q : u ≡ k = omega arith in rw q t))))

-- all turns
lowest_turned : (memory : List ℕ) (m : List ℕ) → Sound m → get_or m irqv_word 0 ≡ no_interrupt → (k : ℕ) → k ≤ 32 → LowestBelow (turns memory k m) k (get_or (turns memory k m) irqv_word 0)
unfolding turns
lowest_turned memory m s e zero h = subst (LowestBelow m 0) (sym e) (nobody (λ u l. absurd (not-suc-le-zero l)))
lowest_turned memory m s e (suc k) h =
    one_more memory k (turns memory k m) (sound_turns memory k s (omega arith)) h (get_or (turns memory k m) irqv_word 0) refl (lowest_turned memory m s e k (omega arith))

-- ---- the frame

-- the closing leaves voices and vector, and the mask tells the flags
module _ (memory m : List ℕ) (s : Sound m) (e : get_or m irqv_word 0 ≡ no_interrupt) where
  abbrev last : List ℕ
  last = closed (played memory m)

  turned_sound : Sound (played memory m)
  turned_sound = (all_turned memory s).sound

  told : (u : ℕ) → u < 32 → flag_of u (get_or last wait_mask_word 0) ≡ waits (played memory m) u
  told u l = ap (flag_of u) (sound_closed (played memory m) turned_sound).mask ∙ flag_waits last u l ∙ same_waits last (played memory m) u (closed_voice (played memory m) turned_sound u l)

  active_same : get_or last actv_word 0 ≡ get_or m actv_word 0
  active_same = closed_stays (all_turned memory s) actv_word (lit≤ tt) (lit< tt) (λ z. omega arith) (λ z. omega arith)

  by_mask : (x : ℕ) → LowestBelow (played memory m) (suc (get_or m actv_word 0)) x → LowestOf (get_or last wait_mask_word 0) (get_or last actv_word 0) x
  by_mask x (found v l w below) =
      let a = active_le m s in
      lowest v (omega (arith, active_same)) (told v (omega arith) ∙ w) (λ u b. told u (omega (arith, active_same)) ∙ below u b)
  by_mask x (nobody f) = let a = active_le m s in none (λ u b. told u (omega (arith, active_same)) ∙ f u (omega (arith, active_same)))

  closed_vector : LowestOf (get_or last wait_mask_word 0) (get_or last actv_word 0) (get_or last irqv_word 0)
  unfolding played
  closed_vector =
      let k = suc (get_or m actv_word 0) in
      subst (LowestOf (get_or last wait_mask_word 0) (get_or last actv_word 0)) (sym (closed_word (played memory m) turned_sound irqv_word (lit< tt) (λ z. omega arith)))
      (by_mask (get_or (played memory m) irqv_word 0) (rw add-one (lowest_turned memory m s e k (omega (arith, active_le m s)))))

-- a frame that is done and found the vector empty
pub frame_vector : (m memory : List ℕ) (out : List ℤ) → frame_answer m memory out ≡ Done → get_or m irqv_word 0 ≡ no_interrupt
    → let n = frame_record m memory out in LowestOf (get_or n wait_mask_word 0) (get_or n actv_word 0) (get_or n irqv_word 0)
unfolding frame_record
frame_vector m memory out d e = rw d (closed_vector memory m (done_frame m memory out d).machine e)

-- the statement leaves no choice
pub one_lowest : {mask active x y : ℕ} → LowestOf mask active x → LowestOf mask active y → x ≡ y
one_lowest (lowest v h t below) (lowest u k s under) = cases v u (v ≡ u)
    (λ l. absurd (false≢true (sym (under v l) ∙ t)))
    (λ l. cases u v (v ≡ u) (λ g. absurd (false≢true (sym (below u g) ∙ s))) (λ g. omega arith))
one_lowest (lowest v h t below) (none f) = absurd (false≢true (sym (f v h) ∙ t))
one_lowest (none f) (lowest v h t below) = absurd (false≢true (sym (f v h) ∙ t))
one_lowest (none f) (none g) = refl
