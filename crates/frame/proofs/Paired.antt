-- One frame of two machines whose voices are in a relation that a turn keeps and in which they add the same and miss as many words: it puts out
-- the same values, misses as many words, and the relation holds after it. The voices may have other numbers, since sums may be taken in any
-- order.
-- In order: such relations (`KeptByTurns`); what is put out (`heard_paired`); what is missing (`missed_paired`); the machines after it
-- (`closed_paired`).
-- It serves relations that say the same of every voice, under one sample memory. The frame as a call is `calls/proofs/Runs`; what a frame leaves of
-- one machine is Leaves. Assumes nothing.
use mathlib.Core.Path.{◌≡◌, sym, ap, ◌∙◌}
use mathlib.Core.List.{List}
use Prim.Native.Nat.{ℕ, suc, ◌+◌, ◌%◌, ◌≤◌, ◌<◌}
use native.Mathlib.Numerals.{add-one}
use native.Mathlib.Omega.{arith}
use lib.Dec.{lit<, lit≤}
use lib.ListN.{get_or}
use Rattle.numbers.proofs.Sum.{sum_ext, sum_renumbered, maps_outside}
use Rattle.numbers.proofs.Tests.{cases}
use Rattle.machine.specs.Words.{actv_word, slow_word, sums_word}
use Rattle.machine.specs.Voices.{voice_at}
use Rattle.machine.proofs.Valid.{Sound}
use Rattle.voice.specs.Voice.{voice_of}
use Rattle.voice.specs.Missed.{missed_by}
use Rattle.frame.specs.Missing.{missed_in}
use Rattle.frame.specs.Frame.{played, heard, closed}
use Rattle.frame.specs.Paired.{Paired}
use Rattle.frame.proofs.Keeps.{active_le}
use Rattle.frame.proofs.Leaves.{words_after, share, shares, Turned, slow_stays, all_turned, closed_voice, closed_slow, closed_sum, closed_stays, heard_same}

-- a turn keeps P, and two voices in P add the same to each sum and miss as many words
pub record KeptByTurns (P : List ℕ → List ℕ → Type 0) : Type 0 where
  pub turns : (memory : List ℕ) (slow : ℕ) {w x : List ℕ} → P w x → P (words_after memory slow w) (words_after memory slow x)
  pub adds : (memory : List ℕ) (slow : ℕ) {w x : List ℕ} → P w x → (i : ℕ) → share memory slow w i ≡ share memory slow x i
  pub misses : (memory : List ℕ) {w x : List ℕ} → P w x → missed_by memory (voice_of w) ≡ missed_by memory (voice_of x)

module _ {P : List ℕ → List ℕ → Type 0} (K : KeptByTurns P) (memory : List ℕ) {s : ℕ → ℕ} {m n : List ℕ} (sm : Sound m) (sn : Sound n)
    (into : (v : ℕ) → v < 32 → s v < 32) (one_to_one : (v u : ℕ) → v < 32 → u < 32 → s v ≡ s u → v ≡ u)
    (stays_active : (v : ℕ) → v ≤ get_or m actv_word 0 → s v ≤ get_or m actv_word 0) (M : Paired P s m n) where
  -- how many voices have a turn
  count : ℕ
  count = suc (get_or m actv_word 0)

  count_le : count ≤ 32
  unfolding count
  count_le = omega (arith, active_le m sm)

  into_active : (v : ℕ) → v < count → s v < count
  unfolding count
  into_active v h = omega (arith, stays_active v (omega arith))

  active_once : (v u : ℕ) → v < count → u < count → s v ≡ s u → v ≡ u
  active_once v u h k e = one_to_one v u (omega (arith, count_le)) (omega (arith, count_le)) e

  -- an inactive voice becomes an inactive one
  stays_inactive : (v : ℕ) → v < 32 → count ≤ v → count ≤ s v
  stays_inactive v h k =
      maps_outside count s into_active active_once v (λ u l e. let d : v ≡ u = one_to_one v u h (omega (arith, count_le)) e in let z : ⊥ = omega arith in z)

  tm : Turned memory count m (played memory m)
  unfolding count
  tm = all_turned memory sm

  tn : Turned memory count n (played memory n)
  unfolding count
  tn = rw M.active (all_turned memory sn)

  -- the order in which the voices are added is not heard
  same_shares : (i : ℕ) → shares memory m count i ≡ shares memory n count i
  unfolding shares
  same_shares i =
      sum_ext count (λ v. share memory (get_or m slow_word 0) (voice_at m v) i) (λ v. share memory (get_or n slow_word 0) (voice_at n (s v)) i)
      (λ v l. rw M.slow (K.adds memory (get_or n slow_word 0) (M.voices v (omega (arith, count_le))) i))
      ∙ sum_renumbered count s into_active active_once (λ v. share memory (get_or n slow_word 0) (voice_at n v) i)

  same_sums : (i : ℕ) → i < 12 → get_or (played memory m) (sums_word + i) 0 ≡ get_or (played memory n) (sums_word + i) 0
  same_sums i h = tm.sums i h ∙ rw (M.sums i h, same_shares i) (sym (tn.sums i h))

  pub heard_paired : heard (played memory m) ≡ heard (played memory n)
  heard_paired = heard_same (played memory m) (played memory n) tm.sound.size tn.sound.size same_sums

  -- nor the order in which their missing words are counted
  pub missed_paired : missed_in memory m ≡ missed_in memory n
  unfolding missed_in count
  missed_paired = rw (← M.active, add-one)
      (sum_ext count (λ v. missed_by memory (voice_of (voice_at m v))) (λ v. missed_by memory (voice_of (voice_at n (s v))))
      (λ v l. K.misses memory (M.voices v (omega (arith, count_le))))
      ∙ sum_renumbered count s into_active active_once (λ v. missed_by memory (voice_of (voice_at n v))))

  turned_voices : (v : ℕ) → v < 32 → P (voice_at (played memory m) v) (voice_at (played memory n) (s v))
  turned_voices v h = cases v count (P (voice_at (played memory m) v) (voice_at (played memory n) (s v)))
      (λ l.
      rw (tm.past v h l, tn.past (s v) (into v h) (into_active v l), M.slow)
      (K.turns memory (get_or n slow_word 0) (M.voices v h)))
      (λ l. rw (tm.ahead v h l, tn.ahead (s v) (into v h) (stays_inactive v h l)) (M.voices v h))

  pub closed_paired : Paired P s (closed (played memory m)) (closed (played memory n))
  closed_paired = record {
    voices = λ v h. rw (closed_voice (played memory m) tm.sound v h, closed_voice (played memory n) tn.sound (s v) (into v h)) (turned_voices v h);
    active =
        closed_stays tm actv_word (lit≤ tt) (lit< tt) (λ e. omega arith) (λ e. omega arith) ∙ M.active
        ∙ sym (closed_stays tn actv_word (lit≤ tt) (lit< tt) (λ e. omega arith) (λ e. omega arith));
    slow = closed_slow (played memory m) tm.sound ∙ ap (λ (x : ℕ). (x + 1) % 8) (slow_stays tm ∙ M.slow ∙ sym (slow_stays tn)) ∙ sym (closed_slow (played memory n) tn.sound);
    sums = λ i h. closed_sum (played memory m) tm.sound i h ∙ sym (closed_sum (played memory n) tn.sound i h);
  }
