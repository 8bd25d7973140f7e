-- What a turn, the turns and the closing leave, voice by voice and word by word; and what is put out.
-- In order: what a turn does with a voice's words (`words_after`), and what it adds to each sum (`portion`, `share`); the parts of a turn
-- (`added_…`); the turn (`turn_word`, `turn_vector`, `turn_sum`, `turn_same`, `turn_other`); the turns of voices 0 to k - 1 (`shares`, `Turned`,
-- `slow_stays`, `turned`, `all_turned`), which do not say what becomes of the vector (Vector does); the closing (`silenced_…`, `closed_…`,
-- `sound_closed`); both (`closed_stays`); the output (`heard_length`, `heard_same`).
-- That a turn and the turns keep a record valid is Keeps, and what one voice's turn does to its own registers is the crate `voice`.
-- Assumes nothing.
use mathlib.Core.Path.{◌≡◌, refl, sym, ap, ◌∙◌}
use mathlib.Core.Bool.{cond, ◌&&◌}
use mathlib.Core.List.{List, ◌++◌, map}
use mathlib.Core.Logic.{◌≢◌}
use Prim.Native.Nat.{ℕ, zero, suc, ◌+◌, ◌-◌, ◌*◌, ◌%◌, ◌<◌, ◌≤◌}
use native.Mathlib.Decide.{ℕ_discrete}
use native.Mathlib.Nat.{mod-eq_of_lt, not-suc-le-zero, mod-add-mod, add_assoc}
use native.Mathlib.Numerals.{add-one}
use native.Mathlib.Omega.{arith}
use borrow.Author.Tests.{eqb-true, eqb-false, ltb-true, ltb-false, ne_eqb}
use lib.Bits.{bit_and, and_mask}
use lib.Dec.{eqb, ltb, lit<, lit≤}
use lib.IntN.{ℤ}
use lib.ListN.{length, get_or, set, take, drop, replicate, length-drop, length-append, length-map, get_or-replicate, get_or-append}
use lib.Seq.{get_or-take, get_or-drop, get_or-append-add, get_or-set_same, get_or-set_other, length-take-le, ext_get_or}
use Rattle.numbers.specs.Numbers.{word}
use Rattle.numbers.specs.Sum.{sum}
use Rattle.numbers.proofs.Tests.{either, split, cases}
use Rattle.control.specs.Control.{flag_of, channel_of, irq_bit}
use Rattle.channel.specs.Channel.{mixed, put_out}
use Rattle.channel.proofs.Laws.{mixed_is}
use Rattle.machine.specs.Words.{page_word, irqv_word, actv_word, slow_word, sums_word, wait_mask_word, no_interrupt, bits_of, shared_bits, cut, with_mask, record_words}
use Rattle.machine.specs.Voices.{voice_at, put_voice}
use Rattle.machine.proofs.Parts.{voice_set_shared, voice_same, put_length, put_same, put_other, put_out_lem}
use Rattle.machine.proofs.Mask.{same_flags, masked_length, masked_word, masked_voice}
use Rattle.machine.proofs.Valid.{Sound, in_range, sound_masked, sound_set}
use Rattle.voice.specs.Turn.{turn_of}
use Rattle.voice.specs.Voice.{voice_of, words_of}
use Rattle.frame.specs.Frame.{added_to, added, signalled, turn_at, turns, played, heard, silenced, closed}
use Rattle.frame.proofs.Steps.{added_to-length, added_to_other}
use Rattle.frame.proofs.Keeps.{sum_small, words_length, turn_range, sound_turn, active_le}

-- ---- what a turn does with a voice's words, and what it adds to each sum

unfoldable pub words_after : List ℕ → ℕ → List ℕ → List ℕ
words_after memory slow w = words_of (turn_of memory slow (voice_of w)).voice

-- what sum i gets of what is added to a channel: its left sum, its right sum, another
unfoldable pub portion : ℕ → ℤ → ℤ → ℕ → ℕ
portion channel left right i = cond (eqb i (2 * channel)) (word 23 left) (cond (eqb i (2 * channel + 1)) (word 23 right) 0)

unfoldable pub share : List ℕ → ℕ → List ℕ → ℕ → ℕ
share memory slow w i = let t = turn_of memory slow (voice_of w) in portion (channel_of (get_or w 0 0)) t.left t.right i

-- ---- the parts of a turn

module _ (m : List ℕ) (v CR : ℕ) where
  signalled_word : (i : ℕ) → i ≢ irqv_word → get_or (signalled m v CR) i 0 ≡ get_or m i 0
  unfolding signalled
  signalled_word i h = either (λ r. get_or r i 0 ≡ get_or m i 0) (flag_of irq_bit CR && eqb (get_or m irqv_word 0) no_interrupt) (set m irqv_word v) m
      (λ _. get_or-set_other m irqv_word i v 0 h) (λ _. refl)

  -- the vector, if it is empty, takes a voice that waits
  signalled_vector : length m ≡ record_words → get_or (signalled m v CR) irqv_word 0 ≡ cond (flag_of irq_bit CR && eqb (get_or m irqv_word 0) no_interrupt) v (get_or m irqv_word 0)
  unfolding signalled
  signalled_vector l = split _ (flag_of irq_bit CR && eqb (get_or m irqv_word 0) no_interrupt)
      (λ t. rw t (get_or-set_same m irqv_word v 0 (omega arith)))
      (λ t. rw t)

  signalled_voice : (u : ℕ) → length m ≡ record_words → u < 32 → voice_at (signalled m v CR) u ≡ voice_at m u
  unfolding signalled
  signalled_voice u l h = either (λ r. voice_at r u ≡ voice_at m u) (flag_of irq_bit CR && eqb (get_or m irqv_word 0) no_interrupt) (set m irqv_word v) m
      (λ _. voice_set_shared m u irqv_word v l h (omega arith)) (λ _. refl)

added_to_voice : (m : List ℕ) (i : ℕ) (z : ℤ) (u : ℕ) → length m ≡ record_words → u < 32 → page_word ≤ i → voice_at (added_to m i z) u ≡ voice_at m u
unfolding added_to
added_to_voice m i z u l h k = voice_set_shared m u i (mixed (get_or m i 0) (word 23 z)) l h k

added_to_same : (m : List ℕ) (i j : ℕ) (z : ℤ) → j ≡ i → i < length m → get_or (added_to m i z) j 0 ≡ (get_or m j 0 + word 23 z) % 8388608
unfolding added_to
added_to_same m i j z e h = rw e (get_or-set_same m i (mixed (get_or m i 0) (word 23 z)) 0 h ∙ mixed_is (get_or m i 0) (word 23 z))

module _ (m : List ℕ) (channel : ℕ) (left right : ℤ) where
  -- a word that is no sum
  pub added_word : (i : ℕ) → ((c : ℕ) → c < 12 → i ≢ sums_word + c) → get_or (added m channel left right) i 0 ≡ get_or m i 0
  unfolding added
  added_word i d =
      let n = added_to m (sums_word + 2 * channel) left in
      either (λ r. get_or r i 0 ≡ get_or m i 0) (ltb channel 6) (added_to n (sums_word + 2 * channel + 1) right) m
      (λ t.
      let h = ltb-true channel 6 t in
      added_to_other n (sums_word + 2 * channel + 1) i right (λ e. d (2 * channel + 1) (omega arith) (omega arith)) ∙ added_to_other m (sums_word + 2 * channel) i left (d (2 * channel) (omega arith)))
      (λ _. refl)

  added_voice : (u : ℕ) → length m ≡ record_words → u < 32 → voice_at (added m channel left right) u ≡ voice_at m u
  unfolding added
  added_voice u l h =
      let n = added_to m (sums_word + 2 * channel) left in
      either (λ r. voice_at r u ≡ voice_at m u) (ltb channel 6) (added_to n (sums_word + 2 * channel + 1) right) m
      (λ _.
      added_to_voice n (sums_word + 2 * channel + 1) right u (added_to-length m (sums_word + 2 * channel) left ∙ l) h (omega arith)
      ∙ added_to_voice m (sums_word + 2 * channel) left u l h (omega arith))
      (λ _. refl)

  pub added_length : length (added m channel left right) ≡ length m
  unfolding added
  added_length =
      let n = added_to m (sums_word + 2 * channel) left in
      either (λ r. length r ≡ length m) (ltb channel 6) (added_to n (sums_word + 2 * channel + 1) right) m
      (λ _. added_to-length n (sums_word + 2 * channel + 1) right ∙ added_to-length m (sums_word + 2 * channel) left)
      (λ _. refl)

  module _ (s : Sound m) (i : ℕ) (h : i < 12) where
    -- a sum that gets nothing is as it was, since it has 23 bits
    nothing_added : get_or m (sums_word + i) 0 ≡ (get_or m (sums_word + i) 0 + 0) % 8388608
    nothing_added = omega (arith, sum_small m (in_range s) i h)

    both_added : channel < 6 → get_or (added_to (added_to m (sums_word + 2 * channel) left) (sums_word + 2 * channel + 1) right) (sums_word + i) 0
        ≡ (get_or m (sums_word + i) 0 + portion channel left right i) % 8388608
    unfolding portion
    both_added k =
        let n = added_to m (sums_word + 2 * channel) left in
        let l : length n ≡ record_words = added_to-length m (sums_word + 2 * channel) left ∙ s.size in
        let P : ℕ → Type 0 = λ x. get_or (added_to n (sums_word + 2 * channel + 1) right) (sums_word + i) 0 ≡ (get_or m (sums_word + i) 0 + x) % 8388608 in
        either P (eqb i (2 * channel)) (word 23 left) (cond (eqb i (2 * channel + 1)) (word 23 right) 0)
        (λ t.
        let e = eqb-true i (2 * channel) t in
        added_to_other n (sums_word + 2 * channel + 1) (sums_word + i) right (λ q. omega arith) ∙ added_to_same m (sums_word + 2 * channel) (sums_word + i) left (omega arith) (omega (arith, s.size)))
        (λ t.
        let e = eqb-false i (2 * channel) t in
        let o = added_to_other m (sums_word + 2 * channel) (sums_word + i) left (λ q. e (omega arith)) in
        either P (eqb i (2 * channel + 1)) (word 23 right) 0
        (λ u.
        let f = eqb-true i (2 * channel + 1) u in
        added_to_same n (sums_word + 2 * channel + 1) (sums_word + i) right (omega arith) (omega arith) ∙ ap (λ (x : ℕ). (x + word 23 right) % 8388608) o)
        (λ u.
        let f = eqb-false i (2 * channel + 1) u in
        added_to_other n (sums_word + 2 * channel + 1) (sums_word + i) right (λ q. f (omega arith)) ∙ o ∙ nothing_added))

    no_portion : 6 ≤ channel → portion channel left right i ≡ 0
    unfolding portion
    no_portion k = rw (ne_eqb i (2 * channel) (λ e. omega arith), ne_eqb i (2 * channel + 1) (λ e. omega arith))

    added_sum : get_or (added m channel left right) (sums_word + i) 0 ≡ (get_or m (sums_word + i) 0 + portion channel left right i) % 8388608
    unfolding added
    added_sum = either (λ r. get_or r (sums_word + i) 0 ≡ (get_or m (sums_word + i) 0 + portion channel left right i) % 8388608) (ltb channel 6) _ m
        (λ t. both_added (ltb-true channel 6 t))
        (λ t. rw (no_portion (ltb-false channel 6 t)) nothing_added)

-- ---- the turn of voice v

module _ (memory : List ℕ) (v : ℕ) (m : List ℕ) (s : Sound m) (h : v < 32) where
  -- the record with the voice's new words alone, and the mask true of them
  put : List ℕ
  put = with_mask (put_voice m v (words_after memory (get_or m slow_word 0) (voice_at m v)))

  long : length (words_after memory (get_or m slow_word 0) (voice_at m v)) ≡ 20
  unfolding words_after
  long = words_length (turn_of memory (get_or m slow_word 0) (voice_of (voice_at m v))).voice

  fits : 20 * v + 20 ≤ length m
  fits = omega (arith, s.size)

  unmasked_size : length (put_voice m v (words_after memory (get_or m slow_word 0) (voice_at m v))) ≡ record_words
  unmasked_size = put_length m v (words_after memory (get_or m slow_word 0) (voice_at m v)) long fits ∙ s.size

  put_size : length put ≡ record_words
  unfolding put
  put_size = masked_length _ ∙ unmasked_size

  put_word : (i : ℕ) → page_word ≤ i → i ≢ wait_mask_word → get_or put i 0 ≡ get_or m i 0
  unfolding put
  put_word i k d = masked_word _ i d ∙ put_out_lem m v (words_after memory (get_or m slow_word 0) (voice_at m v)) long fits i (λ a b. omega arith)

  put_sound : Sound put
  unfolding put words_after
  put_sound = sound_masked (turn_range memory v s h)

  -- the words between the voices and the sums stay, but for the vector
  pub turn_word : (i : ℕ) → page_word ≤ i → i < sums_word → i ≢ irqv_word → get_or (turn_at memory v m) i 0 ≡ get_or m i 0
  unfolding turn_at put words_after
  turn_word i k l d = signalled_word _ v _ i d ∙ added_word _ _ _ _ i (λ c b e. omega arith) ∙ put_word i k (λ e. omega arith)

  -- the vector, by the flag as the turn leaves it
  pub turn_vector : get_or (turn_at memory v m) irqv_word 0
      ≡ cond (flag_of irq_bit (turn_of memory (get_or m slow_word 0) (voice_of (voice_at m v))).voice.cr && eqb (get_or m irqv_word 0) no_interrupt) v (get_or m irqv_word 0)
  unfolding turn_at put words_after
  turn_vector =
      let t = turn_of memory (get_or m slow_word 0) (voice_of (voice_at m v)) in
      let e = added_word put (channel_of (get_or (voice_at m v) 0 0)) t.left t.right irqv_word (λ c b z. omega arith) ∙ put_word irqv_word (lit≤ tt) (λ z. omega arith) in
      signalled_vector _ v _ (added_length _ _ _ _ ∙ put_size)
      ∙ ap (λ (x : ℕ). cond (flag_of irq_bit t.voice.cr && eqb x no_interrupt) v x) e

  pub turn_sum : (i : ℕ) → i < 12 → get_or (turn_at memory v m) (sums_word + i) 0 ≡ (get_or m (sums_word + i) 0 + share memory (get_or m slow_word 0) (voice_at m v) i) % 8388608
  unfolding turn_at put words_after share
  turn_sum i k =
      signalled_word _ v _ (sums_word + i) (λ e. omega arith) ∙ added_sum _ _ _ _ put_sound i k
      ∙ ap (λ (x : ℕ). (x + share memory (get_or m slow_word 0) (voice_at m v) i) % 8388608) (put_word (sums_word + i) (omega arith) (λ e. omega arith))

  -- a voice after it, from the same voice with the new words put
  turn_voice : (u : ℕ) → u < 32 → voice_at (turn_at memory v m) u ≡ voice_at put u
  unfolding turn_at put words_after
  turn_voice u k = signalled_voice _ v _ u (added_length _ _ _ _ ∙ put_size) k ∙ added_voice _ _ _ _ u put_size k

  pub turn_same : voice_at (turn_at memory v m) v ≡ words_after memory (get_or m slow_word 0) (voice_at m v)
  unfolding put
  turn_same = turn_voice v h ∙ masked_voice _ v unmasked_size h ∙ put_same m v (words_after memory (get_or m slow_word 0) (voice_at m v)) long fits

  pub turn_other : (u : ℕ) → u < 32 → u ≢ v → voice_at (turn_at memory v m) u ≡ voice_at m u
  unfolding put
  turn_other u k d = turn_voice u k ∙ masked_voice _ u unmasked_size k ∙ put_other m v (words_after memory (get_or m slow_word 0) (voice_at m v)) long fits u (omega (arith, s.size)) d

-- ---- the turns of voices 0 to k - 1

-- what the voices below k add to sum i
unfoldable pub shares : List ℕ → List ℕ → ℕ → ℕ → ℕ
shares memory m k i = sum k (λ v. share memory (get_or m slow_word 0) (voice_at m v) i)

-- m' is m after them
pub record Turned (memory : List ℕ) (k : ℕ) (m m' : List ℕ) : Type 0 where
  pub sound : Sound m'
  pub past : (v : ℕ) → v < 32 → v < k → voice_at m' v ≡ words_after memory (get_or m slow_word 0) (voice_at m v)
  pub ahead : (v : ℕ) → v < 32 → k ≤ v → voice_at m' v ≡ voice_at m v
  pub words : (i : ℕ) → page_word ≤ i → i < sums_word → i ≢ irqv_word → get_or m' i 0 ≡ get_or m i 0
  pub sums : (i : ℕ) → i < 12 → get_or m' (sums_word + i) 0 ≡ (get_or m (sums_word + i) 0 + shares memory m k i) % 8388608

pub slow_stays : {memory m m' : List ℕ} {k : ℕ} → Turned memory k m m' → get_or m' slow_word 0 ≡ get_or m slow_word 0
slow_stays t = t.words slow_word (lit≤ tt) (lit< tt) (λ e. omega arith)

module _ (memory : List ℕ) where
  no_turn : {m : List ℕ} → Sound m → Turned memory 0 m m
  unfolding shares sum
  no_turn {m} s = record {
    sound = s;
    past = λ v l k. absurd (not-suc-le-zero k);
    ahead = λ v l k. refl;
    words = λ i h l d. refl;
    sums = λ i h. omega (arith, sum_small m (in_range s) i h);
  }

  one_more : {m m' : List ℕ} (k : ℕ) → k < 32 → Turned memory k m m' → Turned memory (suc k) m (turn_at memory k m')
  unfolding shares sum
  one_more {m} {m'} k h t = record {
    sound = sound_turn memory k t.sound h;
    past = λ v l j. past v l j (ℕ_discrete v k);
    ahead = λ v l j. turn_other memory k m' t.sound h v l (λ e. omega arith) ∙ t.ahead v l (omega arith);
    words = λ i l j d. turn_word memory k m' t.sound h i l j d ∙ t.words i l j d;
    sums = λ i j.
        turn_sum memory k m' t.sound h i j
        ∙ ap (λ (x : ℕ). (get_or m' (sums_word + i) 0 + x) % 8388608) (own_share i)
        ∙ ap (λ (x : ℕ). (x + share memory (get_or m slow_word 0) (voice_at m k) i) % 8388608) (t.sums i j)
        ∙ mod-add-mod (get_or m (sums_word + i) 0 + shares memory m k i) 8388608 (share memory (get_or m slow_word 0) (voice_at m k) i)
        ∙ ap (λ (x : ℕ). x % 8388608) (add_assoc (get_or m (sums_word + i) 0) (shares memory m k i) (share memory (get_or m slow_word 0) (voice_at m k) i));
  }
    where
      -- voice k comes to its turn as it was
      own_share : (i : ℕ) → share memory (get_or m' slow_word 0) (voice_at m' k) i ≡ share memory (get_or m slow_word 0) (voice_at m k) i
      own_share i = rw (slow_stays t, t.ahead k h (omega arith))

      past : (v : ℕ) → v < 32 → v < suc k → Dec (v ≡ k) → voice_at (turn_at memory k m') v ≡ words_after memory (get_or m slow_word 0) (voice_at m v)
      past v l j (yes e) = rw e (turn_same memory k m' t.sound h ∙ rw (slow_stays t, t.ahead k h (omega arith)))
      past v l j (no e) = turn_other memory k m' t.sound h v l e ∙ t.past v l (omega arith)

  pub turned : {m : List ℕ} (k : ℕ) → k ≤ 32 → Sound m → Turned memory k m (turns memory k m)
  unfolding turns
  turned zero h s = no_turn s
  turned (suc k) h s = one_more k h (turned k (omega arith) s)

  -- all turns of a frame
  pub all_turned : {m : List ℕ} → Sound m → Turned memory (suc (get_or m actv_word 0)) m (played memory m)
  unfolding played
  all_turned {m} s = rw add-one (turned (suc (get_or m actv_word 0)) (omega (arith, active_le m s)) s)

-- ---- the closing

module _ (m : List ℕ) (s : Sound m) where
  low_length : length (take sums_word m) ≡ sums_word
  low_length = length-take-le sums_word m (omega (arith, s.size))

  silenced_length : length (silenced m) ≡ record_words
  unfolding silenced
  silenced_length = simp (length-append, low_length, length-drop) (omega (arith, s.size))

  pub silenced_word : (i : ℕ) → i < sums_word → get_or (silenced m) i 0 ≡ get_or m i 0
  unfolding silenced
  silenced_word i h =
      get_or-append (take sums_word m) (replicate 12 0 ++ drop 12 (drop sums_word m)) 0 i (omega (arith, low_length)) ∙ get_or-take sums_word m i 0 h

  pub silenced_sum : (i : ℕ) → i < 12 → get_or (silenced m) (sums_word + i) 0 ≡ 0
  unfolding silenced
  silenced_sum i h =
      ap (λ (n : ℕ). get_or (silenced m) (n + i) 0) (sym low_length)
      ∙ get_or-append-add (take sums_word m) (replicate 12 0 ++ drop 12 (drop sums_word m)) i 0
      ∙ get_or-append (replicate 12 0) (drop 12 (drop sums_word m)) 0 i h
      ∙ get_or-replicate 12 i 0 0 h

  -- the mask, which stands after the sums
  silenced_mask : get_or (silenced m) wait_mask_word 0 ≡ get_or m wait_mask_word 0
  unfolding silenced
  silenced_mask =
      ap (λ (n : ℕ). get_or (silenced m) (n + 12) 0) (sym low_length)
      ∙ get_or-append-add (take sums_word m) (replicate 12 0 ++ drop 12 (drop sums_word m)) 12 0
      ∙ get_or-append-add (replicate 12 0) (drop 12 (drop sums_word m)) 0 0
      ∙ get_or-drop 12 (drop sums_word m) 0 0
      ∙ get_or-drop sums_word m 12 0

  next : ℕ
  next = (get_or (silenced m) slow_word 0 + 1) % 8

  pub closed_voice : (v : ℕ) → v < 32 → voice_at (closed m) v ≡ voice_at m v
  unfolding closed next
  closed_voice v h =
      voice_set_shared (silenced m) v slow_word next silenced_length h (omega arith)
      ∙ voice_same (silenced m) m v v (omega (arith, silenced_length)) (omega (arith, s.size)) (λ j k. silenced_word (20 * v + j) (omega arith))

  pub closed_word : (i : ℕ) → i < sums_word → i ≢ slow_word → get_or (closed m) i 0 ≡ get_or m i 0
  unfolding closed next
  closed_word i h d = get_or-set_other (silenced m) slow_word i next 0 d ∙ silenced_word i h

  pub closed_slow : get_or (closed m) slow_word 0 ≡ (get_or m slow_word 0 + 1) % 8
  unfolding closed next
  closed_slow =
      get_or-set_same (silenced m) slow_word next 0 (omega (arith, silenced_length)) ∙ ap (λ (x : ℕ). (x + 1) % 8) (silenced_word slow_word (omega arith))

  pub closed_sum : (i : ℕ) → i < 12 → get_or (closed m) (sums_word + i) 0 ≡ 0
  unfolding closed next
  closed_sum i h = get_or-set_other (silenced m) slow_word (sums_word + i) next 0 (λ e. omega arith) ∙ silenced_sum i h

  pub silenced_sound : Sound (silenced m)
  unfolding cut
  silenced_sound = record {
    size = silenced_length;
    words = λ i h. cases i sums_word (bit_and (get_or (silenced m) i 0) (bits_of i) ≡ get_or (silenced m) i 0)
        (λ l. rw (silenced_word i l) (s.words i h))
        (λ l. cases i wait_mask_word (bit_and (get_or (silenced m) i 0) (bits_of i) ≡ get_or (silenced m) i 0)
        (λ k. let e : i ≡ sums_word + (i - sums_word) = omega arith in rw e (rw (silenced_sum (i - sums_word) (omega arith)) refl))
        (λ k. let e : i ≡ wait_mask_word = omega arith in rw (e, silenced_mask) (s.words wait_mask_word (lit< tt))));
    vector = rw (silenced_word irqv_word (omega arith)) s.vector;
    mask = silenced_mask ∙ s.mask ∙ sym (same_flags m (silenced m) (λ u k. silenced_word (20 * u + 0) (omega arith)));
  }

  pub sound_closed : Sound (closed m)
  unfolding closed next cut bits_of shared_bits
  sound_closed =
      sound_set slow_word next silenced_sound (omega arith) (omega arith)
      (and_mask next 3 ∙ mod-eq_of_lt (omega arith)) (λ e. absurd (let y : ⊥ = omega arith in y))

-- a word that neither the turns nor the closing touch
pub closed_stays : {memory m m' : List ℕ} {k : ℕ} → Turned memory k m m' → (i : ℕ) → page_word ≤ i → i < sums_word → i ≢ irqv_word → i ≢ slow_word → get_or (closed m') i 0 ≡ get_or m i 0
closed_stays {m' = m'} t i h l d e = closed_word m' t.sound i l e ∙ t.words i h l d

-- ---- the output

sums_length : (m : List ℕ) → length m ≡ record_words → length (take 12 (drop sums_word m)) ≡ 12
sums_length m h = length-take-le 12 (drop sums_word m) (simp length-drop (omega arith))

pub heard_length : (m : List ℕ) → length m ≡ record_words → length (heard m) ≡ 12
unfolding heard
heard_length m h = length-map (take 12 (drop sums_word m)) put_out ∙ sums_length m h

-- the same sums are heard the same
pub heard_same : (m n : List ℕ) → length m ≡ record_words → length n ≡ record_words → ((i : ℕ) → i < 12 → get_or m (sums_word + i) 0 ≡ get_or n (sums_word + i) 0) → heard m ≡ heard n
unfolding heard
heard_same m n h k f = ap (map put_out)
    (ext_get_or 0 (take 12 (drop sums_word m)) (take 12 (drop sums_word n)) (sums_length m h ∙ sym (sums_length n k))
    (λ i l.
    let d : i < 12 = omega (arith, sums_length m h) in
    get_or-take 12 (drop sums_word m) i 0 d ∙ get_or-drop sums_word m i 0 ∙ f i d ∙ sym (get_or-take 12 (drop sums_word n) i 0 d ∙ get_or-drop sums_word n i 0)))
