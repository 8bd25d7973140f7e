-- The turn as the code has it: the voice's part of the record is lent to its turn and put back, what the turn adds is added, and then the mask
-- follows its flag.
-- In order: nothing added; the mask made true before or after something is added; the record with the part put back is in range; what is added is the
-- turn's; the mask lacks the voice's flag at most; the turn. Assumes nothing.
use mathlib.Core.Path.{◌≡◌, refl, sym, ap, ◌∙◌}
use mathlib.Core.Bool.{false, cond}
use mathlib.Core.List.{List, ◌++◌}
use mathlib.Core.Logic.{◌≢◌}
use Prim.Native.Nat.{ℕ, ◌+◌, ◌*◌, ◌%◌, ◌<◌, ◌≤◌}
use native.Mathlib.Omega.{arith}
use borrow.Author.Tests.{ltb-true}
use lib.Dec.{ltb, lit<, lit≤}
use lib.IntN.{ℤ, pos}
use lib.ListN.{length, get_or, set, take, drop}
use lib.Seq.{set-get_or}
use Rattle.numbers.specs.Numbers.{floor_mod, word}
use Rattle.numbers.proofs.Tests.{either, split, neither}
use Rattle.control.specs.Control.{bit_of, flag_of, with_bit, channel_of, runs, irq_bit}
use Rattle.control.proofs.Bits.{put_again, flag_bit_lem, no_flag_bit}
use Rattle.channel.specs.Channel.{mixed}
use Rattle.channel.proofs.Laws.{mixed_is}
use Rattle.machine.specs.Words.{cr_word, slow_word, sums_word, wait_mask_word, voice_word, waiting_voices, with_mask}
use Rattle.machine.specs.Voices.{voice_at, put_voice}
use Rattle.machine.proofs.Parts.{voice_word_lem, put_in, put_out_lem}
use Rattle.machine.proofs.Mask.{bit_waits, one_marked, masked_word, masked_after}
use Rattle.machine.proofs.Valid.{Sound, InRange}
use Rattle.voice.specs.Voice.{Turn, voice_of, words_of}
use Rattle.voice.specs.Turn.{stopped_turn, turn_of}
use Rattle.voice.specs.declared.Addend.{Addend}
use Rattle.voice.specs.Takes.{TakesTurn}
use Rattle.voice.proofs.Laws.{turn_stands}
use Rattle.voice.proofs.Flag.{turn_flag}
use Rattle.frame.specs.Frame.{added_to, added, signalled, turn_at}
use Rattle.frame.proofs.Steps.{added_none}
use Rattle.frame.proofs.Keeps.{sum_small, words_length, turn_range}
use Rattle.frame.proofs.Leaves.{added_word}

-- ---- nothing added

added_to_nothing : (m : List ℕ) (i : ℕ) → InRange m → i < 12 → added_to m (sums_word + i) (pos 0) ≡ m
unfolding added_to word floor_mod
added_to_nothing m i s h =
    let e : (get_or m (sums_word + i) 0 + 0) % 8388608 ≡ get_or m (sums_word + i) 0 = omega (arith, sum_small m s i h) in
    ap (set m (sums_word + i)) (mixed_is (get_or m (sums_word + i) 0) 0 ∙ e) ∙ set-get_or m (sums_word + i) 0

pub added_nothing : (m : List ℕ) (c : ℕ) → InRange m → added m c (pos 0) (pos 0) ≡ m
unfolding added
added_nothing m c s = either (λ r. r ≡ m) (ltb c 6) _ _
    (λ t.
    let h = ltb-true c 6 t in
    let e : sums_word + 2 * c + 1 ≡ sums_word + (2 * c + 1) = omega arith in
    rw (added_to_nothing m (2 * c) s (omega arith), e) (added_to_nothing m (2 * c + 1) s (omega arith)))
    (λ t. refl)

-- ---- the mask

masked_added_to : (m : List ℕ) (i : ℕ) (z : ℤ) → i < 12 → with_mask (added_to m (sums_word + i) z) ≡ added_to (with_mask m) (sums_word + i) z
unfolding added_to
masked_added_to m i z h =
    masked_after m (sums_word + i) (mixed (get_or m (sums_word + i) 0) (word 23 z)) (omega arith) (λ e. omega arith)
    ∙ ap (λ (x : ℕ). set (with_mask m) (sums_word + i) (mixed x (word 23 z))) (sym (masked_word m (sums_word + i) (λ e. omega arith)))

masked_added : (m : List ℕ) (c : ℕ) (left right : ℤ) → with_mask (added m c left right) ≡ added (with_mask m) c left right
unfolding added
masked_added m c left right = split _ (ltb c 6)
    (λ t.
    let h = ltb-true c 6 t in
    let e : sums_word + 2 * c + 1 ≡ sums_word + (2 * c + 1) = omega arith in
    rw (t, e)
    (masked_added_to (added_to m (sums_word + 2 * c) left) (2 * c + 1) right (omega arith)
    ∙ ap (λ (n : List ℕ). added_to n (sums_word + (2 * c + 1)) right) (masked_added_to m (2 * c) left (omega arith))))
    (λ t. rw t)

-- ---- the part put back

module _ (memory m : List ℕ) (v k : ℕ) (after : List ℕ) (a : Addend) (e : k ≡ 20) (p : TakesTurn memory (get_or m slow_word 0) (take k (drop (20 * v) m)) after a)
    (s : Sound m) (h : v < 32) where
  abbrev back : List ℕ
  back = take (20 * v) m ++ (after ++ drop k (drop (20 * v) m))

  abbrev result : Turn
  result = turn_of memory (get_or m slow_word 0) (voice_of (voice_at m v))

  back_is : back ≡ put_voice m v (words_of result.voice)
  unfolding voice_at put_voice
  back_is = rw (p.words, e)

  pub back_range : InRange back
  back_range = rw back_is (turn_range memory v s h)

  -- the addend is the turn's, of the voice's own words
  abbrev part : ℕ → List ℕ
  part n = take n (drop (20 * v) m)

  channel_is : a.channel ≡ cond (runs (get_or (voice_at m v) cr_word 0)) (channel_of (get_or (voice_at m v) cr_word 0)) 7
  unfolding voice_at
  channel_is = p.channel ∙ ap (λ (n : ℕ). cond (runs (get_or (part n) cr_word 0)) (channel_of (get_or (part n) cr_word 0)) 7) e

  left_is : a.left ≡ result.left
  unfolding voice_at
  left_is = p.left ∙ ap (λ (n : ℕ). (turn_of memory (get_or m slow_word 0) (voice_of (part n))).left) e

  right_is : a.right ≡ result.right
  unfolding voice_at
  right_is = p.right ∙ ap (λ (n : ℕ). (turn_of memory (get_or m slow_word 0) (voice_of (part n))).right) e

  -- a stopped voice says that it adds nowhere, and adds nothing
  back_added : added back a.channel a.left a.right ≡ added back (channel_of (get_or (voice_at m v) cr_word 0)) result.left result.right
  unfolding stopped_turn
  back_added = rw (channel_is, left_is, right_is) (split _ (runs (get_or (voice_at m v) cr_word 0))
      (λ t. rw t)
      (λ t.
      rw (t, turn_stands memory (get_or m slow_word 0) (voice_of (voice_at m v)) t)
      (added_none back 7 (pos 0) (pos 0) (lit≤ tt) ∙ sym (added_nothing back (channel_of (get_or (voice_at m v) cr_word 0)) back_range))))

  fits : 20 * v + 20 ≤ length m
  fits = omega (arith, s.size)

  back_control : get_or (added back a.channel a.left a.right) (voice_word v cr_word) 0 ≡ result.voice.cr
  unfolding words_of
  back_control =
      added_word back a.channel a.left a.right (voice_word v cr_word) (λ c b q. omega arith) ∙ ap (λ (l : List ℕ). get_or l (voice_word v cr_word) 0) back_is
      ∙ put_in m v (words_of result.voice) (words_length result.voice) fits cr_word (lit< tt)

  -- a word that is none of the voice's and no sum
  back_word : (i : ℕ) → ((c : ℕ) → c < 12 → i ≢ sums_word + c) → (20 * v ≤ i → i < 20 * v + 20 → ⊥) → get_or (added back a.channel a.left a.right) i 0 ≡ get_or m i 0
  back_word i n d =
      added_word back a.channel a.left a.right i n ∙ ap (λ (l : List ℕ). get_or l i 0) back_is
      ∙ put_out_lem m v (words_of result.voice) (words_length result.voice) fits i d

  back_mask : get_or (added back a.channel a.left a.right) wait_mask_word 0 ≡ get_or m wait_mask_word 0
  back_mask = back_word wait_mask_word (λ c l q. omega arith) (λ b d. omega arith)

  -- a flag that is not set after the turn was not set before it, so the mask does not have it
  not_waiting : flag_of irq_bit result.voice.cr ≡ false → bit_of v (get_or m wait_mask_word 0) ≡ 0
  not_waiting f =
      let b = (neither _ _ (sym (turn_flag memory (get_or m slow_word 0) (voice_of (voice_at m v))) ∙ f)).0 in
      ap (bit_of v) s.mask ∙ bit_waits m v h ∙ sym (ap (bit_of irq_bit) (voice_word_lem m v cr_word (lit< tt))) ∙ no_flag_bit irq_bit (get_or (voice_at m v) cr_word 0) b

  pub mask_lacks : let n = added back a.channel a.left a.right in
      let cr = get_or n (voice_word v cr_word) 0 in
      waiting_voices n ≡ cond (flag_of irq_bit cr) (with_bit v 1 (get_or n wait_mask_word 0)) (get_or n wait_mask_word 0)
  mask_lacks =
      let n = added back a.channel a.left a.right in
      let cr = get_or n (voice_word v cr_word) 0 in
      let W = get_or n wait_mask_word 0 in
      let e = one_marked m n v (bit_of irq_bit cr) s.mask back_mask h (λ u l d. back_word (voice_word u cr_word) (λ c b q. omega arith) (λ x y. d (omega arith))) refl in
      split _ (flag_of irq_bit cr)
      (λ t. rw t (e ∙ ap (λ (b : ℕ). with_bit v b W) (flag_bit_lem irq_bit cr t)))
      (λ t. rw t (e ∙ put_again v (bit_of irq_bit cr) W
      (ap (bit_of v) back_mask ∙ not_waiting (sym (ap (flag_of irq_bit) back_control) ∙ t) ∙ sym (no_flag_bit irq_bit cr t))))

  pub turn_taken : signalled (with_mask (added back a.channel a.left a.right)) v (get_or (added back a.channel a.left a.right) (voice_word v cr_word) 0)
      ≡ turn_at memory v m
  unfolding turn_at
  turn_taken = rw (back_control, back_added, masked_added, back_is)
