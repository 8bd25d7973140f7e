-- The parts of a turn by their tests, and a word of the record after a sum. What they leave word by word is Leaves. Assumes nothing.
use mathlib.Core.Path.{◌≡◌, sym, ◌∙◌}
use mathlib.Core.Bool.{true, false, cond}
use mathlib.Core.List.{List}
use mathlib.Core.Logic.{◌≢◌}
use Prim.Native.Nat.{ℕ, ◌+◌, ◌*◌, ◌<◌, ◌≤◌}
use borrow.Author.Tests.{eq-eqb, ne_eqb, lt-ltb, le-ltb}
use lib.IntN.{ℤ}
use lib.ListN.{length, get_or, set, length-set}
use lib.Seq.{get_or-set_other}
use Rattle.numbers.specs.Numbers.{word}
use Rattle.numbers.proofs.Tests.{split}
use Rattle.control.specs.Control.{flag_of, with_bit, irq_bit}
use Rattle.channel.specs.Channel.{mixed}
use Rattle.machine.specs.Words.{irqv_word, sums_word, wait_mask_word, waiting_voices, with_mask}
use Rattle.machine.proofs.Mask.{masked_same}
use Rattle.frame.specs.Frame.{added_to, added, signalled}

-- ---- a channel

module _ (m : List ℕ) (c : ℕ) (left right : ℤ) where
  pub added_in : c < 6 → added m c left right ≡ added_to (added_to m (sums_word + 2 * c) left) (sums_word + 2 * c + 1) right
  unfolding added
  added_in h = rw (lt-ltb c 6 h)

  pub added_none : 6 ≤ c → added m c left right ≡ m
  unfolding added
  added_none h = rw (le-ltb c 6 h)

pub added_to-length : (m : List ℕ) (i : ℕ) (z : ℤ) → length (added_to m i z) ≡ length m
unfolding added_to
added_to-length m i z = length-set m i (mixed (get_or m i 0) (word 23 z))

pub added_to_other : (m : List ℕ) (i j : ℕ) (z : ℤ) → j ≢ i → get_or (added_to m i z) j 0 ≡ get_or m j 0
unfolding added_to
added_to_other m i j z h = get_or-set_other m i j (mixed (get_or m i 0) (word 23 z)) 0 h

-- ---- the interrupt step

module _ (m : List ℕ) (v CR : ℕ) where
  pub signal_enters : flag_of irq_bit CR ≡ true → get_or m irqv_word 0 ≡ 128 → signalled m v CR ≡ set m irqv_word v
  unfolding signalled
  signal_enters f h = rw (f, eq-eqb (get_or m irqv_word 0) 128 h)

  pub signal_occupied : (get_or m irqv_word 0 ≡ 128 → ⊥) → signalled m v CR ≡ m
  unfolding signalled
  signal_occupied h = split (signalled m v CR ≡ m) (flag_of irq_bit CR) (λ t. rw (t, ne_eqb (get_or m irqv_word 0) 128 h)) (λ t. rw t)

  pub signal_none : flag_of irq_bit CR ≡ false → signalled m v CR ≡ m
  unfolding signalled
  signal_none f = rw f

-- the mask was true already of a voice that does not wait
pub signal_quiet : (m : List ℕ) (v CR : ℕ) → flag_of irq_bit CR ≡ false
    → waiting_voices m ≡ cond (flag_of irq_bit CR) (with_bit v 1 (get_or m wait_mask_word 0)) (get_or m wait_mask_word 0) → signalled (with_mask m) v CR ≡ m
signal_quiet m v CR f h = signal_none (with_mask m) v CR f ∙ masked_same m (sym (rw f at h))
