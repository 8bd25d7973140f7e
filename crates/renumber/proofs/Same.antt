-- Voices that hold the same registers, interrupt flags excepted.
-- In order: such voices are as good as equal; the same word stored in both leaves them so; so does a turn, in which they add the same and miss
-- as many words.
-- Assumes nothing.
use mathlib.Core.Path.{◌≡◌, sym, ap, ◌∙◌}
use mathlib.Core.List.{List}
use Prim.Native.Nat.{ℕ, zero, suc, ◌<◌}
use native.Mathlib.Decide.{ℕ_discrete}
use native.Mathlib.Nat.{not-suc-le-zero}
use native.Mathlib.Omega.{arith}
use lib.Dec.{lit<}
use lib.ListN.{length, get_or, set}
use lib.Seq.{get_or-set_same, get_or-set_other}
use Rattle.control.specs.Control.{bit_of}
use Rattle.control.proofs.Agree.{channel_agrees}
use Rattle.voice.specs.Voice.{Voice, voice_of, words_of}
use Rattle.voice.specs.Missed.{missed_by}
use Rattle.voice.proofs.Flag.{beside_CR, ButFlag, same_turn, same_missed}
use Rattle.frame.proofs.Leaves.{words_after, portion, share}
use Rattle.renumber.specs.Demand.{SameVoice}

-- ---- as good as equal

pub same_equal : {w x : List ℕ} → w ≡ x → SameVoice w x
same_equal e = record { control = λ b d. ap (λ (y : List ℕ). bit_of b (get_or y 0 0)) e; others = λ j l k. ap (λ (y : List ℕ). get_or y j 0) e }

pub same_back : {w x : List ℕ} → SameVoice w x → SameVoice x w
same_back h = record { control = λ b d. sym (h.control b d); others = λ j l k. sym (h.others j l k) }

pub same_then : {w x y : List ℕ} → SameVoice w x → SameVoice x y → SameVoice w y
same_then h k = record { control = λ b d. h.control b d ∙ k.control b d; others = λ j l q. h.others j l q ∙ k.others j l q }

-- ---- a store

pub same_set : (w x : List ℕ) (j y : ℕ) → length w ≡ 20 → length x ≡ 20 → SameVoice w x → SameVoice (set w j y) (set x j y)
same_set w x j y a b s = record {
  control = λ c d. at 0 (lit< tt) (ℕ_discrete 0 j) (bit_of c) (s.control c d);
  others = λ i l k. at i k (ℕ_discrete i j) (λ n. n) (s.others i l k);
}
  where
    -- what is read of word i is the same after the store if it was before
    at : (i : ℕ) → i < 20 → Dec (i ≡ j) → (f : ℕ → ℕ) → f (get_or w i 0) ≡ f (get_or x i 0) → f (get_or (set w j y) i 0) ≡ f (get_or (set x j y) i 0)
    at i h (yes e) f q = rw (e, get_or-set_same w j y 0 (omega arith), get_or-set_same x j y 0 (omega arith))
    at i h (no e) f q = rw (get_or-set_other w j i y 0 e, get_or-set_other x j i y 0 e) q

-- ---- a turn

by_registers : {w x : List ℕ} → SameVoice w x → ButFlag (voice_of w) (voice_of x)
unfolding beside_CR
by_registers {w} {x} h = record {
  cr = h.control;
  others = λ i.
      record {
        cr = 0;
        fc = h.others 1 (lit< tt) (lit< tt) i;
        lvol = h.others 2 (lit< tt) (lit< tt) i;
        lvramp = h.others 3 (lit< tt) (lit< tt) i;
        rvol = h.others 4 (lit< tt) (lit< tt) i;
        rvramp = h.others 5 (lit< tt) (lit< tt) i;
        ecount = h.others 6 (lit< tt) (lit< tt) i;
        k2 = h.others 7 (lit< tt) (lit< tt) i;
        k2ramp = h.others 8 (lit< tt) (lit< tt) i;
        k1 = h.others 9 (lit< tt) (lit< tt) i;
        k1ramp = h.others 10 (lit< tt) (lit< tt) i;
        start = h.others 11 (lit< tt) (lit< tt) i;
        end = h.others 12 (lit< tt) (lit< tt) i;
        accum = h.others 13 (lit< tt) (lit< tt) i;
        o4n1 = h.others 14 (lit< tt) (lit< tt) i;
        o3n1 = h.others 15 (lit< tt) (lit< tt) i;
        o3n2 = h.others 16 (lit< tt) (lit< tt) i;
        o2n1 = h.others 17 (lit< tt) (lit< tt) i;
        o2n2 = h.others 18 (lit< tt) (lit< tt) i;
        o1n1 = h.others 19 (lit< tt) (lit< tt) i;
      };
}

by_words : {v w : Voice} → ButFlag v w → SameVoice (words_of v) (words_of w)
unfolding beside_CR words_of
by_words {v} {w} h = record { control = h.cr; others = at }
  where
    at : (j : ℕ) → 0 < j → j < 20 → get_or (words_of v) j 0 ≡ get_or (words_of w) j 0
    at zero l k = absurd (not-suc-le-zero l)
    at (suc j) l k = ap (λ (z : Voice). get_or (words_of z) (suc j) 0) h.others

module _ (memory : List ℕ) (slow : ℕ) {w x : List ℕ} (h : SameVoice w x) where
  pub same_after : SameVoice (words_after memory slow w) (words_after memory slow x)
  unfolding words_after
  same_after = by_words (same_turn (voice_of w) (voice_of x) (by_registers h) memory slow).voice

  pub same_share : (i : ℕ) → share memory slow w i ≡ share memory slow x i
  unfolding share
  same_share i =
      let t = same_turn (voice_of w) (voice_of x) (by_registers h) memory slow in
      let c = channel_agrees (get_or w 0 0) (get_or x 0 0) h.control in
      λ k. portion (c k) (t.left k) (t.right k) i

pub same_missing : (memory : List ℕ) {w x : List ℕ} → SameVoice w x → missed_by memory (voice_of w) ≡ missed_by memory (voice_of x)
same_missing memory {w} {x} h = same_missed (voice_of w) (voice_of x) (by_registers h) memory
