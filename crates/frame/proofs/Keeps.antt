-- A turn keeps a valid record valid.
-- In order: the ranges of a valid record's voices; a voice's words after a turn; the parts of a turn on the record; the turn, and the turns; a
-- whole frame's turns. What they leave, word by word, and that the closing keeps a record valid too, is Leaves. Assumes nothing.
use mathlib.Core.Path.{◌≡◌, refl, subst, ◌∙◌}
use mathlib.Core.Bool.{Bool, true, ◌&&◌}
use mathlib.Core.List.{List, [], ◌∷◌}
use Prim.Native.Nat.{ℕ, zero, suc, ◌+◌, ◌-◌, ◌*◌, ◌^◌, ◌<◌, ◌≤◌}
use native.Mathlib.Nat.{mod-eq_of_lt, mod-lt}
use native.Mathlib.Omega.{arith}
use borrow.Author.Tests.{lt-ltb, ltb-true}
use lib.Bits.{bit_and, and_mask, and_le_r}
use lib.Dec.{T, eqb, ltb, eqb→eq, lit<, lit≤}
use lib.IntN.{ℤ}
use lib.ListN.{length, get_or}
use Rattle.numbers.specs.Numbers.{word}
use Rattle.numbers.proofs.Tests.{either, all, all_at}
use Rattle.control.specs.Control.{flag_of, irq_bit}
use Rattle.channel.specs.Channel.{mixed}
use Rattle.channel.proofs.Laws.{mixed_is}
use Rattle.machine.specs.Words.{voice_bits, shared_bits, bits_of, cut, is_vector, actv_word, irqv_word, slow_word, sums_word}
use Rattle.machine.specs.Voices.{voice_at, put_voice}
use Rattle.machine.proofs.Valid.{Sound, InRange, in_range, range_put, range_voice, sound_masked, sound_set, word-le}
use Rattle.voice.specs.Turn.{turn_of}
use Rattle.voice.specs.Ranges.{Ranges}
use Rattle.voice.specs.Voice.{Voice, voice_of, words_of}
use Rattle.voice.proofs.Keeps.{Places, Follows, turn_follows}
use Rattle.frame.specs.Frame.{added_to, added, signalled, turn_at, turns, played}

-- ---- the voices of a valid record

-- words that have only bits that a voice's words keep
abbrev pub CutVoice : List ℕ → Type 0
CutVoice w = (j : ℕ) → j < 20 → bit_and (get_or w j 0) (get_or voice_bits j 0) ≡ get_or w j 0

at_most : (w : List ℕ) (j b : ℕ) → CutVoice w → j < 20 → get_or voice_bits j 0 ≡ b → get_or w j 0 ≤ b
at_most w j b f h e = subst (λ (x : ℕ). x ≤ b) (f j h) (subst (λ (k : ℕ). bit_and (get_or w j 0) (get_or voice_bits j 0) ≤ k) e (and_le_r (get_or w j 0) (get_or voice_bits j 0)))

pub ranges_of : (w : List ℕ) → CutVoice w → Ranges (voice_of w)
ranges_of w f = record {
  cr = omega (arith, at_most w 0 65535 f (lit< tt) refl);
  lvol = omega (arith, at_most w 2 65535 f (lit< tt) refl);
  rvol = omega (arith, at_most w 4 65535 f (lit< tt) refl);
  ecount = omega (arith, at_most w 6 511 f (lit< tt) refl);
  k2 = omega (arith, at_most w 7 65535 f (lit< tt) refl);
  k1 = omega (arith, at_most w 9 65535 f (lit< tt) refl);
  o4n1 = omega (arith, at_most w 14 262143 f (lit< tt) refl);
  o3n1 = omega (arith, at_most w 15 262143 f (lit< tt) refl);
  o3n2 = omega (arith, at_most w 16 262143 f (lit< tt) refl);
  o2n1 = omega (arith, at_most w 17 262143 f (lit< tt) refl);
  o2n2 = omega (arith, at_most w 18 262143 f (lit< tt) refl);
  o1n1 = omega (arith, at_most w 19 262143 f (lit< tt) refl);
}

pub places_of : (w : List ℕ) → CutVoice w → Places (voice_of w)
places_of w f = record {
  start = omega (arith, at_most w 11 4294965248 f (lit< tt) refl);
  end = omega (arith, at_most w 12 4294967168 f (lit< tt) refl);
  accum = omega (arith, at_most w 13 4294967295 f (lit< tt) refl);
}

-- ---- a voice's words after a turn

-- each word of w has only bits that its entry in k keeps, word by word
abbrev EachCut : List ℕ → List ℕ → Type 0
EachCut [] [] = Unit {0}
EachCut [] (k ∷ ks) = ⊥
EachCut (x ∷ w) [] = ⊥
EachCut (x ∷ w) (k ∷ ks) = (bit_and x k ≡ x) × EachCut w ks

each_at : (w ks : List ℕ) → EachCut w ks → (j : ℕ) → bit_and (get_or w j 0) (get_or ks j 0) ≡ get_or w j 0
each_at [] [] f j = refl
each_at [] (k ∷ ks) f j = absurd f
each_at (x ∷ w) [] f j = absurd f
each_at (x ∷ w) (k ∷ ks) f zero = f.0
each_at (x ∷ w) (k ∷ ks) f (suc j) = each_at w ks f.1 j

-- a number of n bits is cut to them already
small_cut : (n x : ℕ) → x < 2 ^ n → bit_and x (2 ^ n - 1) ≡ x
small_cut n x h = and_mask x n ∙ mod-eq_of_lt h

pub words_length : (v : Voice) → length (words_of v) ≡ 20
unfolding words_of
words_length v = refl

follows_cut : (w : List ℕ) (v : Voice) → CutVoice w → Follows (voice_of w) v → CutVoice (words_of v)
unfolding words_of
follows_cut w v f h j l =
    let r = h.ranges in
    each_at (words_of v) voice_bits (
      small_cut 16 _ r.cr,
      (
        rw h.fc (f 1 (lit< tt)),
        (
          small_cut 16 _ r.lvol,
          (
            rw h.lvramp (f 3 (lit< tt)),
            (
              small_cut 16 _ r.rvol,
              (
                rw h.rvramp (f 5 (lit< tt)),
                (
                  small_cut 9 _ r.ecount,
                  (
                    small_cut 16 _ r.k2,
                    (
                      rw h.k2ramp (f 8 (lit< tt)),
                      (
                        small_cut 16 _ r.k1,
                        (
                          rw h.k1ramp (f 10 (lit< tt)),
                          (
                            rw h.start (f 11 (lit< tt)),
                            (
                              rw h.end (f 12 (lit< tt)),
                              (
                                small_cut 32 _ h.accum,
                                (
                                  small_cut 18 _ r.o4n1,
                                  (
                                    small_cut 18 _ r.o3n1,
                                    (
                                      small_cut 18 _ r.o3n2,
                                      (
                                        small_cut 18 _ r.o2n1,
                                        (
                                          small_cut 18 _ r.o2n2,
                                          (
                                            small_cut 18 _ r.o1n1,
                                            tt,
                                          ),
                                        ),
                                      ),
                                    ),
                                  ),
                                ),
                              ),
                            ),
                          ),
                        ),
                      ),
                    ),
                  ),
                ),
              ),
            ),
          ),
        ),
      ),
    ) j

pub turn_cut : (memory : List ℕ) (slow : ℕ) (w : List ℕ) → CutVoice w → CutVoice (words_of (turn_of memory slow (voice_of w)).voice)
turn_cut memory slow w f = follows_cut w (turn_of memory slow (voice_of w)).voice f (turn_follows memory slow (voice_of w) (ranges_of w f) (places_of w f))

-- ---- the parts of a turn on the record

is_vector_lem : (v : ℕ) → v < 32 → is_vector v ≡ true
unfolding is_vector
is_vector_lem v h = rw (lt-ltb v 32 h)

sum-bits : ℕ → Bool
sum-bits c = eqb (bits_of (sums_word + c)) 8388607

all_sum_bits : T (all sum-bits 12)
unfolding sum-bits bits_of shared_bits
all_sum_bits = tt

bits-sum : (c : ℕ) → c < 12 → bits_of (sums_word + c) ≡ 8388607
unfolding sum-bits
bits-sum c h = eqb→eq (bits_of (sums_word + c)) 8388607 (all_at sum-bits 12 all_sum_bits c h)

-- a sum has 23 bits
pub sum_small : (m : List ℕ) → InRange m → (c : ℕ) → c < 12 → get_or m (sums_word + c) 0 < 8388608
sum_small m s c h = omega (arith, subst (λ (b : ℕ). get_or m (sums_word + c) 0 ≤ b) (bits-sum c h) (word-le m s (sums_word + c) (omega arith)))

mixed_small : (a b : ℕ) → mixed a b < 8388608
mixed_small a b = rw (mixed_is a b) (mod-lt (a + b) (lit< tt))

pub sound_added_to : {m : List ℕ} (c : ℕ) (z : ℤ) → Sound m → c < 12 → Sound (added_to m (sums_word + c) z)
unfolding added_to cut
sound_added_to {m} c z s h =
    sound_set (sums_word + c) _ s (omega arith) (omega arith) (rw (bits-sum c h) (small_cut 23 _ (mixed_small (get_or m (sums_word + c) 0) (word 23 z)))) (λ e. absurd (let y : ⊥ = omega arith in y))

pub sound_added : {m : List ℕ} (c : ℕ) (left right : ℤ) → Sound m → Sound (added m c left right)
unfolding added
sound_added {m} c left right s = either Sound (ltb c 6) _ _
    (λ t.
    let h = ltb-true c 6 t in
    let e : sums_word + 2 * c + 1 ≡ sums_word + (2 * c + 1) = omega arith in
    rw e (sound_added_to (2 * c + 1) right (sound_added_to (2 * c) left s (omega arith)) (omega arith)))
    (λ t. s)

pub sound_signalled : {m : List ℕ} (v CR : ℕ) → Sound m → v < 32 → Sound (signalled m v CR)
unfolding signalled cut bits_of shared_bits
sound_signalled {m} v CR s h = either Sound (flag_of irq_bit CR && eqb (get_or m irqv_word 0) 128) _ _
    (λ t. sound_set irqv_word v s (lit≤ tt) (lit< tt) (small_cut 8 v (omega arith)) (λ e. is_vector_lem v h))
    (λ t. s)

-- ---- the turn, and the turns

-- the voice's new words put into the record leave it in range
pub turn_range : (memory : List ℕ) (v : ℕ) {m : List ℕ} → Sound m → v < 32 → InRange (put_voice m v (words_of (turn_of memory (get_or m slow_word 0) (voice_of (voice_at m v))).voice))
turn_range memory v {m} s h =
    let t = turn_of memory (get_or m slow_word 0) (voice_of (voice_at m v)) in
    range_put v (words_of t.voice) (in_range s) h (words_length t.voice)
    (turn_cut memory (get_or m slow_word 0) (voice_at m v) (λ j k. range_voice m (in_range s) v j h k))

pub sound_turn : (memory : List ℕ) (v : ℕ) {m : List ℕ} → Sound m → v < 32 → Sound (turn_at memory v m)
unfolding turn_at
sound_turn memory v s h = sound_signalled v _ (sound_added _ _ _ (sound_masked (turn_range memory v s h))) h

pub sound_turns : (memory : List ℕ) (n : ℕ) {m : List ℕ} → Sound m → n ≤ 32 → Sound (turns memory n m)
unfolding turns
sound_turns memory zero s h = s
sound_turns memory (suc n) {m} s h = sound_turn memory n (sound_turns memory n s (omega arith)) h

-- ---- a whole frame's turns

pub active_le : (m : List ℕ) → Sound m → get_or m actv_word 0 ≤ 31
unfolding bits_of shared_bits
active_le m s = word-le m (in_range s) actv_word (lit< tt)

pub sound_played : (memory : List ℕ) {m : List ℕ} → Sound m → Sound (played memory m)
unfolding played
sound_played memory {m} s = sound_turns memory (get_or m actv_word 0 + 1) s (omega (arith, active_le m s))
