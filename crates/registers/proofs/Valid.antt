-- What each rule on a register leaves of a valid record is valid.
-- In order: words of a valid record and how great they are (`word_lt`, `cr_lt`, `latch_lt`); the latches and the pot result; writing
-- (`write_sound`); reading (`read_sound`). That each call keeps a record valid is Corollaries. Assumes nothing.
use mathlib.Core.Path.{◌≡◌, refl, sym, ap, ◌∙◌}
use mathlib.Core.Bool.{Bool, true, cond}
use mathlib.Core.List.{List, [], ◌∷◌}
use mathlib.Core.Logic.{◌≢◌}
use Prim.Native.Nat.{ℕ, zero, suc, ◌+◌, ◌-◌, ◌*◌, ◌/◌, ◌%◌, ◌^◌, ◌<◌, ◌≤◌}
use native.Mathlib.Nat.{mod-eq_of_lt}
use native.Mathlib.Omega.{arith}
use lib.Bits.{bit_and, and_mask}
use lib.Dec.{eqb, ltb, ltb→lt}
use lib.ListN.{get_or, set}
use lib.Seq.{get_or-set_same, get_or-set_other}
use borrow.Author.Tests.{ltb-true, lt-ltb, le-ltb}
use Rattle.numbers.proofs.Tests.{either, all_at}
use Rattle.control.specs.Control.{bit_of, flag_of, with_bit, irq_bit}
use Rattle.control.proofs.Bits.{put_small, read_put}
use Rattle.machine.specs.Words.{voice_count, cr_word, page_word, irqv_word, par_word, write_latch_word, read_latch_word, sums_word, no_interrupt, voice_word, shared_bits, bits_of, cut, is_vector, waiting_voices, with_mask, valid, wait_mask_word, record_words}
use Rattle.machine.proofs.Mask.{bit_flag, one_marked, masked_set, masked_after}
use Rattle.machine.proofs.Valid.{Sound, sound, is_valid, in_range, word-le, bits_voice, cut_again, range_set, sound_masked, sound_set}
use Rattle.registers.specs.declared.Register.{Register}
use Rattle.registers.specs.declared.Register.TheVariants.{Word, Sum, Par, Irqv, Nothing}
use Rattle.registers.specs.Registers.{register_of, with_byte, stored, written_to, read_as, acknowledged, side_effect, read_from}
use Rattle.registers.specs.Inside.{Inside}
use Rattle.registers.proofs.Inside.{inside}

-- ---- words that are cut already

-- a number below 2 to the n, in a word that keeps the n lowest bits
cut_low : (i n x : ℕ) → bits_of i ≡ 2 ^ n - 1 → x < 2 ^ n → cut i x ≡ x
unfolding cut
cut_low i n x e h = rw e (and_mask x n ∙ mod-eq_of_lt h)

bits-lt : (i : ℕ) → i < record_words → bits_of i < 2 ^ 32
unfolding bits_of shared_bits
bits-lt i h = ltb→lt (bits_of i) (2 ^ 32) (all_at (λ j. ltb (bits_of j) (2 ^ 32)) record_words tt i h)

pub word_lt : (m : List ℕ) → Sound m → (i : ℕ) → i < record_words → get_or m i 0 < 2 ^ 32
word_lt m s i h = omega (arith, word-le m (in_range s) i h, bits-lt i h)

pub latch_lt : {m : List ℕ} → Sound m → get_or m write_latch_word 0 < 2 ^ 32
latch_lt {m} s = word_lt m s write_latch_word (omega arith)

-- CR of a voice is a word of 16 bits
cr_bits : (v : ℕ) → v < 32 → bits_of (voice_word v cr_word) ≡ 2 ^ 16 - 1
cr_bits v h = bits_voice v 0 h (omega arith)

pub cr_lt : (m : List ℕ) → Sound m → (v : ℕ) → v < 32 → get_or m (voice_word v cr_word) 0 < 65536
cr_lt m s v h = omega (arith, word-le m (in_range s) (voice_word v cr_word) (omega arith), cr_bits v h)

-- ---- the latches, which may hold any 32 bits, and the pot result

-- a store of such a number, in a shared word before the mask that is not the vector
low_sound : {m : List ℕ} (i n x : ℕ) → Sound m → page_word ≤ i → i < wait_mask_word → i ≢ irqv_word → bits_of i ≡ 2 ^ n - 1 → x < 2 ^ n → Sound (set m i x)
low_sound i n x s g h v e l = sound_set i x s g h (cut_low i n x e l) (λ z. absurd (v z))

pub write_latch : {m : List ℕ} (x : ℕ) → Sound m → x < 2 ^ 32 → Sound (set m write_latch_word x)
unfolding bits_of shared_bits
write_latch x s h = low_sound write_latch_word 32 x s (omega arith) (omega arith) (λ z. omega arith) refl h

read_latch : {m : List ℕ} (x : ℕ) → Sound m → x < 2 ^ 32 → Sound (set m read_latch_word x)
unfolding bits_of shared_bits
read_latch x s h = low_sound read_latch_word 32 x s (omega arith) (omega arith) (λ z. omega arith) refl h

pub pot_sound : {m : List ℕ} (p : ℕ) → Sound m → p ≤ 1023 → Sound (set m par_word p)
unfolding bits_of shared_bits
pot_sound p s h = low_sound par_word 10 p s (omega arith) (omega arith) (λ z. omega arith) refl (omega arith)

-- ---- writing

-- a word whose bytes are those of x, but byte k is b
pub byte_put : (k b x r : ℕ) (l : List ℕ) → k < 4 → x < 2 ^ 32 → l ≡ x / 16777216 % 256 ∷ x / 65536 % 256 ∷ x / 256 % 256 ∷ x % 256 ∷ []
    → r ≡ get_or (set l k b) 0 0 * 16777216 + get_or (set l k b) 1 0 * 65536 + get_or (set l k b) 2 0 * 256 + get_or (set l k b) 3 0 → r ≡ with_byte k b x
unfolding with_byte
byte_put zero b x r l h d e q = rw e at q ∙ omega arith
byte_put (suc zero) b x r l h d e q = rw e at q ∙ omega arith
byte_put (suc (suc zero)) b x r l h d e q = rw e at q ∙ omega arith
byte_put (suc (suc (suc zero))) b x r l h d e q = rw e at q ∙ omega arith
byte_put (suc (suc (suc (suc k)))) b x r l h d e q = absurd (omega arith)

pub byte_lt : (k b x : ℕ) → k < 4 → b < 256 → x < 2 ^ 32 → with_byte k b x < 2 ^ 32
unfolding with_byte
byte_lt zero b x h d e = omega arith
byte_lt (suc zero) b x h d e = omega arith
byte_lt (suc (suc zero)) b x h d e = omega arith
byte_lt (suc (suc (suc zero))) b x h d e = omega arith
byte_lt (suc (suc (suc (suc k)))) b x h d e = absurd (omega arith)

pub stored_sound : (m : List ℕ) (register : Register) (x : ℕ) → Sound m → Inside register → Sound (stored m register x)
unfolding stored
stored_sound m (Word i) x s h = sound_masked (range_set i (cut i x) (in_range s) (omega (arith, h.0)) (cut_again i x) (λ e. absurd (h.1 e)))
stored_sound m (Sum i) x s h = sound_set i (cut i x) s (omega (arith, h.0)) h.1 (cut_again i x) (λ e. absurd (let z : ⊥ = omega (arith, h.0) in z))
stored_sound m Par x s h = s
stored_sound m Irqv x s h = s
stored_sound m Nothing x s h = s

pub write_sound : (m : List ℕ) (r k b : ℕ) → Sound m → r < 16 → k < 4 → b < 256 → Sound (written_to m r k b)
unfolding written_to
write_sound m r k b s h d e =
    let latch = with_byte k b (get_or m write_latch_word 0) in
    either Sound (eqb k 3) _ _
    (λ _. write_latch 0 (stored_sound m (register_of (get_or m page_word 0) r) latch s (inside (get_or m page_word 0) r h)) (omega arith))
    (λ _. write_latch latch s (byte_lt k b (get_or m write_latch_word 0) d e (latch_lt s)))

-- ---- reading

value_lt : (m : List ℕ) (register : Register) → Sound m → Inside register → read_as m register < 2 ^ 32
unfolding read_as
value_lt m (Word i) s h = word_lt m s i (omega (arith, h.0))
value_lt m (Sum i) s h = omega arith
value_lt m Par s h = word_lt m s par_word (omega arith)
value_lt m Irqv s h = word_lt m s irqv_word (omega arith)
value_lt m Nothing s h = omega arith

-- a register in the read latch
pub latched : (m : List ℕ) (register : Register) → Sound m → Inside register → Sound (set m read_latch_word (read_as m register))
latched m register s h = read_latch (read_as m register) s (value_lt m register s h)

pub acknowledged_sound : (m : List ℕ) → Sound m → Sound (acknowledged m)
unfolding acknowledged is_vector bits_of shared_bits cut
acknowledged_sound m s =
    let v = get_or m irqv_word 0 in
    let cr = voice_word v cr_word in
    either Sound (ltb v 32) _ _
    (λ t.
    let h = ltb-true v 32 t in
    let x = with_bit irq_bit 0 (get_or m cr 0) in
    sound_masked
    (range_set irqv_word 128
    (range_set cr x (in_range s) (omega arith) (cut_low cr 16 x (cr_bits v h) (put_small irq_bit 0 (get_or m cr 0) (omega arith) (omega arith) (cr_lt m s v h))) (λ z. absurd (let y : ⊥ = omega arith in y)))
    (omega arith) refl (λ _. refl)))
    (λ _. s)

side_effect_sound : (m : List ℕ) (register : Register) → Sound m → Sound (side_effect m register)
unfolding side_effect
side_effect_sound m (Word i) s = s
side_effect_sound m (Sum i) s = s
side_effect_sound m Par s = pot_sound 1023 s (omega arith)
side_effect_sound m Irqv s = acknowledged_sound m s
side_effect_sound m Nothing s = s

pub read_sound : (m : List ℕ) (r k : ℕ) → Sound m → r < 16 → Sound (read_from m r k)
unfolding read_from
read_sound m r k s h =
    let register = register_of (get_or m page_word 0) r in
    either Sound (eqb k 0) _ _
    (λ _. side_effect_sound (set m read_latch_word (read_as m register)) register (latched m register s (inside (get_or m page_word 0) r h)))
    (λ _. s)

-- ---- what the functions leave of a valid record: the same by its test

module _ (m : List ℕ) (v : valid m ≡ true) where
  pub valid_write_latch : (x : ℕ) → x < 2 ^ 32 → valid (set m write_latch_word x) ≡ true
  valid_write_latch x h = is_valid _ (write_latch x (sound m v) h)

  pub valid_read_latch : (x : ℕ) → x < 2 ^ 32 → valid (set m read_latch_word x) ≡ true
  valid_read_latch x h = is_valid _ (read_latch x (sound m v) h)

  pub valid_pot : (p : ℕ) → p ≤ 1023 → valid (set m par_word p) ≡ true
  valid_pot p h = is_valid _ (pot_sound p (sound m v) h)

  pub valid_stored : (n : List ℕ) (i x : ℕ) → i < wait_mask_word → (i ≡ irqv_word → ⊥) → n ≡ with_mask (set m i (cut i x)) → valid n ≡ true
  unfolding stored
  valid_stored n i x h k e = rw e (is_valid _ (stored_sound m (Word i) x (sound m v) (h, k)))

  pub valid_sum : (i x : ℕ) → sums_word ≤ i → i < wait_mask_word → valid (set m i (bit_and x (bits_of i))) ≡ true
  unfolding stored cut
  valid_sum i x h k = is_valid _ (stored_sound m (Sum i) x (sound m v) (h, k))

  pub valid_acknowledged : (n : List ℕ) → n ≡ acknowledged m → valid n ≡ true
  valid_acknowledged n e = rw e (is_valid _ (acknowledged_sound m (sound m v)))

  pub valid_word : (i : ℕ) → i < record_words → get_or m i 0 < 2 ^ 32
  valid_word i h = word_lt m (sound m v) i h

  pub valid_cr : (u : ℕ) → u < 32 → get_or m (voice_word u cr_word) 0 < 65536
  valid_cr u h = cr_lt m (sound m v) u h

-- ---- where two words change together

-- what is stored in a control register makes the mask true but for its voice's flag, which `mark` puts there
pub mark_stored : (m : List ℕ) (i y : ℕ) (b : Bool) → valid m ≡ true → i < page_word → i % 20 ≡ 0 → b ≡ flag_of irq_bit y
    → waiting_voices (set m i y) ≡ with_bit (i / 20) (cond b 1 0) (get_or (set m i y) wait_mask_word 0)
mark_stored m i y b v h k e =
    let s = sound m v in
    let u = i / 20 in
    let at : voice_word u cr_word ≡ i = omega arith in
    one_marked m (set m i y) u (cond b 1 0) s.mask (get_or-set_other m i wait_mask_word y 0 (λ z. omega arith)) (omega arith)
    (λ w l d. get_or-set_other m i (voice_word w cr_word) y 0 (λ z. d (omega arith)))
    (rw at (ap (bit_of irq_bit) (get_or-set_same m i y 0 (omega (arith, s.size))) ∙ bit_flag irq_bit y ∙ ap (λ (c : Bool). cond c 1 0) (sym e)))

-- any other word leaves it true
pub kept_stored : (m : List ℕ) (i y : ℕ) → valid m ≡ true → i < wait_mask_word → (i < page_word → i % 20 ≡ 0 → ⊥) → set m i y ≡ with_mask (set m i y)
kept_stored m i y v h d =
    sym (masked_set m i y (sound m v).mask (λ u l z. d (omega arith) (omega arith)) (λ z. omega arith))

-- the flag of the voice that the vector names is cleared
module _ (m : List ℕ) (u x : ℕ) (h : u < voice_count) (e : x ≡ with_bit irq_bit 0 (get_or m (voice_word u cr_word) 0)) where
  pub mark_cleared : valid m ≡ true → waiting_voices (set m (voice_word u cr_word) x) ≡ with_bit u 0 (get_or (set m (voice_word u cr_word) x) wait_mask_word 0)
  mark_cleared v =
      let s = sound m v in
      let i = voice_word u cr_word in
      one_marked m (set m i x) u 0 s.mask (get_or-set_other m i wait_mask_word x 0 (λ z. omega arith)) h
      (λ w l d. get_or-set_other m i (voice_word w cr_word) x 0 (λ z. d (omega arith)))
      (ap (bit_of irq_bit) (get_or-set_same m i x 0 (omega (arith, s.size)) ∙ e) ∙ read_put irq_bit 0 (get_or m i 0) (omega arith))

  -- the vector is put last, where the definition makes the mask true last
  pub acknowledges : (n : List ℕ) → u ≡ get_or m irqv_word 0 → n ≡ with_mask (set m (voice_word u cr_word) x) → set n irqv_word no_interrupt ≡ acknowledged m
  unfolding acknowledged
  acknowledges n q p =
      let l : get_or m irqv_word 0 < voice_count = omega arith in
      rw (p, ← (masked_after (set m (voice_word u cr_word) x) irqv_word no_interrupt (omega arith) (λ z. omega arith)), e, q, lt-ltb _ _ l) refl

pub acknowledges_none : (m : List ℕ) → voice_count ≤ get_or m irqv_word 0 → m ≡ acknowledged m
unfolding acknowledged
acknowledges_none m h = rw (le-ltb _ _ h) refl
