-- The calls between two frames, on one machine: each voice gets its own writes, in their order, and nothing else changes that a match speaks
-- of; and the latch has the bytes of a write that is begun.
-- In order: a voice after its writes; `Moved`, a machine after some writes; a word that no match speaks of; a write of a voice; reads, pot
-- results and refused writes; bytes of a write; the calls. What a byte written or read leaves of any record is `registers/proofs/Writing` and
-- `Reading`. Assumes nothing.
use mathlib.Core.Path.{◌≡◌, refl, sym, ap, ◌∙◌}
use mathlib.Core.Logic.{◌≢◌}
use mathlib.Core.Bool.{false}
use mathlib.Core.List.{List, [], ◌∷◌, ◌++◌}
use Prim.Native.Nat.{ℕ, ◌+◌, ◌*◌, ◌^◌, ◌≤◌, ◌<◌}
use native.Mathlib.Decide.{ℕ_discrete}
use native.Mathlib.Nat.{zero-add}
use native.Mathlib.Omega.{arith}
use lib.Dec.{eqb, lit<, lit≤}
use lib.ListN.{length, get_or, set, length-set}
use lib.Seq.{get_or-set_same, get_or-set_other}
use borrow.Author.Tests.{eq-eqb, ne_eqb}
use Rattle.numbers.proofs.Tests.{split, cases}
use Rattle.answer.specs.Answer.{is_done}
use Rattle.machine.specs.Words.{page_word, par_word, actv_word, slow_word, write_latch_word, sums_word, voice_word, cut, with_mask}
use Rattle.machine.specs.Voices.{voice_at}
use Rattle.machine.proofs.Parts.{voice_word_lem, voice_length, voice_same, voice_set, voice_set_out}
use Rattle.machine.proofs.Valid.{Sound, in_range, sound, is_valid, cut_again, cut_voice, range_set, sound_masked, sound_set}
use Rattle.machine.proofs.Mask.{masked_word, masked_voice}
use Rattle.registers.specs.Registers.{register_of, with_byte}
use Rattle.registers.specs.declared.Register.TheVariants.{Word}
use Rattle.registers.specs.Access.{write_record, read_record, pot_record}
use Rattle.registers.proofs.Named.{page_named}
use Rattle.registers.proofs.Valid.{latch_lt, write_latch, byte_lt}
use Rattle.registers.proofs.Writing.{top_of, top_none, top_next, top_last, byte_written, last_written, shared_written}
use Rattle.registers.proofs.Reading.{read_keeps, read_shared, read_flag}
use Rattle.registers.proofs.Corollaries.{read_valid, pot_valid, write_refused, pot_keeps}
use Rattle.calls.specs.Calls.{Call, Write, Read, SetPot, answer_to, after, run}
use Rattle.renumber.specs.Demand.{SameVoice, Put, of_voice, Phase, idle, begun, Between, nothing, reading, potting, asking, refused, paging, first, next, last}
use Rattle.renumber.proofs.Same.{same_equal, same_then, same_set}

-- ---- a voice after its writes

unfoldable pub puts : List (ℕ × ℕ) → List ℕ → List ℕ
puts [] w = w
puts (p ∷ ps) w = puts ps (set w p.0 (cut p.0 p.1))

pub puts_same : (ps : List (ℕ × ℕ)) (w x : List ℕ) → length w ≡ 20 → length x ≡ 20 → SameVoice w x → SameVoice (puts ps w) (puts ps x)
unfolding puts
puts_same [] w x a b h = h
puts_same (p ∷ ps) w x a b h =
    let y = cut p.0 p.1 in
    puts_same ps (set w p.0 y) (set x p.0 y) (length-set w p.0 y ∙ a) (length-set x p.0 y ∙ b) (same_set w x p.0 y a b h)

-- some writes and then others
puts_both : (v : ℕ) (ps qs : List Put) (w : List ℕ) → puts (of_voice v (ps ++ qs)) w ≡ puts (of_voice v qs) (puts (of_voice v ps) w)
unfolding puts
puts_both v [] qs w = refl
puts_both v (p ∷ ps) qs w = split _ (eqb v p.voice)
    (λ t. rw t (puts_both v ps qs _))
    (λ t. rw t (puts_both v ps qs w))

-- ---- a machine after some writes

-- from m to m' each voice got its writes of ps, and all else that a match speaks of stays
pub record Moved (m : List ℕ) (ps : List Put) (m' : List ℕ) : Type 0 where
  pub sound : Sound m'
  pub voices : (v : ℕ) → v < 32 → SameVoice (voice_at m' v) (puts (of_voice v ps) (voice_at m v))
  pub active : get_or m' actv_word 0 ≡ get_or m actv_word 0
  pub slow : get_or m' slow_word 0 ≡ get_or m slow_word 0
  pub sums : (c : ℕ) → c < 12 → get_or m' (sums_word + c) 0 ≡ get_or m (sums_word + c) 0

pub voice_size : {m : List ℕ} (v : ℕ) → Sound m → v < 32 → length (voice_at m v) ≡ 20
voice_size {m} v s h = voice_length m v (omega (arith, s.size))

puts_length : (ps : List (ℕ × ℕ)) (w : List ℕ) → length (puts ps w) ≡ length w
unfolding puts
puts_length [] w = refl
puts_length (p ∷ ps) w = puts_length ps (set w p.0 (cut p.0 p.1)) ∙ length-set w p.0 (cut p.0 p.1)

moved_then : {m m₁ m₂ : List ℕ} {ps qs : List Put} → Sound m → Moved m ps m₁ → Moved m₁ qs m₂ → Moved m (ps ++ qs) m₂
moved_then {m} {m₁} {m₂} {ps} {qs} s a b = record {
  sound = b.sound;
  voices = λ v h.
      rw (puts_both v ps qs (voice_at m v))
      (same_then (b.voices v h)
      (puts_same (of_voice v qs) (voice_at m₁ v) (puts (of_voice v ps) (voice_at m v)) (voice_size v a.sound h)
      (puts_length (of_voice v ps) (voice_at m v) ∙ voice_size v s h) (a.voices v h)));
  active = b.active ∙ a.active;
  slow = b.slow ∙ a.slow;
  sums = λ c h. b.sums c h ∙ a.sums c h;
}

-- ---- a word that no match speaks of

abbrev Unheard : ℕ → Type 0
Unheard i = (page_word ≤ i) × (i < sums_word) × (i ≢ actv_word) × (i ≢ slow_word)

-- every word but word i is as it was
abbrev AllBut : ℕ → List ℕ → List ℕ → Type 0
AllBut i m m' = (k : ℕ) → k ≢ i → get_or m' k 0 ≡ get_or m k 0

quiet : {m m' : List ℕ} (i : ℕ) → Unheard i → Sound m → Sound m' → AllBut i m m' → Moved m [] m'
unfolding puts
quiet {m} {m'} i u s s' f = record {
  sound = s';
  voices = λ v h.
      same_equal (voice_same m' m v v (omega (arith, s'.size)) (omega (arith, s.size)) (λ j k. f (20 * v + j) (λ e. omega (arith, u.0))));
  active = f actv_word (λ e. u.2 (sym e));
  slow = f slow_word (λ e. u.3 (sym e));
  sums = λ c h. f (sums_word + c) (λ e. omega (arith, u.1));
}

but_set : (m : List ℕ) (i x : ℕ) → AllBut i m (set m i x)
but_set m i x k d = get_or-set_other m i k x 0 d

latch_moved : {m : List ℕ} (x : ℕ) → Sound m → x < 2 ^ 32 → Moved m [] (set m write_latch_word x)
latch_moved {m} x s h = quiet write_latch_word (lit≤ tt, lit< tt, λ e. omega arith, λ e. omega arith) s (write_latch x s h) (but_set m write_latch_word x)

-- ---- a write of a voice

put_moved : {m : List ℕ} (v j x : ℕ) → Sound m → v < 32 → j < 20 → Moved m (record { voice = v; word = j; number = x } ∷ []) (with_mask (set m (voice_word v j) (cut (voice_word v j) x)))
unfolding puts
put_moved {m} v j x s hv hj =
    let i = voice_word v j in
    let y = cut (voice_word v j) x in
    record {
      sound = sound_masked (range_set i y (in_range s) (omega arith) (cut_again i x) (λ e. absurd (let z : ⊥ = omega arith in z)));
      voices = λ u hu. rw (masked_voice (set m i y) u (length-set m i y ∙ s.size) hu) (at u hu (ℕ_discrete u v));
      active = masked_word (set m i y) actv_word (λ e. omega arith) ∙ get_or-set_other m i actv_word y 0 (λ e. omega arith);
      slow = masked_word (set m i y) slow_word (λ e. omega arith) ∙ get_or-set_other m i slow_word y 0 (λ e. omega arith);
      sums = λ c h. masked_word (set m i y) (sums_word + c) (λ e. omega arith) ∙ get_or-set_other m i (sums_word + c) y 0 (λ e. omega arith);
    }
  where
    at : (u : ℕ) → u < 32 → Dec (u ≡ v) → SameVoice (voice_at (set m (voice_word v j) (cut (voice_word v j) x)) u) (puts (of_voice u (record { voice = v; word = j; number = x } ∷ [])) (voice_at m u))
    at u hu (yes e) = rw (eq-eqb u v e, e) (same_equal (voice_set m v j (cut (voice_word v j) x) hj ∙ ap (set (voice_at m v) j) (cut_voice v j x hv hj)))
    at u hu (no e) = rw (ne_eqb u v e) (same_equal (voice_set_out m u (voice_word v j) (cut (voice_word v j) x) (omega (arith, s.size)) (λ k l q. e (omega arith))))

-- ---- reads, pot results and refused writes: they move nothing, and leave PAGE and the write latch

-- what a begun write goes by is as it was
pub record Kept (m m' : List ℕ) : Type 0 where
  pub page : get_or m' page_word 0 ≡ get_or m page_word 0
  pub latch : get_or m' write_latch_word 0 ≡ get_or m write_latch_word 0

record Quiet (m m' : List ℕ) : Type 0 where
  moved : Moved m [] m'
  kept : Kept m m'

read_quiet : {m : List ℕ} (a : ℕ) → Sound m → Quiet m (after m (Read a))
unfolding after puts
read_quiet {m} a s = record {
  moved = record {
    sound = sound (read_record m a) (read_valid m a (is_valid m s));
    voices = λ v h. record {
      control = λ b d.
          rw (voice_word_lem (read_record m a) v 0 (lit< tt), voice_word_lem m v 0 (lit< tt)) (read_flag m a v b h d);
      others = λ j l k.
          voice_word_lem (read_record m a) v j k
          ∙ read_keeps m a (voice_word v j) (λ e. omega arith) (λ e. omega arith) (λ e. omega arith) (λ e. omega arith) (λ e. omega arith)
          ∙ sym (voice_word_lem m v j k);
    };
    active = read_shared m a actv_word s (lit≤ tt) (lit< tt) (λ e. omega arith) (λ e. omega arith) (λ e. omega arith);
    slow = read_shared m a slow_word s (lit≤ tt) (lit< tt) (λ e. omega arith) (λ e. omega arith) (λ e. omega arith);
    sums = λ c h. read_shared m a (sums_word + c) s (omega arith) (omega arith) (λ e. omega arith) (λ e. omega arith) (λ e. omega arith);
  };
  kept = record {
    page = read_shared m a page_word s (lit≤ tt) (lit< tt) (λ e. omega arith) (λ e. omega arith) (λ e. omega arith);
    latch = read_shared m a write_latch_word s (lit≤ tt) (lit< tt) (λ e. omega arith) (λ e. omega arith) (λ e. omega arith);
  };
}

pot_quiet : {m : List ℕ} (p : ℕ) → Sound m → Quiet m (after m (SetPot p))
unfolding after
pot_quiet {m} p s =
    let f = pot_keeps m p in
    record {
      moved = quiet par_word (lit≤ tt, lit< tt, λ e. omega arith, λ e. omega arith) s (sound (pot_record m p) (pot_valid m p (is_valid m s))) f;
      kept = record { page = f page_word (λ e. omega arith); latch = f write_latch_word (λ e. omega arith) };
    }

no_move : {m : List ℕ} → Sound m → Moved m [] m
unfolding puts
no_move s = record { sound = s; voices = λ v h. same_equal refl; active = refl; slow = refl; sums = λ c h. refl }

refused_quiet : {m : List ℕ} (a b : ℕ) → Sound m → is_done (answer_to m (Write a b)) ≡ false → Quiet m (after m (Write a b))
unfolding after answer_to
refused_quiet {m} a b s h = rw (write_refused m a b h) (record { moved = no_move s; kept = record { page = refl; latch = refl } })

-- ---- bytes of a write

byte_moved : {m : List ℕ} (r k b : ℕ) → Sound m → r < 16 → k < 3 → b < 256 → Moved m [] (write_record m (4 * r + k) b)
byte_moved {m} r k b s hr hk hb =
    rw (byte_written r k b s hr hk) (latch_moved (with_byte k b (get_or m write_latch_word 0)) s (byte_lt k b (get_or m write_latch_word 0) (omega arith) hb (latch_lt s)))

-- any byte of PAGE
page_moved : {m : List ℕ} (k b : ℕ) → Sound m → k < 4 → b < 256 → Moved m [] (write_record m (4 * 15 + k) b)
page_moved {m} k b s hk hb = cases k 3 (Moved m [] (write_record m (4 * 15 + k) b))
    (λ l. byte_moved 15 k b s (lit< tt) l hb)
    (λ l.
    let x = with_byte 3 b (get_or m write_latch_word 0) in
    let e : k ≡ 3 = omega arith in
    let p = quiet page_word (lit≤ tt, lit< tt, λ e. omega arith, λ e. omega arith) s (sound_set page_word (cut page_word x) s (lit≤ tt) (lit< tt) (cut_again page_word x) (λ z. absurd (let y : ⊥ = omega arith in y))) (but_set m page_word (cut page_word x)) in
    rw (e, shared_written 15 b page_word s (lit< tt) (page_named (get_or m page_word 0)) (lit≤ tt)) (moved_then s p (latch_moved 0 p.sound (lit< tt))))

-- ---- the calls

-- what holds in the middle of a write: the register still names the word, and the latch's highest bytes are the number so far
pub record Begun (m : List ℕ) (r v j k x : ℕ) : Type 0 where
  hr : r < 16
  hv : v < 32
  hj : j < 20
  named : register_of (get_or m page_word 0) r ≡ Word (voice_word v j)
  top : top_of k (get_or m write_latch_word 0) ≡ x

abbrev pub In : List ℕ → Phase → Type 0
In m idle = Unit {0}
In m (begun r v j k x) = Begun m r v j k x

pub in_kept : {m m' : List ℕ} (φ : Phase) → Kept m m' → In m φ → In m' φ
in_kept idle q i = tt
in_kept (begun r v j k x) q i = record { hr = i.hr; hv = i.hv; hj = i.hj; named = rw q.page i.named; top = rw q.latch i.top }

one_byte_more : {m : List ℕ} (r v j k x b : ℕ) → Sound m → Begun m r v j k x → k < 3 → b < 256 → Begun (write_record m (4 * r + k) b) r v j (k + 1) (256 * x + b)
one_byte_more {m} r v j k x b s i hk hb =
    let y = with_byte k b (get_or m write_latch_word 0) in
    rw (byte_written r k b s i.hr hk)
    (record {
      hr = i.hr;
      hv = i.hv;
      hj = i.hj;
      named = rw (get_or-set_other m write_latch_word page_word y 0 (λ e. omega arith)) i.named;
      top = rw (get_or-set_same m write_latch_word y 0 (omega (arith, s.size))) (top_next k b (get_or m write_latch_word 0) hk hb (latch_lt s) ∙ ap (λ (n : ℕ). 256 * n + b) i.top);
    })

last_moved : {m : List ℕ} (r v j x b : ℕ) → Sound m → Begun m r v j 3 x → Moved m (record { voice = v; word = j; number = 256 * x + b } ∷ []) (write_record m (4 * r + 3) b)
last_moved {m} r v j x b s i =
    let p = put_moved v j (256 * x + b) s i.hv i.hj in
    rw (last_written r b (voice_word v j) s i.hr i.named, top_last b (get_or m write_latch_word 0), i.top) (moved_then s p (latch_moved 0 p.sound (lit< tt)))

-- each voice has got its writes, and the writes have come as far as the phase says
pub record Stretched (m : List ℕ) (ps : List Put) (m' : List ℕ) (ψ : Phase) : Type 0 where
  pub moved : Moved m ps m'
  pub phase : In m' ψ

call_then : {m m₁ m₂ : List ℕ} {ps qs : List Put} {ψ : Phase} → Sound m → Moved m ps m₁ → Stretched m₁ qs m₂ ψ → Stretched m (ps ++ qs) m₂ ψ
call_then s q r = record { moved = moved_then s q r.moved; phase = r.phase }

pub stretch : {m : List ℕ} {φ ψ : Phase} {t : List Call} {ps : List Put} → Sound m → In m φ → Between m φ t ps ψ → Stretched m ps (run m t) ψ
unfolding after run
stretch s i nothing = record { moved = no_move s; phase = i }
stretch {φ = φ} s i (reading a d) =
    let q = read_quiet a s in
    call_then s q.moved (stretch q.moved.sound (in_kept φ q.kept i) d)
stretch {φ = φ} s i (potting p d) =
    let q = pot_quiet p s in
    call_then s q.moved (stretch q.moved.sound (in_kept φ q.kept i) d)
stretch s i (asking d) = stretch s i d
stretch {φ = φ} s i (refused a b l d) =
    let q = refused_quiet a b s l in
    call_then s q.moved (stretch q.moved.sound (in_kept φ q.kept i) d)
stretch s i (paging k b hk hb d) =
    let q = page_moved k b s hk hb in
    call_then s q (stretch q.sound tt d)
stretch {m} s i (first r v j b hr hv hj hb e d) =
    let q = byte_moved r 0 b s hr (lit< tt) hb in
    let o = rw (zero-add b) at (one_byte_more r v j 0 0 b s (record { hr = hr; hv = hv; hj = hj; named = e; top = top_none (get_or m write_latch_word 0) (latch_lt s) }) (lit< tt) hb) in
    call_then s q (stretch q.sound o d)
stretch s i (next {r = r} {v = v} {j = j} {k = k} {x = x} b hk hb d) =
    let q = byte_moved r k b s i.hr hk hb in
    call_then s q (stretch q.sound (one_byte_more r v j k x b s i hk hb) d)
stretch s i (last {r = r} {v = v} {j = j} {x = x} b hb d) =
    let q = last_moved r v j x b s i in
    call_then s q (stretch q.sound tt d)

pub between : {m : List ℕ} {ψ : Phase} {t : List Call} {ps : List Put} → Sound m → Between m idle t ps ψ → Moved m ps (run m t)
between s d = (stretch s tt d).moved
