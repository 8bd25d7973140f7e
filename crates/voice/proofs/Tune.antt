-- A held note is in tune: a voice in a loop is after n turns where n steps of FC bring it, whatever the memory holds.
-- In order: the address step between the loop points, in natural numbers; the bits that it keeps; what a turn does to the registers that a loop
-- is made of; one turn of each kind of loop; n turns of any, and when the note is back where it was. Last a loop whose END has a
-- fraction, by computation. Assumes nothing.
use mathlib.Core.Path.{◌≡◌, refl, sym, ap, subst, ◌∙◌}
use mathlib.Core.Logic.{◌≢◌}
use mathlib.Core.Bool.{true, false}
use mathlib.Core.List.{List, []}
use Prim.Native.Nat.{ℕ, zero, suc, ◌+◌, ◌-◌, ◌*◌, ◌/◌, ◌%◌, ◌<◌, ◌≤◌}
use native.Mathlib.Nat.{mod-add-mod, add-mul-mod_self_right}
use native.Mathlib.Omega.{arith}
use borrow.Author.Tests.{lt-ltb, lt-leb}
use lib.Dec.{eqb}
use lib.IntN.{pos, ◌-ℤ◌}
use lib.Signed.{lt_z}
use Rattle.numbers.specs.Numbers.{floor_mod, word}
use Rattle.numbers.proofs.Tests.{split, cases}
use Rattle.numbers.proofs.Difference.{is_pos, pos-⊖, ⊖-sub}
use Rattle.numbers.proofs.Words.{pos-sub}
use Rattle.control.specs.Control.{bit_of, flag_of, with_bit, runs, stp0_bit, stp1_bit, lei_bit, lpe_bit, ble_bit, irqe_bit, dir_bit, irq_bit}
use Rattle.control.proofs.Bits.{flag_put, flag_other}
use Rattle.address.specs.Address.{raised, forward_event, forward, stepped}
use Rattle.address.specs.Event.{event}
use Rattle.address.specs.declared.Place.{Place}
use Rattle.address.proofs.Laws.{raised_on, raised_off, turns, goes_on, forward_event_lem, reverse_event_lem, steps_back, steps_on, same_place, stored, back_test, on_within, back_within}
use Rattle.voice.specs.Voice.{Voice, Turn}
use Rattle.voice.specs.Turn.{with_outputs, moved, running_turn, turn_of}
use Rattle.voice.specs.Tune.{turns_of, Kind, Forward, Reverse, Bidirectional, Mode, position_of, period_of, Loops, InTune}
use Rattle.voice.proofs.Laws.{turn_runs}

-- ---- the address step in natural numbers

less : (a b n : ℕ) → a ≡ b + n → pos a -ℤ pos b ≡ pos n
less a b n h = pos-sub a b ∙ is_pos a b n h

-- where the step leads
abbrev next : Voice → Place
next v = stepped v.cr v.fc v.start v.end v.accum

-- how far the step is past END, and past START
abbrev over : Voice → ℕ
over v = v.accum + v.fc - v.end

abbrev under : Voice → ℕ
under v = v.start + v.fc - v.accum

module _ {k : Kind} {v : Voice} (l : Loops k v) where
  on : flag_of dir_bit v.cr ≡ false → v.accum + v.fc ≤ v.end → next v ≡ record { accum = v.accum + v.fc; cr = v.cr }
  on t h = on_within v.cr v.fc v.start v.end v.accum t h l.address

  on_past : flag_of dir_bit v.cr ≡ false → v.end < v.accum + v.fc → next v ≡ event v.cr v.end (pos (v.start + over v)) (pos (v.end - over v)) 1
  on_past t h =
      steps_on v.cr v.fc v.start v.end v.accum t
      ∙ forward_event_lem v.cr v.fc v.start v.end v.accum l.heeded (lt-leb (v.accum + v.fc) v.end h)
      ∙ rw (less (v.accum + v.fc) v.end (over v) (omega arith), less v.end (over v) (v.end - over v) (omega arith))

  back : flag_of dir_bit v.cr ≡ true → v.start + v.fc ≤ v.accum → next v ≡ record { accum = v.accum - v.fc; cr = v.cr }
  back t h = back_within v.cr v.fc v.start v.end v.accum t h (omega arith)

  back_past : flag_of dir_bit v.cr ≡ true → v.accum < v.start + v.fc → next v ≡ event v.cr v.start (pos (v.end - under v)) (pos (v.start + under v)) 0
  back_past t h =
      let past : lt_z (pos v.accum -ℤ pos v.fc) (pos v.start) ≡ true = back_test v.fc v.start v.accum ∙ lt-ltb v.accum (v.start + v.fc) h in
      let e : pos v.start -ℤ (pos v.accum -ℤ pos v.fc) ≡ pos (under v) =
      (λ i. pos-⊖ v.start i -ℤ pos-sub v.accum v.fc i) ∙ ⊖-sub v.start 0 v.accum v.fc
      ∙ is_pos (v.start + v.fc) (0 + v.accum) (under v) (omega arith) in
      steps_back v.cr v.fc v.start v.end v.accum t
      ∙ reverse_event_lem v.cr v.fc v.start v.end v.accum l.heeded past
      ∙ rw (e, less v.end (under v) (v.end - under v) (omega arith))

-- ---- the bits that a step keeps

module _ (b CR : ℕ) (h : b ≢ irq_bit) where
  raised_other : flag_of b (raised CR) ≡ flag_of b CR
  raised_other = split _ (flag_of irqe_bit CR)
      (λ t. ap (flag_of b) (raised_on CR t) ∙ flag_other b irq_bit 1 CR (omega arith) h)
      (λ t. ap (flag_of b) (raised_off CR t))

  direction_other : (direction : ℕ) → direction ≤ 1 → b ≢ dir_bit → flag_of b (with_bit dir_bit direction (raised CR)) ≡ flag_of b CR
  direction_other direction l g = flag_other b dir_bit direction (raised CR) l g ∙ raised_other

raised_mode : (k : Kind) (CR : ℕ) → Mode k CR → Mode k (raised CR)
raised_mode Forward CR m = (raised_other ble_bit CR (omega arith) ∙ m.0, raised_other lpe_bit CR (omega arith) ∙ m.1, raised_other dir_bit CR (omega arith) ∙ m.2)
raised_mode Reverse CR m = (raised_other ble_bit CR (omega arith) ∙ m.0, raised_other lpe_bit CR (omega arith) ∙ m.1, raised_other dir_bit CR (omega arith) ∙ m.2)
raised_mode Bidirectional CR m = (raised_other ble_bit CR (omega arith) ∙ m.0, raised_other lpe_bit CR (omega arith) ∙ m.1)

-- ---- what a turn does to the registers that a loop is made of

-- w is v, at another place
record Placed (v w : Voice) (p : Place) : Type 0 where
  start : w.start ≡ v.start
  end : w.end ≡ v.end
  fc : w.fc ≡ v.fc
  accum : w.accum ≡ p.accum
  cr : w.cr ≡ p.cr

turn_placed : (memory : List ℕ) (slow : ℕ) (v : Voice) → runs v.cr ≡ true → Placed v (turn_of memory slow v).voice (next v)
unfolding running_turn moved with_outputs
turn_placed memory slow v r =
    subst (λ (t : Turn). Placed v t.voice (next v)) (sym (turn_runs memory slow v r)) (record { start = refl; end = refl; fc = refl; accum = refl; cr = refl })

-- ---- one turn

-- A turn that leads to a place within the loop, j periods short of a step on, is in tune.
arrived : (k : Kind) (v w : Voice) (p : Place) → Loops k v → Placed v w p
    → Mode k p.cr → ((b : ℕ) → b ≢ irq_bit → b ≢ dir_bit → flag_of b p.cr ≡ flag_of b v.cr) → v.start ≤ p.accum → p.accum ≤ v.end
    → (j : ℕ) → position_of k w + j * period_of k v ≡ position_of k v + v.fc → InTune k 1 v w
unfolding runs
arrived k v w p l q m kept from to j e =
    let same : (b : ℕ) → b ≢ irq_bit → b ≢ dir_bit → flag_of b w.cr ≡ flag_of b v.cr = λ b h g. ap (flag_of b) q.cr ∙ kept b h g in
    record {
      loops = record {
        running = rw (same stp0_bit (omega arith) (omega arith), same stp1_bit (omega arith) (omega arith)) l.running;
        heeded = same lei_bit (omega arith) (omega arith) ∙ l.heeded;
        mode = subst (Mode k) (sym q.cr) m;
        from = omega arith;
        to = omega arith;
        length = omega arith;
        pace = omega arith;
        address = omega arith;
      };
      start = q.start;
      end = q.end;
      fc = q.fc;
      bits = same;
      position = sym (add-mul-mod_self_right (position_of k w) j (period_of k v)) ∙ ap (λ (x : ℕ). x % period_of k v) (e ∙ omega arith);
    }

-- The ways that a turn can go, to ACCUM a: without an event; on from the other loop point; back from the one that it passed.
module _ (k : Kind) (v w : Voice) (l : Loops k v) (q : Placed v w (next v)) (a : ℕ) (from : v.start ≤ a) (to : a ≤ v.end) where
  within : next v ≡ record { accum = a; cr = v.cr } → (w.accum ≡ a → w.cr ≡ v.cr → position_of k w ≡ position_of k v + v.fc) → InTune k 1 v w
  within e here =
      let r = subst (Placed v w) e q in
      arrived k v w _ l r l.mode (λ b h g. refl) from to 0 (omega (arith, here r.accum r.cr))

  around : next v ≡ record { accum = word 32 (pos a); cr = raised v.cr } → (w.accum ≡ a → position_of k w + period_of k v ≡ position_of k v + v.fc) → InTune k 1 v w
  around e here =
      let r = subst (Placed v w) (e ∙ same_place (stored a (omega arith)) refl) q in
      arrived k v w _ l r (raised_mode k v.cr l.mode) (λ b h g. raised_other b v.cr h) from to 1 (omega (arith, here r.accum))

round : (v w : Voice) → Loops Bidirectional v → Placed v w (next v) → (a : ℕ) → v.start ≤ a → a ≤ v.end
    → (direction : ℕ) → direction ≤ 1 → next v ≡ record { accum = word 32 (pos a); cr = with_bit dir_bit direction (raised v.cr) }
    → (j : ℕ) → (w.accum ≡ a → flag_of dir_bit w.cr ≡ eqb direction 1 → position_of Bidirectional w + j * period_of Bidirectional v ≡ position_of Bidirectional v + v.fc)
    → InTune Bidirectional 1 v w
round v w l q a from to direction t e j here =
    let r = subst (Placed v w) (e ∙ same_place (stored a (omega arith)) refl) q in
    let kept : (b : ℕ) → b ≢ irq_bit → b ≢ dir_bit → flag_of b (with_bit dir_bit direction (raised v.cr)) ≡ flag_of b v.cr = λ b h g. direction_other b v.cr h direction t g in
    arrived Bidirectional v w _ l r (kept ble_bit (omega arith) (omega arith) ∙ l.mode.0, kept lpe_bit (omega arith) (omega arith) ∙ l.mode.1) kept from to j
    (here r.accum (ap (flag_of dir_bit) r.cr ∙ flag_put dir_bit direction (raised v.cr) t))

-- the position in a bidirectional loop, on the way to END and on the way back
module _ (v : Voice) where
  outward : flag_of dir_bit v.cr ≡ false → position_of Bidirectional v ≡ v.accum - v.start
  unfolding position_of
  outward h = rw h

  homeward : flag_of dir_bit v.cr ≡ true → position_of Bidirectional v ≡ v.end - v.start + (v.end - v.accum)
  unfolding position_of
  homeward h = rw h

-- a turn of each kind of loop
turn : (k : Kind) (v w : Voice) → Loops k v → Placed v w (next v) → InTune k 1 v w
unfolding position_of period_of
turn Forward v w l q = cases v.end (v.accum + v.fc) (InTune Forward 1 v w)
    (λ h. around Forward v w l q (v.start + over v) (omega arith) (omega arith) (on_past l l.mode.2 h ∙ goes_on _ _ _ _ _ l.mode.0 l.mode.1) (λ a. omega arith))
    (λ h. within Forward v w l q (v.accum + v.fc) (omega arith) h (on l l.mode.2 h) (λ a c. omega arith))
turn Reverse v w l q = cases v.accum (v.start + v.fc) (InTune Reverse 1 v w)
    (λ h. around Reverse v w l q (v.end - under v) (omega arith) (omega arith) (back_past l l.mode.2 h ∙ goes_on _ _ _ _ _ l.mode.0 l.mode.1) (λ a. omega arith))
    (λ h. within Reverse v w l q (v.accum - v.fc) (omega arith) (omega arith) (back l l.mode.2 h) (λ a c. omega arith))
turn Bidirectional v w l q = split (InTune Bidirectional 1 v w) (flag_of dir_bit v.cr)
    (λ d. cases v.accum (v.start + v.fc) (InTune Bidirectional 1 v w)
    (λ h. round v w l q (v.start + under v) (omega arith) (omega arith) 0 (omega arith) (back_past l d h ∙ turns _ _ _ _ _ l.mode.0 l.mode.1) 1 (λ a c. omega (arith, outward w c, homeward v d)))
    (λ h. within Bidirectional v w l q (v.accum - v.fc) (omega arith) (omega arith) (back l d h) (λ a c. omega (arith, homeward w (ap (flag_of dir_bit) c ∙ d), homeward v d))))
    (λ d. cases v.end (v.accum + v.fc) (InTune Bidirectional 1 v w)
    (λ h. round v w l q (v.end - over v) (omega arith) (omega arith) 1 (omega arith) (on_past l d h ∙ turns _ _ _ _ _ l.mode.0 l.mode.1) 0 (λ a c. omega (arith, homeward w c, outward v d)))
    (λ h. within Bidirectional v w l q (v.accum + v.fc) (omega arith) h (on l d h) (λ a c. omega (arith, outward w (ap (flag_of dir_bit) c ∙ d), outward v d))))

-- ---- n turns

same_period : (k : Kind) (v w : Voice) → w.start ≡ v.start → w.end ≡ v.end → period_of k w ≡ period_of k v
unfolding period_of
same_period Forward v w s e = omega arith
same_period Reverse v w s e = omega arith
same_period Bidirectional v w s e = omega arith

one_more : {k : Kind} {n : ℕ} {u v w : Voice} → InTune k n v u → InTune k 1 u w → InTune k (suc n) v w
one_more {k} {n} {u} {v} {w} t s =
    let P = period_of k v in
    let p : period_of k u ≡ P = same_period k v u t.start t.end in
    record {
      loops = s.loops;
      start = s.start ∙ t.start;
      end = s.end ∙ t.end;
      fc = s.fc ∙ t.fc;
      bits = λ b h g. s.bits b h g ∙ t.bits b h g;
      position = (rw p at s.position) ∙ ap (λ (x : ℕ). x % P) (omega arith) ∙ sym (mod-add-mod (position_of k u) P v.fc) ∙ ap (λ (x : ℕ). (x + v.fc) % P) t.position
          ∙ mod-add-mod (position_of k v + n * v.fc) P v.fc ∙ ap (λ (x : ℕ). x % P) (omega arith);
    }

-- A voice that is in a loop is in tune after any number of turns, over any memory and whatever the slow-ramp counter.
pub held_in_tune : (k : Kind) (memory : ℕ → List ℕ) (slow : ℕ → ℕ) (n : ℕ) (v : Voice) → Loops k v → InTune k n v (turns_of memory slow n v)
unfolding turns_of
held_in_tune k memory slow zero v l = record { loops = l; start = refl; end = refl; fc = refl; bits = λ b h g. refl; position = ap (λ (x : ℕ). x % period_of k v) (omega arith) }
held_in_tune k memory slow (suc n) v l =
    let t = held_in_tune k memory slow n v l in
    one_more t (turn k (turns_of memory slow n v) _ t.loops (turn_placed (memory n) (slow n) (turns_of memory slow n v) t.loops.running))

-- So it is back at its position when the steps come to whole periods.
pub back_again : (k : Kind) (memory : ℕ → List ℕ) (slow : ℕ → ℕ) (n : ℕ) (v : Voice) → Loops k v
    → (periods : ℕ) → n * v.fc ≡ periods * period_of k v → position_of k (turns_of memory slow n v) % period_of k v ≡ position_of k v % period_of k v
back_again k memory slow n v l periods h =
    (held_in_tune k memory slow n v l).position ∙ ap (λ (x : ℕ). (position_of k v + x) % period_of k v) h ∙ add-mul-mod_self_right (position_of k v) periods (period_of k v)

-- ---- a loop whose END has a fraction

-- A voice at the start of its loop, which moves by a sample a turn. With END 124800 the loop is 50 samples and 15/16 of one long, with END cut to whole
-- samples it is 50. What a loop does not need is 0.
pub sustained : ℕ → ℕ → Voice
sustained CR END = record {
  cr = CR;
  fc = 2048;
  lvol = 0;
  lvramp = 0;
  rvol = 0;
  rvramp = 0;
  ecount = 0;
  k2 = 0;
  k2ramp = 0;
  k1 = 0;
  k1ramp = 0;
  start = 20480;
  end = END;
  accum = 20480;
  o4n1 = 0;
  o3n1 = 0;
  o3n2 = 0;
  o2n1 = 0;
  o2n2 = 0;
  o1n1 = 0;
}

-- such a voice meets what the theorem asks, in each kind of loop: with LPE alone, with DIR and with BLE
pub sustained_loops : Loops Forward (sustained 0x08 124800) × Loops Reverse (sustained 0x48 124800) × Loops Bidirectional (sustained 0x18 124800)
unfolding sustained runs flag_of bit_of
sustained_loops = (loops Forward 0x08 refl refl (refl, refl, refl), loops Reverse 0x48 refl refl (refl, refl, refl), loops Bidirectional 0x18 refl refl (refl, refl))
  where
    loops : (k : Kind) (CR : ℕ) → runs CR ≡ true → flag_of lei_bit CR ≡ false → Mode k CR → Loops k (sustained CR 124800)
    loops k CR r h m = record {
      running = r;
      heeded = h;
      mode = m;
      from = omega arith;
      to = omega arith;
      length = omega arith;
      pace = omega arith;
      address = omega arith;
    }

pub accum_at : ℕ → ℕ → ℕ
accum_at n END = (turns_of (λ k. []) (λ k. 0) n (sustained 0x08 END)).accum

-- Soon past the loop point the two are apart: END's fraction is part of the pitch.
pub fraction_counts : (accum_at 53 124800 ≡ 24704) × (accum_at 53 (124800 / 2048 * 2048) ≡ 26624) × (accum_at 53 124800 ≢ accum_at 53 (124800 / 2048 * 2048))
unfolding accum_at sustained turns_of turn_of running_turn moved with_outputs runs flag_of bit_of stepped forward forward_event raised word floor_mod
fraction_counts = (refl, refl, λ e. omega arith)
