-- The address step by its tests: the four events, by the loop mode too, and that the event of each direction is one of them; the ways of a step forward and in
-- reverse; then the step that stays within the loop points, in natural numbers. Assumes nothing.
use mathlib.Core.Path.{◌≡◌, refl, sym, ap, ◌∙◌}
use mathlib.Core.Bool.{Bool, true, false, not}
use Prim.Native.Nat.{ℕ, ◌+◌, ◌-◌, ◌<◌, ◌≤◌}
use native.Mathlib.Nat.{mod-eq_of_lt, add-zero}
use native.Mathlib.Omega.{arith}
use borrow.Author.Tests.{lt-leb, le-leb, lt-ltb, le-ltb}
use lib.Dec.{ltb}
use lib.IntN.{ℤ, pos, negsuc, ◌+ℤ◌, ◌-ℤ◌}
use lib.Signed.{le_z, lt_z, mag}
use mir.Syntax.{w64}
use mir.Val.{to_z, of_z}
use Rattle.numbers.specs.Numbers.{floor_mod, word}
use Rattle.numbers.proofs.Tests.{split, cases}
use Rattle.numbers.proofs.Difference.{is_pos, pos-⊖, ⊖-lt}
use Rattle.numbers.proofs.Words.{pos-sub}
use Rattle.numbers.proofs.Within.{of_pos}
use Rattle.numbers.proofs.Local.{Num, ret}
use Rattle.control.specs.Control.{flag_of, with_bit, stp0_bit, lei_bit, lpe_bit, ble_bit, irqe_bit, dir_bit, irq_bit}
use Rattle.control.specs.LoopMode.{loop_mode_of}
use Rattle.control.specs.declared.LoopMode.{LoopMode}
use Rattle.control.specs.declared.LoopMode.TheVariants.{Stop, Loop, Once, Turn}
use Rattle.address.specs.declared.Place.{Place}
use Rattle.address.specs.Address.{raised, forward_event, reverse_event, forward, reverse, stepped}
use Rattle.address.specs.Event.{event}

module _ (CR : ℕ) where
  pub raised_on : flag_of irqe_bit CR ≡ true → raised CR ≡ with_bit irq_bit 1 CR
  unfolding raised
  raised_on t = rw t

  pub raised_off : flag_of irqe_bit CR ≡ false → raised CR ≡ CR
  unfolding raised
  raised_off t = rw t

module _ (CR passed : ℕ) (across back : ℤ) (direction : ℕ) where
  pub turns : flag_of ble_bit CR ≡ true → flag_of lpe_bit CR ≡ true → event CR passed across back direction ≡ record { accum = word 32 back; cr = with_bit dir_bit direction (raised CR) }
  unfolding event
  turns b l = rw (b, l)

  pub goes_on : flag_of ble_bit CR ≡ false → flag_of lpe_bit CR ≡ true → event CR passed across back direction ≡ record { accum = word 32 across; cr = raised CR }
  unfolding event
  goes_on b l = rw (b, l)

  -- the same by the loop mode
  unfoldable pub left_by : LoopMode → Place
  left_by Stop = record { accum = passed; cr = with_bit stp0_bit 1 (raised CR) }
  left_by Loop = record { accum = word 32 across; cr = raised CR }
  left_by Once = record { accum = word 32 across; cr = with_bit lei_bit 1 (with_bit ble_bit 0 (raised CR)) }
  left_by Turn = record { accum = word 32 back; cr = with_bit dir_bit direction (raised CR) }

  event_left : event CR passed across back direction ≡ left_by (loop_mode_of CR)
  unfolding event left_by
  event_left = split _ (flag_of ble_bit CR)
      (λ b. split _ (flag_of lpe_bit CR) (λ l. rw (b, l)) (λ l. rw (b, l)))
      (λ b. split _ (flag_of lpe_bit CR) (λ l. rw (b, l)) (λ l. rw (b, l)))

  pub left_in : {m r : LoopMode} → r ≡ m → r ≡ loop_mode_of CR → left_by m ≡ event CR passed across back direction
  left_in is told = ap left_by (sym is ∙ told) ∙ sym event_left

-- the event of each direction, as one
module _ (CR START END : ℕ) (d : ℤ) where
  pub forward_one : forward_event (flag_of ble_bit CR) (flag_of lpe_bit CR) (raised CR) START END d ≡ event CR END (pos START +ℤ d) (pos END -ℤ d) 1
  unfolding forward_event event
  forward_one = split _ (flag_of ble_bit CR)
      (λ b. split _ (flag_of lpe_bit CR) (λ l. rw (b, l)) (λ l. rw (b, l)))
      (λ b. split _ (flag_of lpe_bit CR) (λ l. rw (b, l)) (λ l. rw (b, l)))

  pub reverse_one : reverse_event (flag_of ble_bit CR) (flag_of lpe_bit CR) (raised CR) START END d ≡ event CR START (pos END -ℤ d) (pos START +ℤ d) 0
  unfolding reverse_event event
  reverse_one = split _ (flag_of ble_bit CR)
      (λ b. split _ (flag_of lpe_bit CR) (λ l. rw (b, l)) (λ l. rw (b, l)))
      (λ b. split _ (flag_of lpe_bit CR) (λ l. rw (b, l)) (λ l. rw (b, l)))

module _ (CR FC START END ACCUM : ℕ) where
  -- forward: LEI is 1; the target is not past END; it is past
  pub forward_free : flag_of lei_bit CR ≡ true → forward CR FC START END ACCUM ≡ record { accum = word 32 (pos ACCUM +ℤ pos FC); cr = CR }
  unfolding forward
  forward_free e = rw e

  pub forward_within : le_z (pos ACCUM +ℤ pos FC) (pos END) ≡ true → forward CR FC START END ACCUM ≡ record { accum = word 32 (pos ACCUM +ℤ pos FC); cr = CR }
  unfolding forward
  forward_within t = split _ (flag_of lei_bit CR) (λ e. rw e) (λ e. rw (e, t))

  pub forward_event_lem : flag_of lei_bit CR ≡ false → le_z (pos ACCUM +ℤ pos FC) (pos END) ≡ false
      → forward CR FC START END ACCUM
      ≡ event CR END (pos START +ℤ (pos ACCUM +ℤ pos FC -ℤ pos END)) (pos END -ℤ (pos ACCUM +ℤ pos FC -ℤ pos END)) 1
  unfolding forward
  forward_event_lem e t = rw (e, t) (forward_one CR START END _)

  -- reverse: LEI is 1; the target is not past START; it is past
  pub reverse_free : flag_of lei_bit CR ≡ true → reverse CR FC START END ACCUM ≡ record { accum = word 32 (pos ACCUM -ℤ pos FC); cr = CR }
  unfolding reverse
  reverse_free e = rw e

  pub reverse_within : lt_z (pos ACCUM -ℤ pos FC) (pos START) ≡ false → reverse CR FC START END ACCUM ≡ record { accum = word 32 (pos ACCUM -ℤ pos FC); cr = CR }
  unfolding reverse
  reverse_within t = split _ (flag_of lei_bit CR) (λ e. rw e) (λ e. rw (e, t))

  pub reverse_event_lem : flag_of lei_bit CR ≡ false → lt_z (pos ACCUM -ℤ pos FC) (pos START) ≡ true
      → reverse CR FC START END ACCUM
      ≡ event CR START (pos END -ℤ (pos START -ℤ (pos ACCUM -ℤ pos FC))) (pos START +ℤ (pos START -ℤ (pos ACCUM -ℤ pos FC))) 0
  unfolding reverse
  reverse_event_lem e t = rw (e, t) (reverse_one CR START END _)

  pub steps_back : flag_of dir_bit CR ≡ true → stepped CR FC START END ACCUM ≡ reverse CR FC START END ACCUM
  unfolding stepped
  steps_back t = rw t

  pub steps_on : flag_of dir_bit CR ≡ false → stepped CR FC START END ACCUM ≡ forward CR FC START END ACCUM
  unfolding stepped
  steps_on t = rw t

-- two places are one where both parts are
pub same_place : {a b c d : ℕ} → a ≡ b → c ≡ d → ◌≡◌ {A = Place} (record { accum = a; cr = c }) (record { accum = b; cr = d })
same_place p q = λ i. record { accum = p i; cr = q i }

-- not below an address, the other way round
pub lt_le : {b : Bool} (z : ℤ) (a : ℕ) → le_z (pos a) z ≡ b → lt_z z (pos a) ≡ not b
lt_le (pos z) a e = cases z a (ltb z a ≡ not _)
    (λ h. lt-ltb z a h ∙ ap not (sym (lt-leb a z h) ∙ e))
    (λ h. le-ltb z a h ∙ ap not (sym (le-leb a z h) ∙ e))
lt_le (negsuc z) a e = ap not e

-- `i64::from` of an address of 32 bits
pub wide : {r : ℤ} {a : ℕ} → mag r < 9223372036854775808 → r ≡ pos a → a < 4294967296 → Num w64 4294967295 (pos a) (to_z w64 (of_z w64 r))
wide {a = a} f e h = ret w64 f e (of_pos a (omega arith))

-- ---- within the loop points

-- an address that fits is stored as it is
pub stored : (a : ℕ) → a < 4294967296 → word 32 (pos a) ≡ a
unfolding word floor_mod
stored a h = mod-eq_of_lt h

-- in reverse, the test of a target that may be below 0
pub back_test : (FC START ACCUM : ℕ) → lt_z (pos ACCUM -ℤ pos FC) (pos START) ≡ ltb ACCUM (START + FC)
back_test FC START ACCUM = (λ i. lt_z (pos-sub ACCUM FC i) (pos-⊖ START i)) ∙ ⊖-lt ACCUM FC START 0 ∙ ap (λ (a : ℕ). ltb a (START + FC)) (add-zero ACCUM)

module _ (CR FC START END ACCUM : ℕ) where
  pub on_within : flag_of dir_bit CR ≡ false → ACCUM + FC ≤ END → END < 4294967296 → stepped CR FC START END ACCUM ≡ record { accum = ACCUM + FC; cr = CR }
  on_within t h k =
      steps_on CR FC START END ACCUM t ∙ forward_within CR FC START END ACCUM (le-leb (ACCUM + FC) END h) ∙ same_place (stored (ACCUM + FC) (omega arith)) refl

  pub back_within : flag_of dir_bit CR ≡ true → START + FC ≤ ACCUM → ACCUM < 4294967296 → stepped CR FC START END ACCUM ≡ record { accum = ACCUM - FC; cr = CR }
  back_within t h k =
      let e : pos ACCUM -ℤ pos FC ≡ pos (ACCUM - FC) = pos-sub ACCUM FC ∙ is_pos ACCUM FC (ACCUM - FC) (omega arith) in
      steps_back CR FC START END ACCUM t
      ∙ reverse_within CR FC START END ACCUM (back_test FC START ACCUM ∙ le-ltb ACCUM (START + FC) h)
      ∙ same_place (ap (word 32) e ∙ stored (ACCUM - FC) (omega arith)) refl
