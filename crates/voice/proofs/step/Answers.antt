-- `voice::step` meets its contract: within the loop points ACCUM moves by FC and nothing else does; elsewhere it is `step_past`'s matter.
-- Assumes nothing.
use mathlib.Core.Path.{◌≡◌, sym, ap, ◌∙◌}
use mathlib.Core.Bool.{false}
use Prim.Native.Nat.{ℕ, ◌+◌, ◌-◌, ◌<◌, ◌≤◌}
use native.Mathlib.Omega.{arith}
use borrow.Author.Tests.{ltb-false}
use lib.IntN.{ℤ, pos, nat_abs, ◌-ℤ◌}
use lib.Signed.{lt_z}
use lib.ListN.{set}
use mir.Syntax.{w64}
use mir.Val.{to_z, of_z}
use Rattle.numbers.proofs.Difference.{is_pos}
use Rattle.numbers.proofs.Words.{pos-sub}
use Rattle.numbers.proofs.Within.{of_pos}
use Rattle.numbers.proofs.Local.{Num, Done, arg, sub, test}
use Rattle.address.specs.declared.Place.{Place}
use Rattle.address.proofs.Laws.{back_test, on_within, back_within}
use Rattle.voice.specs.Voice.{voice_of, words_of}
use Rattle.voice.specs.Turn.{levels_of, moved}
use Rattle.voice.specs.Takes.{after_step}
use Rattle.voice.proofs.Words.{accum_stored}
use Rattle.voice.proofs.step.Goals as goal

-- a word in a local of 64 bits
wide : {n : ℕ} {z : ℤ} → z ≡ pos n → n < 4294967296 → Num w64 4294967295 (pos n) (to_z w64 (of_z w64 z))
wide {n} e h = rw e (arg (record { sfits = omega arith }) (of_pos n (omega arith)))

-- in reverse, at START or above it: the step does not pass it, and lands on ACCUM - FC
module _ {accum fc start : ℕ} {a f s : ℤ} (ea : a ≡ pos accum) (ef : f ≡ pos fc) (es : s ≡ pos start)
    (ha : accum < 4294967296) (hf : fc < 4294967296) (hs : start < 4294967296)
    (k : lt_z (to_z w64 (of_z w64 (to_z w64 (of_z w64 a) -ℤ to_z w64 (of_z w64 f)))) (to_z w64 (of_z w64 s)) ≡ false) where
  target : Done w64 8589934590 (pos accum -ℤ pos fc) (to_z w64 (of_z w64 a) -ℤ to_z w64 (of_z w64 f))
  target = sub (wide ea ha) (wide ef hf) tt

  not_past : start + fc ≤ accum
  not_past = ltb-false accum (start + fc) (sym (back_test fc start accum) ∙ test target.num (wide es hs) k)

  lands : nat_abs (to_z w64 (of_z w64 (to_z w64 (of_z w64 a) -ℤ to_z w64 (of_z w64 f)))) ≡ accum - fc
  lands = ap nat_abs (target.num.is ∙ pos-sub accum fc ∙ is_pos accum fc (accum - fc) (omega (arith, not_past)))

pub returns-else-t-from : goal.returns-else-t-from
unfolding after_step
returns-else-t-from c =
    let w = c.args.w.now in
    let v = voice_of w in
    let d = sym c.flag.ensures ∙ c.if-flag.true in
    let within = not_past c.from.ensures c.from-then-flag.ensures c.from-then-flag-2.ensures (c.fits-w 13) (c.fits-w 1) (c.fits-w 11) c.if-t-from.false in
    let at = lands c.from.ensures c.from-then-flag.ensures c.from-then-flag-2.ensures (c.fits-w 13) (c.fits-w 1) (c.fits-w 11) c.if-t-from.false in
    ap (set w 13) at ∙ accum_stored w c.told-w (v.accum - v.fc)
    ∙ ap (λ (a : Place). words_of (moved v a (levels_of v))) (sym (back_within v.cr v.fc v.start v.end v.accum d within (c.fits-w 13)))

pub returns-then-t-from-2 : goal.returns-then-t-from-2
unfolding after_step
returns-then-t-from-2 c =
    let w = c.args.w.now in
    let v = voice_of w in
    let d = sym c.flag.ensures ∙ c.if-flag.false in
    ap (set w 13) (omega (arith, c.from-else-flag.ensures, c.from-else-flag-2.ensures)) ∙ accum_stored w c.told-w (v.accum + v.fc)
    ∙ ap (λ (a : Place). words_of (moved v a (levels_of v))) (sym (on_within v.cr v.fc v.start v.end v.accum d (omega arith) (c.fits-w 12)))
