-- `sample::sample_of` meets its contract, by the bit that says how a word is read. Assumes nothing.
use mathlib.Core.Path.{◌≡◌, sym, subst, ◌∙◌}
use Prim.Native.Nat.{◌/◌}
use native.Mathlib.Omega.{arith}
use lib.Dec.{lit<}
use lib.IntN.{ℤ}
use mir.Syntax.{w16, w32}
use mir.Val.{SFits, to_z, of_z}
use mir.Facts.{to_z-of_z, sfits_widen}
use Rattle.numbers.specs.Numbers.{Bits}
use Rattle.numbers.proofs.Words.{signed-bits}
use Rattle.codes.proofs.Range.{value_bits}
use Rattle.sample.proofs.Laws.{compressed_word, linear_word, signed_16}
use Rattle.sample.proofs.sample_of.Goals as goal

-- a number of 16 bits in a local of 32, and what it is
widened : {x y z : ℤ} → SFits w16 x → y ≡ to_z w16 (of_z w16 x) → x ≡ z → Bits 16 z → (to_z w32 (of_z w32 y) ≡ z) × Bits 16 (to_z w32 (of_z w32 y))
widened {x} {y} {z} f e is h =
    let v : y ≡ x = e ∙ to_z-of_z f in
    let w : to_z w32 (of_z w32 y) ≡ z = to_z-of_z (subst (SFits w32) (sym v) (sfits_widen tt f)) ∙ v ∙ is in
    (w, subst (Bits 16) (sym w) h)

pub returns-then-flag : goal.returns-then-flag
returns-then-flag c =
    widened (record { sfits = c.expand.type_inv }) c.from.ensures
    (c.expand.ensures ∙ sym (compressed_word _ _ (sym c.flag.ensures ∙ c.if-flag.true)))
    (subst (Bits 16) (sym (compressed_word _ _ (sym c.flag.ensures ∙ c.if-flag.true))) (value_bits (c.args.w / 256) (omega arith)))

pub returns-else-flag : goal.returns-else-flag
returns-else-flag c =
    let is = linear_word c.args.cr c.args.w (sym c.flag.ensures ∙ c.if-flag.false) in
    widened (record { sfits = c.cast_signed.type_inv }) c.from-else-flag.ensures
    (c.cast_signed.ensures ∙ signed_16 _ (omega arith) ∙ sym is) (subst (Bits 16) (sym is) (signed-bits 16 c.args.w (lit< tt) (omega arith)))
