-- `volume::pan` meets its contract: the product of what is wide enough fits, and one shift is the rule's two divisions.
-- Assumes nothing.
use native.Mathlib.Nat.{mod-eq_of_lt}
use Rattle.std.proofs.Common.{arith, ◌≡◌, sym, ap, subst, ◌∙◌, ℕ, ◌+◌, ◌*◌, ◌/◌, ◌%◌, ◌^◌, ◌<◌, w32, w64, pos, ◌*ℤ◌, to_z, of_z}
use Rattle.numbers.specs.Numbers.{Within, floor_div}
use Rattle.numbers.proofs.Within.{of_pos, widen}
use Rattle.numbers.proofs.Local.{Done, held, ret, mul, shr, cast}
use Rattle.volume.specs.Volume.{panned, mantissa, exponent}
use Rattle.volume.proofs.Laws.{gain, gain_le, one_division}
use Rattle.volume.proofs.pan.Goals as goal

-- the moved mantissa as the machine has it
moved : (VOL : ℕ) → VOL < 65536 → 16 * (256 + VOL / 16 % 256) * 2 ^ (VOL / 4096) % 4294967296 ≡ gain VOL
unfolding gain mantissa exponent
moved VOL h = mod-eq_of_lt (omega (arith, gain_le VOL h))

-- the upper bits of the output, times that
product : (c : goal.After-from-2) → Done w64 (32769 * (8176 * 32768)) (floor_div c.args.o4 4 *ℤ pos (gain c.args.volume)) (to_z w64 (of_z w64 c.from.result) *ℤ to_z w64 (of_z w64 c.from-2.result))
product c =
    let upper = (shr 4 (held w32 tt c.requires.o4_fits) tt).num in
    let h = c.requires.volume_in_range in
    mul
    (ret w64 c.from.type_inv (c.from.ensures ∙ upper.is) upper.size)
    (ret w64 c.from-2.type_inv (c.from-2.ensures ∙ ap pos (moved c.args.volume h)) (of_pos (gain c.args.volume) (gain_le c.args.volume h)))
    tt

pub overflow_mul-result : goal.overflow_mul-result
overflow_mul-result c = (product c).asks

pub overflow_cast-result : goal.overflow_cast-result
overflow_cast-result c = (cast {w' = w32} (shr 16777216 (product c).num tt).num tt).asks

pub returns : goal.returns
unfolding panned
returns c =
    let r = (cast {w' = w32} (shr 16777216 (product c).num tt).num tt).num in
    (r.is ∙ one_division c.args.volume c.requires.volume_in_range (floor_div c.args.o4 4), subst (Within 1048576) (sym r.is) (widen tt r.size))
