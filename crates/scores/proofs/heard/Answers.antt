-- `scores::heard` meets its contract: six numbers of 32 bits add up in 64, and a shift is the division that rounds down. Assumes nothing.
use Rattle.std.proofs.Common.{arith, ◌≡◌, sym, ap, subst, ◌∙◌, ◌*◌, ◌^◌, w32, w64, ℤ, pos, ◌+ℤ◌, to_z, of_z}
use lib.Signed.{mag}
use mir.Val.{SFits}
use Prim.Native.Nat.{◌<◌}
use Rattle.numbers.specs.Numbers.{floor_div, minus, held, word, Bits, Within}
use Rattle.numbers.proofs.Within.{of_bits, of_sfits, widen}
use Rattle.numbers.proofs.Words.{held_mag}
use Rattle.numbers.proofs.Local.{Num, Done, any, ret, add, shr, cast, back}
use Rattle.scores.specs.Sound.{heard_of}
use Rattle.scores.proofs.heard.Goals as goal

-- what the code has of a value, in 64 bits
abbrev kept : ℤ → ℤ
kept z = to_z w64 (of_z w64 z)

wide : {r z : ℤ} → mag r < 9223372036854775808 → r ≡ to_z w32 (of_z w32 z) → SFits w32 z → Num w64 (2 ^ 31) z (kept r)
wide m e f = ret w64 m (e ∙ (any f).is) (of_sfits f)

-- the sums of four values to six, and what is kept of that of six
four : (c : goal.After-from-4) → Done w64 (4 * 2 ^ 31) (c.args.a +ℤ c.args.b +ℤ c.args.c +ℤ c.args.d) (kept (kept (kept c.from.result +ℤ kept c.from-2.result) +ℤ kept c.from-3.result) +ℤ kept c.from-4.result)
four c =
    let two = add (wide c.from.type_inv c.from.ensures c.ranges.a) (wide c.from-2.type_inv c.from-2.ensures c.ranges.b) tt in
    let three = add two.num (wide c.from-3.type_inv c.from-3.ensures c.ranges.c) tt in
    add three.num (wide c.from-4.type_inv c.from-4.ensures c.ranges.d) tt

five : (c : goal.After-from-5) → Done w64 (5 * 2 ^ 31) (c.args.a +ℤ c.args.b +ℤ c.args.c +ℤ c.args.d +ℤ c.args.e) (kept (kept (kept (kept c.from.result +ℤ kept c.from-2.result) +ℤ kept c.from-3.result) +ℤ kept c.from-4.result) +ℤ kept c.from-5.result)
five c = add (four c.before).num (wide c.from-5.type_inv c.from-5.ensures c.ranges.e) tt

six : (c : goal.After-from-6) → Done w64 (6 * 2 ^ 31) (c.args.a +ℤ c.args.b +ℤ c.args.c +ℤ c.args.d +ℤ c.args.e +ℤ c.args.f) (kept (kept (kept (kept (kept c.from.result +ℤ kept c.from-2.result) +ℤ kept c.from-3.result) +ℤ kept c.from-4.result) +ℤ kept c.from-5.result) +ℤ kept c.from-6.result)
six c = add (five c.before).num (wide c.from-6.type_inv c.from-6.ensures c.ranges.f) tt

-- what was held, and that it is within 16 bits
value : (c : goal.After-hold) → to_z w32 (of_z w32 c.hold.result) ≡ held (minus 32768) (pos 32767) (floor_div (c.args.a +ℤ c.args.b +ℤ c.args.c +ℤ c.args.d +ℤ c.args.e +ℤ c.args.f) 16)
value c = back w32 c.hold.type_inv ∙ c.hold.ensures ∙ ap (held (minus 32768) (pos 32767)) (cast {w' = w32} (shr 16 (six c.before).num tt).num tt).num.is

pub overflow_add-sum-3 : goal.overflow_add-sum-3
overflow_add-sum-3 c = (four c).asks

pub overflow_add-sum-4 : goal.overflow_add-sum-4
overflow_add-sum-4 c = (five c).asks

pub overflow_add-sum-5 : goal.overflow_add-sum-5
overflow_add-sum-5 c = (six c).asks

pub overflow_cast-sum : goal.overflow_cast-sum
overflow_cast-sum c = (cast {w' = w32} (shr 16 (six c).num tt).num tt).asks

pub word_of-requires-clause-z_fits : goal.word_of-requires-clause-z_fits
word_of-requires-clause-z_fits c =
    let z = floor_div (c.args.a +ℤ c.args.b +ℤ c.args.c +ℤ c.args.d +ℤ c.args.e +ℤ c.args.f) 16 in
    let h : Bits 16 (held (minus 32768) (pos 32767) z) = record { bits = omega (arith, held_mag 32767 z) } in
    subst (Within 536870912) (sym (value c)) (widen tt (of_bits h))

pub returns : goal.returns
unfolding heard_of
returns c = c.word_of.ensures.0 ∙ ap (word 16) (value c.before)
