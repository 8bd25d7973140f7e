-- `ramp::ramp` meets its contract: the sum fits, and what is held to 16 bits is its own word. Assumes nothing.
use Rattle.std.proofs.Common.{arith, sym, ap, subst, ◌∙◌, ◌/◌, ◌%◌, w32, pos, ◌+ℤ◌, to_z, of_z}
use lib.Dec.{lit<}
use Rattle.numbers.specs.Numbers.{held, word, Within}
use Rattle.numbers.proofs.Within.{of_bits, widen}
use Rattle.numbers.proofs.Words.{signed-bits, held_nat}
use Rattle.numbers.proofs.Local.{Done, Num, ret, nat, add}
use Rattle.ramp.specs.Ramp.{ramped, increment}
use Rattle.ramp.proofs.ramp.Goals as goal

-- the value and its increment
moved : (c : goal.After-number_of-increment) → Done w32 65663 (pos c.args.value +ℤ increment c.args.by) (to_z w32 c.args.value +ℤ to_z w32 (of_z w32 c.number_of-increment.result))
unfolding increment
moved c =
    add (nat w32 65535 c.args.value tt (omega arith))
    (ret w32 c.number_of-increment.type_inv c.number_of-increment.ensures (of_bits (signed-bits 8 (c.args.by / 256 % 256) (lit< tt) (omega arith)))) tt

-- what `hold` returned
limited : (c : goal.After-hold) → Num w32 65535 (held (pos 0) (pos 65535) (pos c.args.value +ℤ increment c.args.by)) (to_z w32 (of_z w32 c.hold.result))
limited c = ret w32 c.hold.type_inv (c.hold.ensures ∙ ap (held (pos 0) (pos 65535)) (moved c.before).num.is) (held_nat 65535 _).1

pub overflow_add-value : goal.overflow_add-value
overflow_add-value c = (moved c).asks

pub word_of-requires-clause-z_fits : goal.word_of-requires-clause-z_fits
word_of-requires-clause-z_fits c = subst (Within 536870912) (sym (limited c).is) (widen tt (limited c).size)

pub returns : goal.returns
unfolding ramped
returns c = (c.word_of.ensures.0 ∙ ap (word 16) (limited c.before).is, c.word_of.ensures.1)
