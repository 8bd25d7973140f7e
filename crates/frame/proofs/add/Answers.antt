-- `frame::add` meets its contract: the left sum and the one after it. Assumes nothing.
use mathlib.Core.Path.{◌≡◌, sym, ap, subst, ◌∙◌}
use mathlib.Core.List.{List}
use Prim.Native.Nat.{ℕ, ◌+◌, ◌*◌, ◌<◌}
use native.Mathlib.Omega.{arith}
use lib.IntN.{ℤ}
use lib.ListN.{get_or}
use mir.Syntax.{w32}
use Rattle.numbers.proofs.Local.{ranged}
use Rattle.machine.specs.Words.{sums_word}
use Rattle.frame.specs.Frame.{added_to}
use Rattle.frame.proofs.Steps.{added_in, added_none, added_to_other}
use Rattle.frame.proofs.add.Goals as goal

-- the right sum is the one after the left, which the left's new value leaves
next_sum : (m : List ℕ) (c : ℕ) (z : ℤ) → get_or (added_to m (sums_word + 2 * c) z) (sums_word + 2 * c + 1) 0 ≡ get_or m (sums_word + (2 * c + 1)) 0
next_sum m c z = added_to_other m (sums_word + 2 * c) (sums_word + 2 * c + 1) z (λ e. omega arith) ∙ ap (λ (i : ℕ). get_or m i 0) (omega arith)

pub returns-in_default : goal.returns-in_default
returns-in_default c = rw c.in_default.is (sym (added_none _ _ _ _ (omega arith)))

pub add_to-requires-then-channel-lt-CHANNELS-clause-sum_in_range : goal.add_to-requires-then-channel-lt-CHANNELS-clause-sum_in_range
add_to-requires-then-channel-lt-CHANNELS-clause-sum_in_range c =
    let channel = c.in-Some.field-0.channel in
    rw (c.add_to.ensures, c.left_sum-at.ensures)
    (subst (λ (x : ℕ). x < 8388608) (sym (next_sum c.args.m.now channel _)) (c.requires.sums_in_range (2 * channel + 1) (omega arith)))

pub returns-then-channel-lt-CHANNELS : goal.returns-then-channel-lt-CHANNELS
returns-then-channel-lt-CHANNELS c =
    let left = ranged w32 tt (rw c.in-Some.is at c.requires.left_fits) in
    let right = ranged w32 tt (rw c.in-Some.is at c.requires.right_fits) in
    rw c.in-Some.is
    (rw (c.add_to-then-channel-lt-CHANNELS.ensures, c.add_to.ensures, left.is, right.is, c.left_sum-at.ensures) (sym (added_in _ _ _ _ c.if-channel-lt-CHANNELS.true)))

pub returns-else-channel-lt-CHANNELS : goal.returns-else-channel-lt-CHANNELS
returns-else-channel-lt-CHANNELS c = rw c.in-Some.is (sym (added_none _ _ _ _ c.if-channel-lt-CHANNELS.false))
