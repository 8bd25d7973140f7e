-- `address::event`: each mode leaves the place that the rule's event has in it.
use mathlib.Core.Path.{refl, ap, ◌∙◌}
use mir.Facts.{to_z-of_z}
use Rattle.numbers.specs.Numbers.{word}
use Rattle.control.specs.Control.{with_bit, stp0_bit, lei_bit, ble_bit, dir_bit}
use Rattle.address.proofs.Laws.{left_by, left_in, same_place}
use Rattle.address.proofs.event.Goals as goal

pub returns-in-Stop : goal.returns-in-Stop
unfolding left_by
returns-in-Stop c = same_place refl (c.put.ensures ∙ ap (with_bit stp0_bit 1) c.raise-up.ensures) ∙ left_in _ _ _ _ _ c.in-Stop.is c.loop_mode.ensures

pub returns-in-Loop : goal.returns-in-Loop
unfolding left_by
returns-in-Loop c =
    same_place (c.wrap.ensures ∙ ap (word 32) (to_z-of_z c.ranges.across)) c.raise-up.ensures ∙ left_in _ _ _ _ _ c.in-Loop.is c.loop_mode.ensures

pub returns-in-Once : goal.returns-in-Once
unfolding left_by
returns-in-Once c =
    same_place (c.wrap-in-Once.ensures ∙ ap (word 32) (to_z-of_z c.ranges.across))
    (c.put-in-Once.ensures ∙ ap (with_bit lei_bit 1) (c.put-once.ensures ∙ ap (with_bit ble_bit 0) c.raise-up.ensures))
    ∙ left_in _ _ _ _ _ c.in-Once.is c.loop_mode.ensures

pub returns-in-Turn : goal.returns-in-Turn
unfolding left_by
returns-in-Turn c =
    same_place (c.wrap-in-Turn.ensures ∙ ap (word 32) (to_z-of_z c.ranges.back)) (c.put-in-Turn.ensures ∙ ap (with_bit dir_bit _) c.raise-up.ensures)
    ∙ left_in _ _ _ _ _ c.in-Turn.is c.loop_mode.ensures
