-- `address::forward`: targets and distances fit 64 bits, so the machine's numbers are the rule's.
use mathlib.Core.Path.{refl, sym, ap, ◌∙◌}
use native.Mathlib.Omega.{arith}
use lib.IntN.{pos}
use Rattle.numbers.specs.Numbers.{word}
use Rattle.numbers.proofs.Local.{add, sub, test_le}
use Rattle.address.proofs.Laws.{wide, forward_free, forward_within, forward_event_lem, same_place}
use Rattle.address.proofs.forward.Goals as goal
use Rattle.address.proofs.forward.Goals.{then-flag-via-then-flag, then-flag-via-else-flag+then-target-from}

pub returns-then-flag : goal.returns-then-flag
returns-then-flag c =
    let target = add (wide c.from.type_inv c.from.ensures c.ranges.accum.fits) (wide c.from-2.type_inv c.from-2.ensures c.ranges.fc.fits) tt in
    same_place (c.wrap.ensures ∙ ap (word 32) target.num.is) refl
    ∙ sym (elim c.then-flag.branch [
      | then-flag-via-then-flag w ↦ forward_free _ _ _ _ _ (sym c.flag.ensures ∙ w.if-flag.true)
      | then-flag-via-else-flag+then-target-from w ↦ forward_within _ _ _ _ _
          (test_le target.num
          (wide {a = c.args.end} w.from-else-flag.type_inv
          (w.from-else-flag.ensures ∙ ap pos (omega arith)) c.ranges.end.fits)
          w.if-target-from.true)
    ])

pub returns : goal.returns
returns c =
    let end =
    wide {a = c.args.end} c.from-else-flag.type_inv (c.from-else-flag.ensures ∙ ap pos (omega arith))
    c.ranges.end.fits in
    let target = add (wide c.from.type_inv c.from.ensures c.ranges.accum.fits) (wide c.from-2.type_inv c.from-2.ensures c.ranges.fc.fits) tt in
    let past = sub target.num (wide c.from-3.type_inv c.from-3.ensures c.ranges.end.fits) tt in
    let across = add (wide c.from-4.type_inv c.from-4.ensures c.ranges.start.fits) past.num tt in
    let back = sub (wide c.from-5.type_inv c.from-5.ensures c.ranges.end.fits) past.num tt in
    c.event.ensures ∙ rw (across.num.is, back.num.is)
    (sym (forward_event_lem _ _ _ _ _ (sym c.flag.ensures ∙ c.if-flag.false) (test_le target.num end c.if-target-from.false)))
