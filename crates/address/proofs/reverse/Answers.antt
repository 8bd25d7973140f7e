-- `address::reverse`: as `forward`, with the loop points exchanged.
use mathlib.Core.Path.{refl, sym, ap, ◌∙◌}
use lib.IntN.{pos, ◌-ℤ◌}
use Rattle.numbers.specs.Numbers.{word}
use Rattle.numbers.proofs.Local.{add, sub, test_le}
use Rattle.address.proofs.Laws.{wide, lt_le, reverse_free, reverse_within, reverse_event_lem, same_place}
use Rattle.address.proofs.reverse.Goals as goal
use Rattle.address.proofs.reverse.Goals.{then-flag-via-then-flag, then-flag-via-else-flag+then-target-from}

pub returns-then-flag : goal.returns-then-flag
returns-then-flag c =
    let target = sub (wide c.from.type_inv c.from.ensures c.ranges.accum.fits) (wide c.from-2.type_inv c.from-2.ensures c.ranges.fc.fits) tt in
    same_place (c.wrap.ensures ∙ ap (word 32) target.num.is) refl
    ∙ sym (elim c.then-flag.branch [
      | then-flag-via-then-flag w ↦ reverse_free _ _ _ _ _ (sym c.flag.ensures ∙ w.if-flag.true)
      | then-flag-via-else-flag+then-target-from w ↦ reverse_within _ _ _ _ _
          (lt_le (pos c.args.accum -ℤ pos c.args.fc) c.args.start (test_le (wide w.from-else-flag.type_inv w.from-else-flag.ensures c.ranges.start.fits) target.num w.if-target-from.true))
    ])

pub returns : goal.returns
returns c =
    let start = wide c.from-else-flag.type_inv c.from-else-flag.ensures c.ranges.start.fits in
    let target = sub (wide c.from.type_inv c.from.ensures c.ranges.accum.fits) (wide c.from-2.type_inv c.from-2.ensures c.ranges.fc.fits) tt in
    let past = sub (wide c.from-3.type_inv c.from-3.ensures c.ranges.start.fits) target.num tt in
    let across = sub (wide c.from-4.type_inv c.from-4.ensures c.ranges.end.fits) past.num tt in
    let back = add (wide c.from-5.type_inv c.from-5.ensures c.ranges.start.fits) past.num tt in
    c.event.ensures ∙ rw (across.num.is, back.num.is)
    (sym (reverse_event_lem _ _ _ _ _ (sym c.flag.ensures ∙ c.if-flag.false) (lt_le (pos c.args.accum -ℤ pos c.args.fc) c.args.start (test_le start target.num c.if-target-from.false))))
