-- `address::step`: the direction's step, and what it leaves of 16 bits.
use mathlib.Core.Path.{◌≡◌, sym, subst, ◌∙◌}
use Prim.Native.Nat.{ℕ, ◌<◌}
use Rattle.address.specs.declared.Place.{Place}
use Rattle.address.specs.Address.{stepped}
use Rattle.address.proofs.Laws.{steps_back, steps_on}
use Rattle.address.proofs.Range.{stepped_small}
use Rattle.address.proofs.step.Goals as goal

small : {p : Place} (CR FC START END ACCUM : ℕ) → CR < 65536 → START < 4294967296 → END < 4294967296 → p ≡ stepped CR FC START END ACCUM
    → (p ≡ stepped CR FC START END ACCUM) × (p.cr < 65536)
small CR FC START END ACCUM h s e is = (is, subst (λ (p : Place). p.cr < 65536) (sym is) (stepped_small CR FC START END ACCUM h s e).cr)

pub returns-then-flag : goal.returns-then-flag
returns-then-flag c =
    small _ _ _ _ _ c.requires c.ranges.start.fits c.ranges.end.fits (c.reverse.ensures ∙ sym (steps_back _ _ _ _ _ (sym c.flag.ensures ∙ c.if-flag.true)))

pub returns-else-flag : goal.returns-else-flag
returns-else-flag c =
    small _ _ _ _ _ c.requires c.ranges.start.fits c.ranges.end.fits (c.forward.ensures ∙ sym (steps_on _ _ _ _ _ (sym c.flag.ensures ∙ c.if-flag.false)))
