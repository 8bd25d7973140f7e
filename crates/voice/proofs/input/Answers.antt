-- `voice::input` meets its contract: the stop bits pick 0, with no word missing, or the sample. Assumes nothing.
use mathlib.Core.Path.{sym, ◌∙◌}
use native.Mathlib.Nat.{add-zero}
use mir.Syntax.{w32}
use Rattle.numbers.specs.Numbers.{Bits}
use Rattle.numbers.proofs.Local.{handed}
use Rattle.voice.specs.Missed.{missed_by}
use Rattle.voice.proofs.input.Goals as goal

pub returns-then-not-running-clause-missing_after : goal.returns-then-not-running-clause-missing_after
unfolding missed_by
returns-then-not-running-clause-missing_after c = rw (sym c.running.ensures ∙ c.if-not-running.true) (sym (add-zero c.args.missing.now))

pub returns-clause-value : goal.returns-clause-value
returns-clause-value c =
    let i = c.interpolate in
    handed w32 (Bits 18) i.type_inv i.ensures.value (rw (sym c.running.ensures ∙ c.if-not-running.false))

pub returns-clause-missing_after : goal.returns-clause-missing_after
unfolding missed_by
returns-clause-missing_after c = c.interpolate.ensures.missing_after ∙ rw (sym c.running.ensures ∙ c.if-not-running.false)
