-- `codes::compress` makes the code of the sample's exponent and quotient, which is the sample's code. Assumes nothing.
use mathlib.Core.Path.{sym, ap, subst, ◌∙◌}
use Prim.Native.Nat.{ℕ, ◌+◌, ◌*◌}
use lib.IntN.{ℤ}
use lib.Signed.{mag}
use mir.Facts.{to_z-of_z}
use Rattle.numbers.specs.Numbers.{floor_div, word}
use Rattle.codes.specs.Codes.{Compressed}
use Rattle.codes.specs.Exponent.{Exponent, spacing}
use Rattle.codes.proofs.Samples.{made, made_compressed}
use Rattle.codes.proofs.compress.Goals as goal

pub returns : goal.returns
unfolding made
returns c =
    let s = c.args.sample in
    let e = c.exponent-e in
    let own = to_z-of_z c.ranges.sample in
    subst (λ (m : ℕ). Compressed s (32 * e.result + m)) (sym (c.mantissa-m.ensures.0 ∙ ap (λ (z : ℤ). word 5 (floor_div z (spacing e.result))) own))
    (made_compressed s e.result (subst (λ (t : ℕ). Exponent t e.result) (c.magnitude.ensures.0 ∙ ap mag own) e.ensures))
