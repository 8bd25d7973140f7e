-- One value more.
use Rattle.std.proofs.Common.{◌≡◌, ℕ, ◌+◌, ◌<◌, List, [], ◌∷◌, ◌++◌, ℤ, pos, length, get_or, take, sym, ap, subst, ◌∙◌, append-nil, arith, rules}
use Rattle.std.proofs.lemmas.List.{take_more}
use Rattle.std.specs.Io.KnownBytes.{Appends}
use Rattle.std.proofs.KnownBytes.{Appends-trans}
use Rattle.std.proofs.lemmas.Grind.{flat_map-append}
use Rattle.score.specs.Values.{value_text, values_text}
use Rattle.score.proofs.put_values.Goals as goal

one_more : (values : List ℤ) (i : ℕ) (x : ℤ) → x ≡ get_or values i (pos 0) → i < length values
    → values_text (take i values) ++ value_text x ≡ values_text (take (i + 1) values)
one_more values i x e h =
    let value = get_or values i (pos 0) in
    ap (λ (y : ℤ). values_text (take i values) ++ value_text y) e
    ∙ sym
    (ap values_text (take_more values i (pos 0) h)
    ∙ flat_map-append value_text (take i values) (value ∷ [])
    ∙ ap (λ l. values_text (take i values) ++ l) (append-nil (value_text value)))

pub loop-value-preserved : goal.loop-value-preserved
loop-value-preserved g c =
    subst (Appends _ _) (one_more c.args.values.now c.loop-value.value-index _ (search rules) (omega arith))
    (Appends-trans _ _ _ _ _ c.loop-value.invariant c.in_ok-put_field.ensures)
