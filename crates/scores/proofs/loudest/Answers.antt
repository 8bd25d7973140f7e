use Rattle.std.proofs.Common.{◌≡◌, ◌∙◌, refl, arith, rules, max, subst, sym, ap}
use Rattle.std.specs.Int.{w16, from_le_bytes, cast_signed}
use Rattle.std.specs.Prelude.{nat_abs, ℕ, List, [], ◌∷◌}
use Rattle.std.specs.List.{fold}
use Rattle.std.proofs.lemmas.Grind.{common_steps}
use Rattle.std.proofs.lemmas.Fn.{fold_over, slice_gives, fronts}
use Rattle.std.proofs.lemmas.List.Sums.{fold-append}
use Rattle.scores.proofs.Loud.{loudest_of_same}
use Rattle.scores.proofs.loudest.Goals as goal

abbrev louder : ℕ → List ℕ → ℕ
louder most sample = max most (nat_abs (cast_signed w16 (from_le_bytes w16 sample)))

pub returns : goal.returns
returns c =
    let loud : c.fold.result ≡ fold louder c.args.before c.as_chunks.result.0.now =
    subst (λ l. c.fold.result ≡ fold louder c.args.before l) c.iter.ensures.rest
    (fold_over fronts (λ y. y.now) _ (λ ys n. n ≡ fold louder c.args.before ys) _ (λ ys a x b f' j k. let more = fold-append louder c.args.before ys (x.now ∷ []) in (let w : b ≡ louder a x.now = search rules in w ∙ ap (λ m. louder m x.now) j ∙ sym more, refl))
    _ _ _ _ (slice_gives c.iter.result) refl c.fold.ensures.ran) in
    loud ∙ loudest_of_same c.args.sound.now _ _ c.as_chunks.ensures.front c.as_chunks.ensures.front_len (grind (arith, common_steps)) c.type_inv.sound c.args.before
