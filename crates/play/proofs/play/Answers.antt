-- The part that is lent on is the commands in full. Assumes nothing.
use Rattle.std.proofs.Common.{ℕ, List, length, take, sym, ap, ◌∙◌, arith, length-drop, length-take-le}
use Rattle.repeats.specs.Repeats.{in_full}
use Rattle.scores.proofs.Judged.{part_is, good_score}
use Rattle.play.proofs.play.Goals as goal

pub slice_bounds-full_bytes-count : goal.slice_bounds-full_bytes-count
slice_bounds-full_bytes-count g c = (good_score c.args.score.now c.requires.0).1

pub slice_bounds-full_bytes-start : goal.slice_bounds-full_bytes-start
slice_bounds-full_bytes-start g c = (good_score c.args.score.now c.requires.0).1

pub full_bytes-n-requires : goal.full_bytes-n-requires
full_bytes-n-requires g c = rw (part_is c.args.score.now, length-drop) (omega (arith, (good_score c.args.score.now c.requires.0).0))

pub slice_bounds-sound-end : goal.slice_bounds-sound-end
slice_bounds-sound-end g c =
    let bytes = c.full_bytes-n.ensures ∙ ap (λ (xs : List ℕ). length (in_full xs)) (part_is c.args.score.now) in
    sym (length-take-le c.full_bytes-n.result c.args.full.now (omega (arith, bytes, (good_score c.args.score.now c.requires.0).2, c.requires.1)))

pub sound-requires : goal.sound-requires
sound-requires g c =
    let bytes = c.full_bytes-n.ensures ∙ ap (λ (xs : List ℕ). length (in_full xs)) (part_is c.args.score.now) in
    (c.requires.0, ap (λ (n : ℕ). take n c.args.full.now) bytes ∙ c.requires.2)
