-- Each part but the last makes all its calls, and fewer are left; what was written of it stands before what is heard of those. Assumes nothing.
use Rattle.std.proofs.Common.{◌≡◌, ◌∙◌, ◌≤◌, ℕ, List, ◌++◌, Option, sym, ap, subst, append_assoc, append-nil, rules, arith}
use Rattle.std.specs.Io.KnownBytes.{Appends}
use Rattle.std.proofs.KnownBytes.{Appends-trans}
use Rattle.repeats.specs.Repeats.{command_count}
use Rattle.scores.specs.Playing.{heard_from, left_from}
use Rattle.scores.proofs.Playing.{left_none}
use Rattle.scores.proofs.Whole.{none_heard, part-heard}
use Rattle.play.proofs.Fewer.{fewer}
use Rattle.play.proofs.render.Goals as goal

-- where no command is left, all is written
all_written : (a b : Option (List ℕ)) (m memory commands xs whole : List ℕ) (k made : ℕ) → command_count commands ≤ k → Appends a b xs
    → xs ++ heard_from m (left_from memory commands k made) ≡ whole → Appends a b whole
all_written a b m memory commands xs whole k made h p e =
    subst (Appends a b)
    (sym (append-nil xs) ∙ ap (λ (l : List ℕ). xs ++ l) (sym (ap (heard_from m) (left_none memory commands k made h) ∙ none_heard m)) ∙ e) p

pub loop-position-smaller : goal.loop-position-smaller
loop-position-smaller g c =
    let l = c.loop-position in
    fewer l.m c.args.memory.now c.args.commands.now l.position.command l.position.made l.part c.play-next.result _ _ l.invariant.room c.loop-position-test.true c.play-next.ensures

pub loop-position-preserved : goal.loop-position-preserved
loop-position-preserved g c =
    let h = c.loop-position.invariant.heard in
    record {
      same = search rules;
      within = c.play-next.ensures.within;
      room = search rules;
      heard = (
        h.0 ++ _,
        Appends-trans _ _ _ _ _ h.1 c.in_ok-loud.ensures,
        append_assoc h.0 _ _ ∙ ap (λ (l : List ℕ). h.0 ++ l) (sym (part-heard c.play-next.ensures)) ∙ h.2,
      );
    }

pub returns : goal.returns
returns g c =
    let h = c.loop-position.invariant.heard in
    all_written _ _ _ _ _ _ _ _ _ (omega (arith, c.loop-position-test.false)) h.1 h.2
