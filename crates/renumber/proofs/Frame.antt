-- One frame of two machines that match: it puts out the same values, misses as many words, and they match after it. It is the law of frames for
-- every relation of voices, `frame/proofs/Paired`, taken for voices that hold the same registers. Assumes nothing.
use mathlib.Core.Path.{◌≡◌, sym, ◌∙◌}
use mathlib.Core.List.{List}
use Prim.Native.Nat.{ℕ}
use lib.IntN.{ℤ}
use lib.ListN.{get_or}
use Rattle.answer.specs.Answer.{Done}
use Rattle.machine.specs.Words.{actv_word}
use Rattle.machine.proofs.Valid.{Sound}
use Rattle.frame.specs.Frame.{played}
use Rattle.frame.specs.Paired.{Paired}
use Rattle.frame.proofs.Keeps.{sound_played}
use Rattle.frame.proofs.Leaves.{heard_length}
use Rattle.frame.proofs.Paired.{KeptByTurns, heard_paired, missed_paired, closed_paired}
use Rattle.calls.specs.Calls.{Frame, answer_to, after}
use Rattle.calls.proofs.Runs.{frame_leaves, frame_sounds, frame_misses}
use Rattle.renumber.specs.Demand.{Renumbering, SameVoice, Match, SameFrame}
use Rattle.renumber.proofs.Same.{same_after, same_share, same_missing}

kept : KeptByTurns SameVoice
kept = record {
  turns = λ memory slow h. same_after memory slow h;
  adds = λ memory slow h i. same_share memory slow h i;
  misses = λ memory h. same_missing memory h;
}

module _ (memory : List ℕ) (s : ℕ → ℕ) (m n : List ℕ) (sm : Sound m) (sn : Sound n) (R : Renumbering (get_or m actv_word 0) s) (M : Match s m n)
    (out out' : List ℤ) (dm : answer_to m (Frame memory out) ≡ Done) (dn : answer_to n (Frame memory out') ≡ Done) where
  paired : Paired SameVoice s m n
  paired = record { voices = M.voices; active = M.active; slow = M.slow; sums = M.sums }

  pub frame_same : SameFrame m n (Frame memory out) (Frame memory out')
  frame_same = record {
    values = frame_sounds m memory out dm ∙ heard_paired kept memory sm sn R.into R.one_to_one R.stays_active paired ∙ sym (frame_sounds n memory out' dn);
    twelve = rw (frame_sounds m memory out dm) (heard_length (played memory m) (sound_played memory sm).size);
    missing = frame_misses m memory out dm ∙ missed_paired kept memory sm sn R.into R.one_to_one R.stays_active paired ∙ sym (frame_misses n memory out' dn);
  }

  pub frame_match : Match s (after m (Frame memory out)) (after n (Frame memory out'))
  frame_match =
      let p = closed_paired kept memory sm sn R.into R.one_to_one R.stays_active paired in
      rw (frame_leaves m memory out dm, frame_leaves n memory out' dn) (record { voices = p.voices; active = p.active; slow = p.slow; sums = p.sums })
