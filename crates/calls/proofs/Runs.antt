-- Runs of calls taken apart, and a frame as one of the calls.
-- In order: the record, the answers and the output of two runs one after the other (`run_both`, `answers_both`, `outputs_both`); a run split at
-- a call (`outputs_at`); a frame, refused or not (`after_frame`): the record stays valid (`frame_sound`), and each shared word that no frame
-- touches stays as it was (`frame_word`); one that is not refused: what it leaves, puts out and misses (`frame_leaves`, `frame_sounds`,
-- `frame_misses`). What turns and closing leave of voices and sums is `frame/proofs/Leaves`; what a byte written or read leaves is the crate
-- `registers`. Assumes nothing.
use mathlib.Core.Path.{◌≡◌, refl, sym, ap, ◌∙◌}
use mathlib.Core.Logic.{◌≢◌}
use mathlib.Core.List.{List, [], ◌∷◌, ◌++◌, append_assoc}
use Prim.Native.Nat.{ℕ, ◌≤◌, ◌<◌}
use lib.IntN.{ℤ}
use lib.ListN.{get_or}
use Rattle.numbers.proofs.Tests.{either}
use Rattle.answer.specs.Answer.{Answer, Done, is_done}
use Rattle.machine.specs.Words.{page_word, irqv_word, slow_word, sums_word}
use Rattle.machine.proofs.Valid.{Sound}
use Rattle.frame.specs.Missing.{missed_in}
use Rattle.frame.specs.Frame.{played, heard, closed, frame_answer, frame_record, frame_output, frame_missing}
use Rattle.frame.proofs.Leaves.{all_turned, closed_stays, sound_closed}
use Rattle.calls.specs.Calls.{Call, Frame, answer_to, after, given_by, output_from, run, answers, outputs}

-- ---- two runs one after the other

pub run_both : (m : List ℕ) (t u : List Call) → run m (t ++ u) ≡ run (run m t) u
unfolding run
run_both m [] u = refl
run_both m (c ∷ t) u = run_both (after m c) t u

pub answers_both : (m : List ℕ) (t u : List Call) → answers m (t ++ u) ≡ answers m t ++ answers (run m t) u
unfolding run answers
answers_both m [] u = refl
answers_both m (c ∷ t) u = ap (λ (l : List Answer). answer_to m c ∷ l) (answers_both (after m c) t u)

pub outputs_both : (m : List ℕ) (t u : List Call) → outputs m (t ++ u) ≡ outputs m t ++ outputs (run m t) u
unfolding run outputs
outputs_both m [] u = refl
outputs_both m (c ∷ t) u =
    ap (λ (l : List ℤ). output_from m c ++ l) (outputs_both (after m c) t u) ∙ sym (append_assoc (output_from m c) (outputs (after m c) t) (outputs (run (after m c) t) u))

-- split at a call before which nothing is put out
pub outputs_at : (m : List ℕ) (t : List Call) (c : Call) (u : List Call) → outputs m t ≡ []
    → outputs m (t ++ c ∷ u) ≡ output_from (run m t) c ++ outputs (after (run m t) c) u
unfolding outputs
outputs_at m t c u e = outputs_both m t (c ∷ u) ∙ ap (λ (l : List ℤ). l ++ outputs (run m t) (c ∷ u)) e

-- ---- a frame

-- a fact of the record holds after a frame, refused or not, if it holds before it and of what the turns and the closing leave
pub after_frame : (P : List ℕ → Type 0) (m memory : List ℕ) (out : List ℤ) → P m → P (closed (played memory m)) → P (after m (Frame memory out))
unfolding after frame_record
after_frame P m memory out h k = either P (is_done (frame_answer m memory out)) (closed (played memory m)) m (λ _. k) (λ _. h)

module _ (m memory : List ℕ) (out : List ℤ) (s : Sound m) where
  pub frame_sound : Sound (after m (Frame memory out))
  frame_sound = after_frame Sound m memory out s (sound_closed (played memory m) (all_turned memory s).sound)

  pub frame_word : (i : ℕ) → page_word ≤ i → i < sums_word → i ≢ irqv_word → i ≢ slow_word → get_or (after m (Frame memory out)) i 0 ≡ get_or m i 0
  frame_word i h l d e = after_frame (λ (n : List ℕ). get_or n i 0 ≡ get_or m i 0) m memory out refl (closed_stays (all_turned memory s) i h l d e)

-- one that is not refused
module _ (m memory : List ℕ) (out : List ℤ) (done : answer_to m (Frame memory out) ≡ Done) where
  pub frame_leaves : after m (Frame memory out) ≡ closed (played memory m)
  unfolding answer_to after frame_record
  frame_leaves = rw done

  pub frame_sounds : output_from m (Frame memory out) ≡ heard (played memory m)
  unfolding answer_to output_from frame_output
  frame_sounds = rw done

  pub frame_misses : given_by m (Frame memory out) ≡ missed_in memory m
  unfolding answer_to given_by frame_missing
  frame_misses = rw done
