-- One call as the code makes it is what is promised of it: a frame, whose values are put as four bytes, and any other, of which nothing is heard.
-- In order: which asks are for a frame; that a frame leaves twelve values (`call_long`); the two cases (`a_frame`, `another`). Assumes nothing.
use mathlib.Core.Path.{◌≡◌, refl, sym, ap, ◌∙◌}
use mathlib.Core.Bool.{true, false, false≢true}
use mathlib.Core.List.{List, []}
use Prim.Native.Nat.{ℕ}
use native.Mathlib.Nat.{add-zero}
use lib.IntN.{ℤ}
use lib.ListN.{length, take-append-drop}
use Rattle.numbers.proofs.Tests.{split}
use Rattle.layout.specs.Parts.{with_part}
use Rattle.answer.specs.Answer.{Answer, is_done}
use Rattle.answer.proofs.Refusals.{is_done_lem}
use Rattle.machine.specs.Words.{output_values}
use Rattle.frame.specs.Frame.{played, frame_answer, frame_output}
use Rattle.frame.proofs.Answered.{done_frame}
use Rattle.frame.proofs.Keeps.{sound_played}
use Rattle.frame.proofs.Leaves.{heard_length}
use Rattle.calls.specs.Calls.{Call, Frame, answer_to, output_from}
use Rattle.calls.specs.Asks.{call_of, output_of, Performs}
use Rattle.calls.specs.declared.Ask.{Ask}
use Rattle.scores.specs.Score.{silence, is_frame_ask}
use Rattle.scores.specs.Sound.{sample_bytes}
use Rattle.scores.specs.Playing.{is_frame, heard_at, Makes}

-- an ask is for a frame where its call is one
pub asks_frame : (ask : Ask) (memory : List ℕ) (out : List ℤ) → is_frame (call_of ask memory out) ≡ is_frame_ask ask
unfolding is_frame is_frame_ask
asks_frame Ask.Reset memory out = refl
asks_frame (Ask.Write a b) memory out = refl
asks_frame (Ask.Read a) memory out = refl
asks_frame (Ask.SetPot p) memory out = refl
asks_frame Ask.Waiting memory out = refl
asks_frame Ask.Frame memory out = refl

-- and then its output is what it was lent afterwards
puts_out : (ask : Ask) (m memory : List ℕ) (out : List ℤ) → is_frame_ask ask ≡ true → output_of ask m memory out ≡ output_from m (call_of ask memory out)
unfolding is_frame_ask
puts_out Ask.Reset m memory out h = absurd (false≢true h)
puts_out (Ask.Write a b) m memory out h = absurd (false≢true h)
puts_out (Ask.Read a) m memory out h = absurd (false≢true h)
puts_out (Ask.SetPot p) m memory out h = absurd (false≢true h)
puts_out Ask.Waiting m memory out h = absurd (false≢true h)
puts_out Ask.Frame m memory out h = refl

-- a frame that is lent twelve zeros leaves twelve values, refused or not
frame_long : (m memory : List ℕ) → length (output_from m (Frame memory silence)) ≡ output_values
unfolding answer_to output_from frame_output
frame_long m memory =
    split _ (is_done (frame_answer m memory silence))
    (λ t.
    let d = is_done_lem (frame_answer m memory silence) t in
    rw t (heard_length (played memory m) (sound_played memory (done_frame m memory silence d).machine).size))
    (λ f. rw f refl)

abbrev pub Long : Call → Type 0
Long c = (m : List ℕ) → is_frame c ≡ true → length (output_from m c) ≡ output_values

pub call_long : (ask : Ask) (memory : List ℕ) → Long (call_of ask memory silence)
unfolding is_frame
call_long Ask.Reset memory m h = absurd (false≢true h)
call_long (Ask.Write a b) memory m h = absurd (false≢true h)
call_long (Ask.Read a) memory m h = absurd (false≢true h)
call_long (Ask.SetPot p) memory m h = absurd (false≢true h)
call_long Ask.Waiting memory m h = absurd (false≢true h)
call_long Ask.Frame memory m h = frame_long m memory

-- no part replaced
same : (xs : List ℕ) (i : ℕ) → xs ≡ with_part xs i []
same xs i = sym (rw add-zero (take-append-drop i xs))

module _ (m memory : List ℕ) (ask : Ask) (sound : List ℕ) (at : ℕ) {answer : Answer} {given : ℕ} {later : List ℕ} {values : List ℤ}
    (p : Performs m memory silence ask answer given later values) where
  pub a_frame : is_frame_ask ask ≡ true → {heard : List ℕ} → heard ≡ with_part sound at (sample_bytes values)
      → Makes m (call_of ask memory silence) sound at answer later heard
  unfolding heard_at
  a_frame h w =
      let k : is_frame (call_of ask memory silence) ≡ true = asks_frame ask memory silence ∙ h in
      let o : values ≡ output_from m (call_of ask memory silence) = p.sounds ∙ puts_out ask m memory silence h in
      record {
        leaves = p.leaves;
        hears = rw k (w ∙ ap (λ (v : List ℤ). with_part sound at (sample_bytes v)) o);
        answers = p.answers;
      }

  pub another : is_frame_ask ask ≡ false → Makes m (call_of ask memory silence) sound at answer later sound
  unfolding heard_at
  another h =
      let k : is_frame (call_of ask memory silence) ≡ false = asks_frame ask memory silence ∙ h in
      record {
        leaves = p.leaves;
        hears = rw k (same sound at);
        answers = p.answers;
      }
