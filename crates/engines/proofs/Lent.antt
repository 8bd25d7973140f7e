-- What a call leaves of what can be lent can be lent again, so that calls can follow one another without end.
-- In order: all of a list; the words of a valid record, and of the record that a call leaves; the output; both, of any outcome that a
-- promise allows. Assumes nothing.
use mathlib.Core.Path.{◌≡◌, refl, sym, subst}
use mathlib.Core.Bool.{true, false}
use mathlib.Core.List.{List, [], ◌∷◌, ◌++◌, map}
use Prim.Native.Nat.{ℕ, zero, suc, ◌<◌, suc-le-suc}
use native.Mathlib.Nat.{zero-lt-suc}
use native.Mathlib.Omega.{arith}
use lib.IntN.{ℤ}
use lib.ListN.{length, get_or, replicate, take, drop}
use Rattle.numbers.specs.Numbers.{signed}
use Rattle.numbers.proofs.Tests.{either, split}
use Rattle.numbers.proofs.Words.{held_mag}
use Rattle.answer.specs.Answer.{is_done}
use Rattle.answer.specs.declared.Refusal.TheVariants.{Pot}
use Rattle.answer.proofs.Refusals.{is_done_lem}
use Rattle.channel.specs.Channel.{put_out}
use Rattle.machine.specs.Words.{sums_word, output_values, valid}
use Rattle.machine.specs.Reset.{reset_record}
use Rattle.machine.specs.Waiting.{waiting_answer}
use Rattle.machine.proofs.Fresh.{fresh-valid}
use Rattle.machine.proofs.Valid.{sound, is_valid}
use Rattle.machine.proofs.Answers.{not_refused}
use Rattle.registers.specs.Access.{pot_answer}
use Rattle.registers.proofs.Laws.{byte_done, asked_back}
use Rattle.registers.proofs.Valid.{word_lt}
use Rattle.registers.proofs.Corollaries.{write_refused, read_refused, pot_refused}
use Rattle.frame.specs.Frame.{played, heard, frame_answer, frame_output}
use Rattle.frame.proofs.Answered.{done_frame, frames_refused}
use Rattle.calls.specs.Calls.{Call, Reset, Write, Read, SetPot, Waiting, Frame, answer_to, after, output_from}
use Rattle.calls.specs.Asks.{call_of, output_of}
use Rattle.calls.specs.declared.Ask.{Ask}
use Rattle.calls.proofs.Valid.{Byte, after-valid}
use Rattle.engines.specs.Engines.{U32, I32, All, Askable, Lent, Outcome, Meets}

-- ---- all of a list

module _ {A : Type 0} (P : A → Type 0) where
  all_places : (d : A) (l : List A) → ((i : ℕ) → i < length l → P (get_or l i d)) → All P l
  all_places d [] f = tt
  all_places d (x ∷ xs) f = (f zero (zero-lt-suc (length xs)), all_places d xs (λ i h. f (suc i) (suc-le-suc h)))

  all_mapped : {B : Type 0} (f : B → A) (l : List B) → ((x : B) → P (f x)) → All P (map f l)
  all_mapped f [] h = tt
  all_mapped f (x ∷ xs) h = (h x, all_mapped f xs h)

  pub all_joined : (k l : List A) → All P k → All P l → All P (k ++ l)
  all_joined [] l h g = g
  all_joined (x ∷ xs) l h g = (h.0, all_joined xs l h.1 g)

  pub all_copies : (n : ℕ) (x : A) → P x → All P (replicate n x)
  all_copies zero x h = tt
  all_copies (suc n) x h = (h, all_copies n x h)

-- ---- the record

pub valid_words : (m : List ℕ) → valid m ≡ true → All U32 m
valid_words m v = let s = sound m v in all_places U32 0 m (λ i h. omega (arith, word_lt m s i (omega (arith, s.size))))

-- a call that is done leaves a valid record: a reset makes one, and every other call was lent one
done_valid : (m : List ℕ) (c : Call) → Byte c → is_done (answer_to m c) ≡ true → valid (after m c) ≡ true
unfolding answer_to after reset_record pot_answer
done_valid m Reset h d = rw d fresh-valid
done_valid m (Write a b) h d = after-valid m (Write a b) h (is_valid m (byte_done m a d).0)
done_valid m (Read a) h d = after-valid m (Read a) h (is_valid m (byte_done m a d).0)
done_valid m (SetPot p) h d = after-valid m (SetPot p) h (is_valid m (asked_back m 1023 p Pot d).0)
done_valid m Waiting h d = after-valid m Waiting h (is_valid m (not_refused m (is_done_lem (waiting_answer m) d)))
done_valid m (Frame memory out) h d = after-valid m (Frame memory out) h (is_valid m (done_frame m memory out (is_done_lem (frame_answer m memory out) d)).machine)

-- and a refused one leaves the record as it was
refused_same : (m : List ℕ) (c : Call) → is_done (answer_to m c) ≡ false → after m c ≡ m
unfolding answer_to after reset_record
refused_same m Reset d = rw d
refused_same m (Write a b) d = write_refused m a b d
refused_same m (Read a) d = (read_refused m a d).0
refused_same m (SetPot p) d = pot_refused m p d
refused_same m Waiting d = refl
refused_same m (Frame memory out) d = sym (frames_refused m memory out (frame_answer m memory out) refl d).leaves

words_after : (m : List ℕ) (c : Call) → Byte c → All U32 m → All U32 (after m c)
words_after m c h w = split (All U32 (after m c)) (is_done (answer_to m c))
    (λ d. valid_words (after m c) (done_valid m c h d))
    (λ d. subst (All U32) (sym (refused_same m c d)) w)

-- ---- the output

-- a value that is put out is held to 20 bits
put_out-bits : (x : ℕ) → I32 (put_out x)
unfolding put_out
put_out-bits x = record { bits = omega (arith, held_mag 524287 (signed 23 x)) }

values_after : (ask : Ask) (m memory : List ℕ) (out : List ℤ) → All I32 out → All I32 (output_of ask m memory out)
unfolding output_from frame_output heard
values_after Ask.Reset m memory out h = h
values_after (Ask.Write a b) m memory out h = h
values_after (Ask.Read a) m memory out h = h
values_after (Ask.SetPot p) m memory out h = h
values_after Ask.Waiting m memory out h = h
values_after Ask.Frame m memory out h =
    either (All I32) (is_done (frame_answer m memory out)) (heard (played memory m)) out
    (λ _. all_mapped I32 put_out (take output_values (drop sums_word (played memory m))) put_out-bits)
    (λ _. h)

-- ---- both

byte_asked : (ask : Ask) (memory : List ℕ) (out : List ℤ) → Askable ask → Byte (call_of ask memory out)
byte_asked Ask.Reset memory out h = tt
byte_asked (Ask.Write a b) memory out h = omega (arith, h.1)
byte_asked (Ask.Read a) memory out h = tt
byte_asked (Ask.SetPot p) memory out h = tt
byte_asked Ask.Waiting memory out h = tt
byte_asked Ask.Frame memory out h = tt

pub lent_again : {m memory : List ℕ} {out : List ℤ} {ask : Ask} (o : Outcome) → Meets m memory out ask o → Lent m memory out ask
    → (next : Ask) → Askable next → Lent o.later memory o.sound next
lent_again {m} {memory} {out} {ask} o h l next n = record {
  words = subst (All U32) (sym h.leaves) (words_after m (call_of ask memory out) (byte_asked ask memory out l.asked) l.words);
  samples = l.samples;
  values = subst (All I32) (sym h.sounds) (values_after ask m memory out l.values);
  asked = n;
}
