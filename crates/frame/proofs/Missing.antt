-- How many words the voices of a frame miss.
-- In order: the turns come to that number (`missed_in_turns`, `missed_in-turns`); it is at most two a voice (`missed_in_most`), and 0 where every
-- word that a running voice asks for is there, and nowhere else (`missed_in_none`, `missed_in_all`). Then of the call: at most 64
-- (`frame_missing_most`); 0 by those words (`frame_missing_none`, `frame_missing_all`); 0 with memory of four banks
-- (`frame_missing_four_banks`). That it does not hang on which voice is which is Paired. Assumes nothing.
use mathlib.Core.Path.{◌≡◌, refl, ap}
use mathlib.Core.List.{List}
use Prim.Native.Nat.{ℕ, ◌+◌, ◌*◌, ◌≤◌, ◌<◌}
use native.Mathlib.Nat.{le_refl}
use native.Mathlib.Omega.{arith}
use lib.IntN.{ℤ}
use lib.ListN.{length, get_or}
use Rattle.numbers.specs.Sum.{sum}
use Rattle.numbers.proofs.Sum.{sum_ext, sum_most, sum_zeros, none_summed}
use Rattle.numbers.proofs.Tests.{either}
use Rattle.answer.specs.Answer.{Done, is_done}
use Rattle.answer.proofs.Refusals.{is_done_lem}
use Rattle.machine.specs.Words.{actv_word}
use Rattle.machine.specs.Voices.{voice_at}
use Rattle.machine.proofs.Valid.{Sound, in_range, range_voice}
use Rattle.sample.specs.Sample.{most_memory_words}
use Rattle.sample.proofs.Laws.{within_four_banks}
use Rattle.voice.specs.Voice.{voice_of}
use Rattle.voice.specs.Missed.{missed_by}
use Rattle.voice.proofs.Missed.{missed_most, missed_none, missed_both}
use Rattle.frame.specs.Missing.{missed_in, AllThere}
use Rattle.frame.specs.Frame.{turns, frame_answer, frame_missing}
use Rattle.frame.proofs.Keeps.{active_le, places_of}
use Rattle.frame.proofs.Leaves.{turned}
use Rattle.frame.proofs.Answered.{done_frame}

-- ---- in turns

-- what the voices below k miss, each by its registers as its turn begins
unfoldable pub missed_in_turns : List ℕ → ℕ → List ℕ → ℕ
missed_in_turns memory k m = sum k (λ v. missed_by memory (voice_of (voice_at (turns memory v m) v)))

-- a voice comes to its turn as it was when the frame began
pub missed_in-turns : (memory : List ℕ) {m : List ℕ} → Sound m → missed_in_turns memory (get_or m actv_word 0 + 1) m ≡ missed_in memory m
unfolding missed_in_turns missed_in
missed_in-turns memory {m} s =
    sum_ext (get_or m actv_word 0 + 1) (λ v. missed_by memory (voice_of (voice_at (turns memory v m) v))) (λ v. missed_by memory (voice_of (voice_at m v)))
    (λ v l.
    let h : v < 32 = omega (arith, active_le m s) in
    ap (λ (w : List ℕ). missed_by memory (voice_of w)) ((turned memory v (omega arith) s).ahead v h (le_refl v)))

pub missed_in-turns_most : (memory : List ℕ) (k : ℕ) (m : List ℕ) → missed_in_turns memory k m ≤ k * 2
unfolding missed_in_turns
missed_in-turns_most memory k m = sum_most k 2 (λ v. missed_by memory (voice_of (voice_at (turns memory v m) v))) (λ v l. missed_most memory _)

-- ---- how many

pub missed_in_most : (memory m : List ℕ) → missed_in memory m ≤ (get_or m actv_word 0 + 1) * 2
unfolding missed_in
missed_in_most memory m = sum_most (get_or m actv_word 0 + 1) 2 (λ v. missed_by memory (voice_of (voice_at m v))) (λ v l. missed_most memory _)

pub missed_in_none : (memory m : List ℕ) → missed_in memory m ≡ 0 → AllThere memory m
unfolding missed_in
missed_in_none memory m e v h t =
    missed_none memory (voice_of (voice_at m v)) (none_summed (get_or m actv_word 0 + 1) (λ u. missed_by memory (voice_of (voice_at m u))) e v (omega arith)) t

pub missed_in_all : (memory m : List ℕ) → AllThere memory m → missed_in memory m ≡ 0
unfolding missed_in
missed_in_all memory m h =
    sum_zeros (get_or m actv_word 0 + 1) (λ v. missed_by memory (voice_of (voice_at m v))) (λ v l. missed_both memory (voice_of (voice_at m v)) (h v (omega arith)))

-- ---- the call

module _ (m memory : List ℕ) (out : List ℤ) where
  -- a fact of the number holds of a call if it holds of 0 and of what the voices of a valid record miss
  either_way : (P : ℕ → Type 0) → P 0 → (Sound m → P (missed_in memory m)) → P (frame_missing m memory out)
  unfolding frame_missing
  either_way P h k = either P (is_done (frame_answer m memory out)) (missed_in memory m) 0
      (λ d. k (done_frame m memory out (is_done_lem (frame_answer m memory out) d)).machine)
      (λ _. h)

  pub frame_missing_most : frame_missing m memory out ≤ 64
  frame_missing_most = either_way (λ n. n ≤ 64) (omega arith) (λ s. omega (arith, missed_in_most memory m, active_le m s))

  -- of a frame that is done, 0 says that every word was there; and where every word is, it is 0
  pub frame_missing_none : frame_answer m memory out ≡ Done → frame_missing m memory out ≡ 0 → AllThere memory m
  unfolding frame_missing
  frame_missing_none d e = missed_in_none memory m (rw d at e)

  pub frame_missing_all : AllThere memory m → frame_missing m memory out ≡ 0
  frame_missing_all h = either_way (λ n. n ≡ 0) refl (λ _. missed_in_all memory m h)

  -- with memory of four banks none is missing; longer memory is refused
  pub frame_missing_four_banks : most_memory_words ≤ length memory → frame_missing m memory out ≡ 0
  frame_missing_four_banks l = either_way (λ n. n ≡ 0) refl (λ s. missed_in_all memory m (λ v h t.
      let k : v < 32 = omega (arith, active_le m s) in
      let w = voice_of (voice_at m v) in
      let b = within_four_banks w.cr w.accum (places_of (voice_at m v) (λ j q. range_voice m (in_range s) v j k q)).accum in
      record { first = omega (arith, b.0); second = omega (arith, b.1) }))
