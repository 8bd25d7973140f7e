-- The promises can be kept; and they leave no choice, and so no room for a wrong engine. In order: the engine of the definitions keeps
-- them; two outcomes that a promise allows are equal; two engines that keep the promises agree; a frame of one note can be lent, and a record in
-- which a voice waits; six wrong engines, each of which breaks a promise in one of these. Assumes nothing.
use mathlib.Core.Path.{◌≡◌, refl, sym, ap, ◌∙◌}
use mathlib.Core.Bool.{false≢true}
use mathlib.Core.List.{List, []}
use Prim.Native.Nat.{ℕ}
use lib.Dec.{lit<}
use lib.IntN.{ℤ, pos, nat_abs}
use lib.ListN.{get_or, replicate}
use native.Mathlib.Omega.{arith}
use Rattle.answer.specs.Answer.{is_done}
use Rattle.machine.specs.Words.{accum_word, voice_word}
use Rattle.machine.proofs.Valid.{is_valid}
use Rattle.frame.specs.Frame.{frame_record, frame_output}
use Rattle.frame.proofs.Answered.{done_frame}
use Rattle.calls.specs.Calls.{answer_to, after, given_by, output_from}
use Rattle.engines.specs.Engines.{U16, I32, Lent, Outcome, Engine, Meets, Keeps, defined, RefusesAll, PutsOutZeros, MissesNothing, TellsNone, NeverChanges, Repeats}
use Rattle.engines.proofs.Heard.{one, memory, short, silence, framed, one_done, one_heard, one_missing, one_stepped, two_heard, flagged, flagged_valid, one_waits}
use Rattle.engines.proofs.Lent.{all_joined, all_copies, valid_words, lent_again}
use Rattle.calls.specs.declared.Ask.{Ask}

pub keeps_defined : Keeps defined
keeps_defined m memory out ask l = record { answers = refl; gives = refl; leaves = refl; sounds = refl }

pub one_outcome : {m memory : List ℕ} {out : List ℤ} {ask : Ask} (o p : Outcome) → Meets m memory out ask o → Meets m memory out ask p → o ≡ p
one_outcome o p h k =
    let a : o.answer ≡ p.answer = h.answers ∙ sym k.answers in
    let b : o.given ≡ p.given = h.gives ∙ sym k.gives in
    let l : o.later ≡ p.later = h.leaves ∙ sym k.leaves in
    let s : o.sound ≡ p.sound = h.sounds ∙ sym k.sounds in
    rw (a, b, l, s)

pub one_engine : (e f : Engine) → Keeps e → Keeps f
    → (m memory : List ℕ) (out : List ℤ) (ask : Ask) → Lent m memory out ask → e m memory out ask ≡ f m memory out ask
one_engine e f h k m memory out ask l = one_outcome (e m memory out ask) (f m memory out ask) (h m memory out ask l) (k m memory out ask l)

-- ---- wrong engines

pub one_lent : Lent one memory silence Ask.Frame
one_lent = record {
  words = valid_words one (is_valid one (done_frame one memory silence one_done).machine);
  samples = all_joined U16 (replicate 8 32767) (replicate 4 32768)
      (all_copies U16 8 32767 (lit< tt)) (all_copies U16 4 32768 (lit< tt));
  values = all_copies I32 12 (pos 0) (record { bits = lit< tt });
  asked = tt;
}

-- and so it can with a memory that ends where the note is
short_lent : Lent one short silence Ask.Frame
short_lent = record { words = one_lent.words; samples = all_copies U16 6 32767 (lit< tt); values = one_lent.values; asked = tt }

-- a record in which a voice waits can be lent, with nothing beside it
flagged_lent : Lent flagged [] [] Ask.Waiting
flagged_lent = record { words = valid_words flagged flagged_valid; samples = tt; values = tt; asked = tt }

-- the first value heard, without its sign
leftmost : List ℤ → ℕ
leftmost l = nat_abs (get_or l 0 (pos 0))

module _ (e : Engine) (keeps : Keeps e) where
  pub not_refuses_all : RefusesAll e → ⊥
  unfolding answer_to
  not_refuses_all h = false≢true (sym (h one memory silence Ask.Frame one_lent) ∙ ap is_done ((keeps one memory silence Ask.Frame one_lent).answers ∙ one_done))

  pub not_zeros : PutsOutZeros e → ⊥
  unfolding answer_to output_from leftmost
  not_zeros h =
      let k = keeps one memory silence Ask.Frame one_lent in
      let z = h one memory silence one_lent (ap is_done (k.answers ∙ one_done)) in
      let p : ◌≡◌ {A = ℕ} 523248 0 = ap leftmost (sym one_heard ∙ sym k.sounds ∙ z) in
      omega arith

  pub not_missing_nothing : MissesNothing e → ⊥
  unfolding given_by
  not_missing_nothing h =
      let p : ◌≡◌ {A = ℕ} 1 0 = sym one_missing ∙ sym (keeps one short silence Ask.Frame short_lent).gives ∙ h one short silence short_lent in
      omega arith

  pub not_telling_none : TellsNone e → ⊥
  unfolding given_by
  not_telling_none h =
      let p : ◌≡◌ {A = ℕ} 1 0 = sym one_waits ∙ sym (keeps flagged [] [] Ask.Waiting flagged_lent).gives ∙ h flagged [] [] flagged_lent in
      omega arith

  pub not_frozen : NeverChanges e → ⊥
  unfolding after framed
  not_frozen h =
      let p = sym (keeps one memory silence Ask.Frame one_lent).leaves ∙ h one memory silence Ask.Frame one_lent in
      let q : ◌≡◌ {A = ℕ} 2049 10240 = sym one_stepped ∙ ap (λ m. get_or m (voice_word 0 accum_word) 0) p in
      omega arith

  pub not_repeats : Repeats e → ⊥
  unfolding output_from after leftmost
  not_repeats h =
      let o = e one memory silence Ask.Frame in
      let k = keeps one memory silence Ask.Frame one_lent in
      let l = keeps o.later memory o.sound Ask.Frame (lent_again o k one_lent Ask.Frame tt) in
      let s : (e o.later memory o.sound Ask.Frame).sound ≡ frame_output (frame_record one memory silence) memory (frame_output one memory silence) =
      l.sounds ∙ (λ i. frame_output (k.leaves i) memory (k.sounds i)) in
      let p : ◌≡◌ {A = ℕ} 515056 523248 = ap leftmost (sym two_heard ∙ sym s ∙ h one memory silence one_lent ∙ k.sounds ∙ one_heard) in
      omega arith
