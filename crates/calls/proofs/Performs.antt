-- Each call's own promise is that of the call as a value, also where the call gives a result that was mapped. Assumes nothing.
use Rattle.std.specs.Prelude.{Result, Ok, Err}
use Rattle.std.specs.Result.{MatchResult, IsOkAnd}
use mathlib.Core.Path.{◌≡◌, refl, sym, subst, ap}
use mathlib.Core.List.{List}
use Prim.Native.Nat.{ℕ}
use lib.IntN.{ℤ}
use Rattle.answer.specs.declared.Refusal.{Refusal}
use Rattle.answer.specs.Answer.{Answer, answer_of, value_or}
use Rattle.machine.specs.Reset.{Resets}
use Rattle.machine.specs.Waiting.{TellsWaiting}
use Rattle.registers.specs.Access.{Writes, Reads, SetsPot}
use Rattle.frame.specs.Frame.{Frames}
use Rattle.calls.specs.Calls.{answer_to, after, given_by, output_from}
use Rattle.calls.specs.Asks.{Performs}
use Rattle.calls.specs.declared.Ask.{Ask}

module _ (m memory : List ℕ) (out : List ℤ) {r : Answer} {later : List ℕ} where
  pub resets : Resets m r later → Performs m memory out Ask.Reset r 0 later out
  unfolding answer_to after given_by
  resets p = record { answers = p.answers; gives = refl; leaves = p.leaves; sounds = refl }

  pub writes : (a b : ℕ) → Writes m a b r later → Performs m memory out (Ask.Write a b) r 0 later out
  unfolding answer_to after given_by
  writes a b p = record { answers = p.answers; gives = refl; leaves = p.leaves; sounds = refl }

  pub reads : (a : ℕ) {x : ℕ} → Reads m a r x later → Performs m memory out (Ask.Read a) r x later out
  unfolding answer_to after given_by
  reads a p = record { answers = p.answers; gives = p.gives; leaves = p.leaves; sounds = refl }

  pub sets_pot : (n : ℕ) → SetsPot m n r later → Performs m memory out (Ask.SetPot n) r 0 later out
  unfolding answer_to after given_by
  sets_pot n p = record { answers = p.answers; gives = refl; leaves = p.leaves; sounds = refl }

  pub tells_waiting : {x : ℕ} → later ≡ m → TellsWaiting m r x → Performs m memory out Ask.Waiting r x later out
  unfolding answer_to after given_by
  tells_waiting e p = record { answers = p.answers; gives = p.gives; leaves = e; sounds = refl }

  pub frames : {x : ℕ} {sound : List ℤ} → Frames m memory out r x later sound → Performs m memory out Ask.Frame r x later sound
  unfolding answer_to after given_by output_from
  frames p = record { answers = p.answers; gives = p.misses; leaves = p.leaves; sounds = p.sounds }

-- what is owed of one ask is owed of an equal one
pub of_ask : {m memory later : List ℕ} {out sound : List ℤ} {a b : Ask} {r : Answer} {x : ℕ} → a ≡ b → Performs m memory out b r x later sound
    → Performs m memory out a r x later sound
of_ask {m} {memory} {later} {out} {sound} {r} {x} e p = subst (λ (k : Ask). Performs m memory out k r x later sound) (sym e) p

-- a result s that is r with its value mapped: where r has no value to 0, else to the same number
module _ {m memory later : List ℕ} {out sound : List ℤ} {ask : Ask} (s : Result ℕ Refusal) where
  pub of_nothing : (r : Answer) (P : Unit {0} → ℕ → Type 0) → MatchResult r (λ x. IsOkAnd s (P x)) (λ e. s ≡ Err e)
      → ((x : Unit {0}) (y : ℕ) → P x y → y ≡ 0) → Performs m memory out ask r 0 later sound
      → Performs m memory out ask (answer_of s) (value_or 0 s) later sound
  of_nothing r P h q p = at r s h p
    where
      at : (r : Answer) (s : Result ℕ Refusal) → MatchResult r (λ x. IsOkAnd s (P x)) (λ e. s ≡ Err e) → Performs m memory out ask r 0 later sound
          → Performs m memory out ask (answer_of s) (value_or 0 s) later sound
      at (Ok tt) (Ok y) h p = rw (q tt y h) p
      at (Ok tt) (Err e) h p = absurd h
      at (Err e) s h p = rw h p

  pub of_number : (r : Result ℕ Refusal) (P : ℕ → ℕ → Type 0) → MatchResult r (λ x. IsOkAnd s (P x)) (λ e. s ≡ Err e)
      → ((x y : ℕ) → P x y → y ≡ x) → Performs m memory out ask (answer_of r) (value_or 0 r) later sound
      → Performs m memory out ask (answer_of s) (value_or 0 s) later sound
  of_number r P h q p = at r s h p
    where
      at : (r s : Result ℕ Refusal) → MatchResult r (λ x. IsOkAnd s (P x)) (λ e. s ≡ Err e) → Performs m memory out ask (answer_of r) (value_or 0 r) later sound
          → Performs m memory out ask (answer_of s) (value_or 0 s) later sound
      at (Ok x) (Ok y) h p = rw (q x y h) p
      at (Ok x) (Err e) h p = absurd h
      at (Err e) s h p = rw h p

-- a result s that is r
pub same_result : {m memory later : List ℕ} {out sound : List ℤ} {ask : Ask} (s r : Result ℕ Refusal)
    → s ≡ r → Performs m memory out ask (answer_of r) (value_or 0 r) later sound
    → Performs m memory out ask (answer_of s) (value_or 0 s) later sound
same_result s r e p = rw e p

-- a result s that is r with its value mapped to itself is r
pub mapped_same : (s r : Result ℕ Refusal) (P : ℕ → ℕ → Type 0)
    → MatchResult r (λ x. IsOkAnd s (P x)) (λ e. s ≡ Err e) → ((x y : ℕ) → P x y → y ≡ x) → s ≡ r
mapped_same (Ok y) (Ok x) P h q = ap Ok (q x y h)
mapped_same (Err e) (Ok x) P h q = absurd h
mapped_same s (Err e) P h q = h
