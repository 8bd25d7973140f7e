-- An engine as a host meets it: to each call, on what is lent, one outcome. In order: what can be
-- lent; the engine; when it keeps the promises; the engine of the definitions; six ways in which an
-- engine is wrong. Whether it keeps them and whether it is wrong is asked of what can be lent
-- alone, since no code is ever lent anything else. Assumes nothing.
use Rattle.std.specs.Prelude.{◌≡◌, IsTrue, IsFalse, List, [], ◌∷◌, ℕ, ◌^◌, ◌<◌, ℤ, pos, replicate}
use Rattle.numbers.specs.Numbers.{Bits}
use Rattle.answer.specs.Answer.{Answer, is_done}
use Rattle.machine.specs.Words.{output_values}
use Rattle.calls.specs.Calls.{answer_to, after, given_by}
use Rattle.calls.specs.Asks.{call_of, output_of, Performs}
use Rattle.calls.specs.declared.Ask.{Ask}

-- ---- what can be lent

-- numbers as the types of the code have them
abbrev pub U8 : ℕ → Type 0
U8 x = x < 2 ^ 8

abbrev pub U16 : ℕ → Type 0
U16 x = x < 2 ^ 16

abbrev pub U32 : ℕ → Type 0
U32 x = x < 2 ^ 32

abbrev pub I32 : ℤ → Type 0
I32 z = Bits 32 z

-- P holds of each element of a list
abbrev pub All : {A : Type 0} → (A → Type 0) → List A → Type 0
All P [] = Unit {0}
All P (x ∷ xs) = P x × All P xs

-- a call that can be asked, by its address and byte, or by its pot value
abbrev pub Askable : Ask → Type 0
Askable Ask.Reset = Unit {0}
Askable (Ask.Write a b) = U32 a × U8 b
Askable (Ask.Read a) = U32 a
Askable (Ask.SetPot p) = U32 p
Askable Ask.Waiting = Unit {0}
Askable Ask.Frame = Unit {0}

-- a record, sample memory and an output, each of any length, and a call
pub record Lent (m memory : List ℕ) (out : List ℤ) (ask : Ask) : Type 0 where
  pub words : All U32 m
  pub samples : All U16 memory
  pub values : All I32 out
  pub asked : Askable ask

-- ---- engines

pub record Outcome : Type 0 where
  pub answer : Answer
  pub given : ℕ
  pub later : List ℕ
  pub sound : List ℤ

-- Of what is lent, in the same order. What an engine may remember of earlier calls does not enter:
-- the promise fixes the outcome by what is lent now, so one that remembers keeps it only if it is
-- such a function whatever it remembers.
abbrev pub Engine : Type 0
Engine = List ℕ → List ℕ → List ℤ → Ask → Outcome

abbrev pub Meets : List ℕ → List ℕ → List ℤ → Ask → Outcome → Type 0
Meets m memory out ask o = Performs m memory out ask o.answer o.given o.later o.sound

abbrev pub Keeps : Engine → Type 0
Keeps e =
    (m memory : List ℕ) (out : List ℤ) (ask : Ask) → Lent m memory out ask
    → Meets m memory out ask (e m memory out ask)

-- the engine of the definitions
abbrev pub defined : Engine
defined m memory out ask = record {
  answer = answer_to m (call_of ask memory out);
  given = given_by m (call_of ask memory out);
  later = after m (call_of ask memory out);
  sound = output_of ask m memory out;
}

-- ---- wrong engines

abbrev pub RefusesAll : Engine → Type 0
RefusesAll e =
    (m memory : List ℕ) (out : List ℤ) (ask : Ask) → Lent m memory out ask
    → IsFalse (is_done (e m memory out ask).answer)

-- every frame that is done puts out zeros
abbrev pub PutsOutZeros : Engine → Type 0
PutsOutZeros e =
    (m memory : List ℕ) (out : List ℤ) → Lent m memory out Ask.Frame
    → IsTrue (is_done (e m memory out Ask.Frame).answer)
    → (e m memory out Ask.Frame).sound ≡ replicate output_values (pos 0)

-- every frame says that no word was missing
abbrev pub MissesNothing : Engine → Type 0
MissesNothing e =
    (m memory : List ℕ) (out : List ℤ) → Lent m memory out Ask.Frame
    → (e m memory out Ask.Frame).given ≡ 0

-- whoever asks is told that no voice waits
abbrev pub TellsNone : Engine → Type 0
TellsNone e =
    (m memory : List ℕ) (out : List ℤ) → Lent m memory out Ask.Waiting
    → (e m memory out Ask.Waiting).given ≡ 0

abbrev pub NeverChanges : Engine → Type 0
NeverChanges e =
    (m memory : List ℕ) (out : List ℤ) (ask : Ask) → Lent m memory out ask
    → (e m memory out ask).later ≡ m

-- the frame after a frame, which is lent what that one left, puts out what that one did
abbrev pub Repeats : Engine → Type 0
Repeats e =
    (m memory : List ℕ) (out : List ℤ) → Lent m memory out Ask.Frame
    → (e (e m memory out Ask.Frame).later memory (e m memory out Ask.Frame).sound Ask.Frame).sound
    ≡ (e m memory out Ask.Frame).sound
