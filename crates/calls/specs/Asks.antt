-- A call as a host hands it over, with what it lends beside it. Assumes nothing.
use Rattle.answer.specs.Answer.{Answer}
use Rattle.std.specs.Prelude.{ℕ, ◌≡◌, List, ℤ}
use Rattle.calls.specs.Calls.{Call, Reset, Write, Read, SetPot, Waiting, Frame, answer_to, after}
use Rattle.calls.specs.Calls.{given_by, output_from}
use Rattle.calls.specs.declared.Ask.{Ask}

abbrev pub call_of : Ask → List ℕ → List ℤ → Call
call_of Ask.Reset memory out = Reset
call_of (Ask.Write a b) memory out = Write a b
call_of (Ask.Read a) memory out = Read a
call_of (Ask.SetPot p) memory out = SetPot p
call_of Ask.Waiting memory out = Waiting
call_of Ask.Frame memory out = Frame memory out

-- the output that was lent: a frame's takes its values, another call's stays
abbrev pub output_of : Ask → List ℕ → List ℕ → List ℤ → List ℤ
output_of Ask.Reset m memory out = out
output_of (Ask.Write a b) m memory out = out
output_of (Ask.Read a) m memory out = out
output_of (Ask.SetPot p) m memory out = out
output_of Ask.Waiting m memory out = out
output_of Ask.Frame m memory out = output_from m (Frame memory out)

-- what a call promises, whichever it is
pub record Performs (m memory : List ℕ) (out : List ℤ) (ask : Ask) (answer : Answer) (given : ℕ)
    (later : List ℕ) (sound : List ℤ) : Type 0 where
  pub answers : answer ≡ answer_to m (call_of ask memory out)
  pub gives : given ≡ given_by m (call_of ask memory out)
  pub leaves : later ≡ after m (call_of ask memory out)
  pub sounds : sound ≡ output_of ask m memory out
