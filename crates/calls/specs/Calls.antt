-- A call on a record, and a run of calls one after the other: what each answers, gives and puts
-- out, and the record that it leaves. Every theorem about more than one call speaks of these.
-- In order: a call; what it answers; what it leaves; what it gives beside its answer; what it puts
-- out; a run. Assumes nothing.
use Rattle.answer.specs.Answer.{Answer}
use Rattle.std.specs.Prelude.{ℕ, List, [], ◌∷◌, ◌++◌, ℤ}
use Rattle.machine.specs.Reset.{reset_answer, reset_record}
use Rattle.machine.specs.Waiting.{waiting_answer, mask_given}
use Rattle.registers.specs.Access.{byte_answer, write_record, read_record, read_byte, pot_answer}
use Rattle.registers.specs.Access.{pot_record}
use Rattle.frame.specs.Frame.{frame_answer, frame_record, frame_output, frame_missing}

-- a call: a write has an address and a byte, a read an address; `Waiting` asks which voices wait; a
-- frame is lent sample memory and an output
pub data Call : Type 0 where
  Reset : Call
  Write : ℕ → ℕ → Call
  Read : ℕ → Call
  SetPot : ℕ → Call
  Waiting : Call
  Frame : List ℕ → List ℤ → Call

unfoldable pub answer_to : List ℕ → Call → Answer
answer_to m Reset = reset_answer m
answer_to m (Write a b) = byte_answer m a
answer_to m (Read a) = byte_answer m a
answer_to m (SetPot p) = pot_answer m p
answer_to m Waiting = waiting_answer m
answer_to m (Frame memory out) = frame_answer m memory out

-- the record afterwards
unfoldable pub after : List ℕ → Call → List ℕ
after m Reset = reset_record m
after m (Write a b) = write_record m a b
after m (Read a) = read_record m a
after m (SetPot p) = pot_record m p
after m Waiting = m
after m (Frame memory out) = frame_record m memory out

-- the number that it gives beside its answer: a read its byte, `Waiting` the mask, a frame how many
-- words were missing, another call 0
unfoldable pub given_by : List ℕ → Call → ℕ
given_by m Reset = 0
given_by m (Write a b) = 0
given_by m (Read a) = read_byte m a
given_by m (SetPot p) = 0
given_by m Waiting = mask_given m
given_by m (Frame memory out) = frame_missing m memory out

-- the output that a frame leaves; another call is lent none
unfoldable pub output_from : List ℕ → Call → List ℤ
output_from m Reset = []
output_from m (Write a b) = []
output_from m (Read a) = []
output_from m (SetPot p) = []
output_from m Waiting = []
output_from m (Frame memory out) = frame_output m memory out

-- ---- a run

-- the record after the calls, from the record m
unfoldable pub run : List ℕ → List Call → List ℕ
run m [] = m
run m (c ∷ cs) = run (after m c) cs

unfoldable pub answers : List ℕ → List Call → List Answer
answers m [] = []
answers m (c ∷ cs) = answer_to m c ∷ answers (after m c) cs

-- the values that the frames of a run put out, one after the other
unfoldable pub outputs : List ℕ → List Call → List ℤ
outputs m [] = []
outputs m (c ∷ cs) = output_from m c ++ outputs (after m c) cs
