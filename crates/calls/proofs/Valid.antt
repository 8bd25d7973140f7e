-- A valid record stays valid under every call, and under every run of calls. In order: any call
-- (`after-valid`); a run (`run-valid`). A frame's part is Runs. Assumes nothing.
use mathlib.Core.Path.{◌≡◌}
use mathlib.Core.Bool.{true}
use mathlib.Core.List.{List, [], ◌∷◌}
use Prim.Native.Nat.{ℕ, ◌<◌}
use Rattle.numbers.proofs.Tests.{either}
use Rattle.answer.specs.Answer.{is_done}
use Rattle.machine.specs.Words.{valid}
use Rattle.machine.specs.Reset.{reset_answer, fresh, reset_record}
use Rattle.machine.proofs.Fresh.{fresh-valid}
use Rattle.machine.proofs.Valid.{sound, is_valid}
use Rattle.registers.proofs.Corollaries.{write_valid, read_valid, pot_valid}
use Rattle.calls.proofs.Runs.{frame_sound}
use Rattle.calls.specs.Calls.{Call, Reset, Write, Read, SetPot, Waiting, Frame, after, run}

-- a call whose byte is one
abbrev pub Byte : Call → Type 0
Byte Reset = Unit {0}
Byte (Write a b) = b < 256
Byte (Read a) = Unit {0}
Byte (SetPot p) = Unit {0}
Byte Waiting = Unit {0}
Byte (Frame memory out) = Unit {0}

pub after-valid : (m : List ℕ) (c : Call) → Byte c → valid m ≡ true → valid (after m c) ≡ true
unfolding after reset_record
after-valid m Reset h v = either (λ (n : List ℕ). valid n ≡ true) (is_done (reset_answer m)) fresh m (λ _. fresh-valid) (λ _. v)
after-valid m (Write a b) h v = write_valid m a b h v
after-valid m (Read a) h v = read_valid m a v
after-valid m (SetPot p) h v = pot_valid m p v
after-valid m Waiting h v = v
after-valid m (Frame memory out) h v = is_valid _ (frame_sound m memory out (sound m v))

abbrev pub Bytes : List Call → Type 0
Bytes [] = Unit {0}
Bytes (c ∷ cs) = Byte c × Bytes cs

pub run-valid : (m : List ℕ) (cs : List Call) → Bytes cs → valid m ≡ true → valid (run m cs) ≡ true
unfolding run
run-valid m [] h v = v
run-valid m (c ∷ cs) h v = run-valid (after m c) cs h.1 (after-valid m c h.0 v)
