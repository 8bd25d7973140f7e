-- What the C functions promise: the number of the call's answer, and all that the call leaves, by
-- the definition of a call; and what an import does, which is lent no record. Assumes nothing.
use Rattle.std.specs.Prelude.{◌≡◌, ℕ, List, ℤ, length}
use Rattle.answer.specs.Answer.{answer_number}
use Rattle.wave_in.specs.Import.{imported, import_memory}
use Rattle.calls.specs.Calls.{Call, answer_to, after, given_by, output_from, Read, Waiting, Frame}

-- a call that is lent a record alone
pub record Calling (m : List ℕ) (c : Call) (number : ℕ) (later : List ℕ) : Type 0 where
  pub answers : number ≡ answer_number (answer_to m c)
  pub leaves : later ≡ after m c

-- a read, which is lent a place for its byte
pub record Reading (m : List ℕ) (a : ℕ) (number byte : ℕ) (later : List ℕ) : Type 0 where
  pub calls : Calling m (Read a) number later
  pub gives : byte ≡ given_by m (Read a)

-- which voices wait: the record is lent to look at, with a place for the mask
pub record TellingWaiting (m : List ℕ) (number mask : ℕ) : Type 0 where
  pub calls : Calling m Waiting number m
  pub gives : mask ≡ given_by m Waiting

-- a frame, which is lent sample memory, an output and a place for the number of missing words
pub record Framing (m memory : List ℕ) (out : List ℤ) (number missing : ℕ) (later : List ℕ)
    (sound : List ℤ) : Type 0 where
  pub calls : Calling m (Frame memory out) number later
  pub misses : missing ≡ given_by m (Frame memory out)
  pub sounds : sound ≡ output_from m (Frame memory out)

-- an import, which is lent a file, sample memory and four places
pub record Importing (file memory : List ℕ) (word : ℕ) (number start end bits samples : ℕ)
    (later : List ℕ) : Type 0 where
  pub answers : number ≡ answer_number (imported file (length memory) word).answer
  pub starts : start ≡ (imported file (length memory) word).start
  pub ends : end ≡ (imported file (length memory) word).end
  pub loops : bits ≡ (imported file (length memory) word).bits
  pub counts : samples ≡ (imported file (length memory) word).samples
  pub leaves : later ≡ import_memory file memory word
