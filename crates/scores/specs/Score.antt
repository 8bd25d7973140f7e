-- A score: the words of sample memory at its start, and its commands, in full; which calls a
-- command makes; the calls of all commands; how many frames these are; whether a score is good. In
-- that order. How commands stand in bytes, and what one that repeats others stands for, is
-- `repeats`. Assumes nothing.
use Rattle.std.specs.Prelude.{ℕ, zero, suc, ◌*◌, ◌%◌, ◌-◌, ◌<◌, ◌≡◌, Bool, true, false}
use Rattle.std.specs.Prelude.{if◌then◌else◌, not, ◌&&◌, List, [], ◌∷◌, ◌++◌, ◌==◌, nat_lt, ℤ, pos}
use Rattle.std.specs.Prelude.{length, slice_index, drop, replicate, Option, None, Some, Result, Ok}
use Rattle.std.specs.Prelude.{Err}
use Rattle.numbers.specs.Sum.{sum}
use Rattle.layout.specs.Bytes.{big2_at}
use Rattle.repeats.specs.Repeats.{command_bytes, command_count, kind_at, number_at, byte_at}
use Rattle.repeats.specs.Repeats.{repeat_kind, in_full}
use Rattle.machine.specs.Words.{output_values}
use Rattle.calls.specs.Calls.{Call}
use Rattle.calls.specs.Asks.{call_of}
use Rattle.calls.specs.declared.Ask.{Ask}
use Rattle.calls.specs.declared.Ask.TheVariants.{Reset, Write, Read, SetPot, Waiting, Frame}
use Rattle.scores.specs.declared.Command.{Command}
use Rattle.scores.specs.declared.Command.TheVariants.{Once, Frames, Nothing}
use Rattle.scores.specs.declared.ScoreError.{ScoreError}
use Rattle.scores.specs.declared.ScoreError.TheVariants.{TooLong, NoMemory, Cut, TooManyCommands}
use Rattle.scores.specs.declared.ScoreError.TheVariants.{Unknown, NotThere, TooManyFrames}

abbrev pub memory_bytes : ℕ
memory_bytes = 8192

-- the first n words of the memory are the score's bytes by twos, the high one first
abbrev pub Filled : ℕ → List ℕ → List ℕ → Type 0
Filled n score memory = (k : ℕ) → k < n → slice_index memory k ≡ big2_at score (2 * k)

-- what stands after them, in full
abbrev pub commands_of : List ℕ → List ℕ
commands_of score = in_full (drop memory_bytes score)

-- ---- a command

-- kinds 0 to 5 are a call that is made once, 6 is n frames, and another kind no call
unfoldable pub command_of : ℕ → ℕ → ℕ → Command
command_of kind n byte =
    if kind == 0 then Once Reset
    else if kind == 1 then Once (Write n byte)
    else if kind == 2 then Once (Read n)
    else if kind == 3 then Once (SetPot n)
    else if kind == 4 then Once Frame
    else if kind == 5 then Once Waiting
    else if kind == 6 then Frames n
    else Nothing

-- how many calls it makes, and which one where so many of them are made
unfoldable pub times_of : Command → ℕ
times_of (Once a) = 1
times_of (Frames n) = n
times_of Nothing = 0

unfoldable pub call_after : Command → ℕ → Option Ask
call_after (Once a) made = if made == 0 then Some a else None
call_after (Frames n) made = if nat_lt made n then Some Frame else None
call_after Nothing made = None

-- the command whose bytes begin at i, and command k of all, which are counted from 0
abbrev pub command_at : List ℕ → ℕ → Command
command_at xs i = command_of (kind_at xs i) (number_at xs i) (byte_at xs i)

abbrev pub command_no : List ℕ → ℕ → Command
command_no xs k = command_at xs (command_bytes * k)

-- ---- the calls

-- Every frame is lent an output of zeros, so that one that is refused is silent.
abbrev pub silence : List ℤ
silence = replicate output_values (pos 0)

-- a command's calls
unfoldable pub calls_of : List ℕ → Command → List Call
calls_of memory (Once a) = call_of a memory silence ∷ []
calls_of memory (Frames n) = replicate n (call_of Frame memory silence)
calls_of memory Nothing = []

-- those of n commands, from command k on
unfoldable pub calls_from : List ℕ → List ℕ → ℕ → ℕ → List Call
calls_from memory commands zero k = []
calls_from memory commands (suc n) k =
    calls_of memory (command_no commands k) ++ calls_from memory commands n (suc k)

-- those of all commands, and of a score
abbrev pub all_calls : List ℕ → List ℕ → List Call
all_calls memory commands = calls_from memory commands (command_count commands) 0

abbrev pub score_calls : List ℕ → List ℕ → List Call
score_calls memory score = all_calls memory (commands_of score)

-- ---- frames

unfoldable pub is_frame_ask : Ask → Bool
is_frame_ask Reset = false
is_frame_ask (Write a b) = false
is_frame_ask (Read a) = false
is_frame_ask (SetPot p) = false
is_frame_ask Waiting = false
is_frame_ask Frame = true

unfoldable pub frames_of : Command → ℕ
frames_of (Once a) = if is_frame_ask a then 1 else 0
frames_of (Frames n) = n
frames_of Nothing = 0

unfoldable pub all_frames : List ℕ → ℕ
all_frames commands = sum (command_count commands) (λ k. frames_of (command_no commands k))

abbrev pub score_frames : List ℕ → ℕ
score_frames score = all_frames (commands_of score)

-- ---- whether a score is good

-- good, or what is wrong with it
abbrev pub Verdict : Type 0
Verdict = Result (Unit {0}) ScoreError

abbrev pub Good : Verdict
Good = Ok tt

abbrev pub most_bytes : ℕ
most_bytes = 65536

-- of 65,536 commands
abbrev pub most_full_bytes : ℕ
most_full_bytes = 262144

-- kinds 0 to 6 are calls, and 7 is `repeat_kind`
abbrev pub kind_count : ℕ
kind_count = 8

-- four bytes each, and 36 that a WAVE file's own number counts beside them, are below 2 ^ 32
abbrev pub most_frames : ℕ
most_frames = 1073741814

-- the first n commands are of kinds below this one, and all are
unfoldable pub first_below : ℕ → List ℕ → ℕ → Bool
first_below kind commands zero = true
first_below kind commands (suc n) =
    first_below kind commands n && nat_lt (kind_at commands (command_bytes * n)) kind

abbrev pub all_below : ℕ → List ℕ → Bool
all_below kind commands = first_below kind commands (command_count commands)

-- of commands in full: the first of these that holds; a repeat is still there where its commands
-- are not
unfoldable pub commands_verdict : List ℕ → Verdict
commands_verdict commands =
    if not (all_below kind_count commands) then Err Unknown
    else if not (all_below repeat_kind commands) then Err NotThere
    else if nat_lt most_frames (all_frames commands) then Err TooManyFrames
    else Good

-- of a score
unfoldable pub verdict_of : List ℕ → Verdict
verdict_of score =
    if nat_lt most_bytes (length score) then Err TooLong
    else if nat_lt (length score) memory_bytes then Err NoMemory
    else if not ((length score - memory_bytes) % command_bytes == 0) then Err Cut
    else if nat_lt most_full_bytes (length (commands_of score)) then Err TooManyCommands
    else commands_verdict (commands_of score)
