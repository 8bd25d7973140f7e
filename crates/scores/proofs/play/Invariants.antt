-- The calls that are made and those that are left come to what all of them do (`Going`).
use Rattle.std.proofs.Common.{◌≡◌, ◌≤◌, ◌+◌, ◌-◌, ◌/◌, length}
use Rattle.scores.specs.Score.{command_no, times_of}
use Rattle.scores.specs.Sound.{sample_size}
use Rattle.scores.specs.Playing.{left_from}
use Rattle.scores.proofs.Playing.{Going}
use Rattle.scores.proofs.play.Given as goal

abbrev pub invariant-loop-calls : goal.invariant-loop-calls
invariant-loop-calls l = record {
  going : Going (length l.fn.sound / sample_size) (left_from l.memory l.commands l.fn.position.command l.fn.position.made) l.fn.m l.fn.sound (left_from l.memory l.commands l.command l.made) l.m l.sound l.calls l.frames l.refused;
  within : l.made ≤ times_of (command_no l.commands l.command);
  few : l.calls ≤ l.room;
  same : length l.m ≡ length l.fn.m;
}

abbrev pub decreases-loop-calls : goal.decreases-loop-calls
decreases-loop-calls l = (l.room - l.calls) + (length l.whole - l.command)
