-- the frames of the commands that were passed, fewer than 65,536 for each
use Rattle.std.proofs.Common.{◌≡◌, ◌≤◌, ◌*◌}
use Rattle.numbers.specs.Sum.{sum}
use Rattle.scores.specs.Score.{command_no, frames_of}
use Rattle.scores.proofs.frames_of.Given as goal

abbrev pub invariant-loop-command : goal.invariant-loop-command
invariant-loop-command l = record {
  counted : l.n ≡ sum l.command-index (λ k. frames_of (command_no l.commands k));
  few : l.n ≤ 65536 * l.command-index;
}
