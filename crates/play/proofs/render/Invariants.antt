-- Fewer calls are left after each part, and what was written is heard before them. Assumes nothing.
use Rattle.std.proofs.Common.{◌≡◌, ◌≤◌, ℕ, List, ◌++◌, length}
use Rattle.std.specs.Io.KnownBytes.{Appends}
use Rattle.scores.specs.Score.{command_no, times_of}
use Rattle.scores.specs.Playing.{heard_from, left_from}
use Rattle.play.proofs.Fewer.{left}
use Rattle.play.proofs.render.Given as goal

abbrev pub invariant-loop-position : goal.invariant-loop-position
invariant-loop-position g l = record {
  same : length l.m ≡ length l.initial.m;
  within : l.position.made ≤ times_of (command_no l.commands l.position.command);
  room : length l.part ≡ 65536;
  heard : (xs : List ℕ) × Appends (g.W.Write.contents l.initial.file) (g.W.Write.contents l.file) xs × (xs ++ heard_from l.m (left_from l.memory l.commands l.position.command l.position.made) ≡ heard_from l.initial.m (left_from l.memory l.commands 0 0));
}

abbrev pub decreases-loop-position : goal.decreases-loop-position
decreases-loop-position g l = left l.memory l.commands l.position.command l.position.made
