use Rattle.std.proofs.Common.{◌≡◌, ◌≤◌, ◌*◌, length}
use Rattle.repeats.specs.Repeats.{full_to}
use Rattle.repeats.proofs.full_bytes.Given as goal

-- the bytes of the commands that were passed, at most 1020 for each
abbrev pub invariant-loop-command : goal.invariant-loop-command
invariant-loop-command l = record {
  passed : l.n ≡ length (full_to l.commands l.command-index);
  few : l.n ≤ 1020 * l.command-index;
}
