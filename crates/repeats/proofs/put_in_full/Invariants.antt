use Rattle.std.proofs.Common.{◌≡◌, length}
use Rattle.layout.specs.Parts.{with_part}
use Rattle.repeats.specs.Repeats.{full_to}
use Rattle.repeats.proofs.put_in_full.Given as goal

-- the commands that were passed stand in full at the start
abbrev pub invariant-loop-command : goal.invariant-loop-command
invariant-loop-command l = record {
  bytes : l.n ≡ length (full_to l.commands l.command-index);
  put : l.full ≡ with_part l.fn.full 0 (full_to l.commands l.command-index);
}
