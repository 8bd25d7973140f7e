use Rattle.std.proofs.Common.{◌≡◌}
use Rattle.frame.specs.Frame.{turns}
use Rattle.frame.proofs.Missing.{missed_in_turns}
use Rattle.frame.proofs.play.Given as goal

-- the record is what the turns so far make of the first; the number is what they missed
abbrev pub invariant-loop-v : goal.invariant-loop-v
invariant-loop-v l = record {
  same : l.m.words.ghost_name ≡ l.fn.m.words.ghost_name;
  turned : l.m.words.now ≡ turns l.fn.memory l.v l.fn.m.words.now;
  missed : l.missing ≡ missed_in_turns l.fn.memory l.v l.fn.m.words.now;
}
