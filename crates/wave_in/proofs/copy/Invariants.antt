-- So many samples stand in the words. Assumes nothing.
use Rattle.std.proofs.Common.{◌≡◌, take}
use Rattle.layout.specs.Bytes.{little, twos}
use Rattle.wave_in.proofs.copy.Given as goal

abbrev pub invariant-loop-i : goal.invariant-loop-i
invariant-loop-i l = take l.i l.words ≡ take l.i (twos little l.bytes)
