-- The ranges of a voice's registers, which a turn asks; that a turn keeps them is proofs/Keeps. FC,
-- the ramps, START and END, which no turn changes, and ACCUM, which may be any 32 bits, are not
-- named. Assumes nothing.
use Rattle.std.specs.Prelude.{◌<◌}
use Rattle.machine.specs.Words.{voice_range, cr_word, lvol_word, rvol_word, ecount_word, k2_word}
use Rattle.machine.specs.Words.{k1_word, o4n1_word, o3n1_word, o3n2_word, o2n1_word, o2n2_word}
use Rattle.machine.specs.Words.{o1n1_word}
use Rattle.voice.specs.Voice.{Voice, Levels}

pub record Ranges (v : Voice) : Type 0 where
  pub cr : v.cr < voice_range cr_word
  pub lvol : v.lvol < voice_range lvol_word
  pub rvol : v.rvol < voice_range rvol_word
  pub ecount : v.ecount < voice_range ecount_word
  pub k2 : v.k2 < voice_range k2_word
  pub k1 : v.k1 < voice_range k1_word
  pub o4n1 : v.o4n1 < voice_range o4n1_word
  pub o3n1 : v.o3n1 < voice_range o3n1_word
  pub o3n2 : v.o3n2 < voice_range o3n2_word
  pub o2n1 : v.o2n1 < voice_range o2n1_word
  pub o2n2 : v.o2n2 < voice_range o2n2_word
  pub o1n1 : v.o1n1 < voice_range o1n1_word

-- and of the levels that ramps move
pub record Leveled (l : Levels) : Type 0 where
  pub ecount : l.ecount < voice_range ecount_word
  pub lvol : l.lvol < voice_range lvol_word
  pub rvol : l.rvol < voice_range rvol_word
  pub k1 : l.k1 < voice_range k1_word
  pub k2 : l.k2 < voice_range k2_word
