-- A voice by its registers.
-- In order: the twenty registers, in the order of the record's words; the voice that twenty words
-- are, and the words that a voice is; the levels that ramps move; what a turn gives. Assumes
-- nothing.
use Rattle.std.specs.Prelude.{ℕ, List, [], ◌∷◌, ℤ, slice_index}
use Rattle.machine.specs.Words.{cr_word, fc_word, lvol_word, lvramp_word, rvol_word, rvramp_word}
use Rattle.machine.specs.Words.{ecount_word, k2_word, k2ramp_word, k1_word, k1ramp_word, start_word}
use Rattle.machine.specs.Words.{end_word, accum_word, o4n1_word, o3n1_word, o3n2_word, o2n1_word}
use Rattle.machine.specs.Words.{o2n2_word, o1n1_word}

pub record Voice : Type 0 where
  pub cr : ℕ
  pub fc : ℕ
  pub lvol : ℕ
  pub lvramp : ℕ
  pub rvol : ℕ
  pub rvramp : ℕ
  pub ecount : ℕ
  pub k2 : ℕ
  pub k2ramp : ℕ
  pub k1 : ℕ
  pub k1ramp : ℕ
  pub start : ℕ
  pub end : ℕ
  pub accum : ℕ
  pub o4n1 : ℕ
  pub o3n1 : ℕ
  pub o3n2 : ℕ
  pub o2n1 : ℕ
  pub o2n2 : ℕ
  pub o1n1 : ℕ

abbrev pub voice_of : List ℕ → Voice
voice_of w =
    record {
      cr = slice_index w cr_word;
      fc = slice_index w fc_word;
      lvol = slice_index w lvol_word;
      lvramp = slice_index w lvramp_word;
      rvol = slice_index w rvol_word;
      rvramp = slice_index w rvramp_word;
      ecount = slice_index w ecount_word;
      k2 = slice_index w k2_word;
      k2ramp = slice_index w k2ramp_word;
      k1 = slice_index w k1_word;
      k1ramp = slice_index w k1ramp_word;
      start = slice_index w start_word;
      end = slice_index w end_word;
      accum = slice_index w accum_word;
      o4n1 = slice_index w o4n1_word;
      o3n1 = slice_index w o3n1_word;
      o3n2 = slice_index w o3n2_word;
      o2n1 = slice_index w o2n1_word;
      o2n2 = slice_index w o2n2_word;
      o1n1 = slice_index w o1n1_word;
    }

unfoldable pub words_of : Voice → List ℕ
words_of v =
    v.cr ∷ v.fc ∷ v.lvol ∷ v.lvramp ∷ v.rvol ∷ v.rvramp ∷ v.ecount ∷ v.k2 ∷ v.k2ramp ∷ v.k1
    ∷ v.k1ramp
    ∷ v.start ∷ v.end ∷ v.accum ∷ v.o4n1 ∷ v.o3n1 ∷ v.o3n2 ∷ v.o2n1 ∷ v.o2n2 ∷ v.o1n1 ∷ []

-- what ramps move
pub record Levels : Type 0 where
  pub ecount : ℕ
  pub lvol : ℕ
  pub rvol : ℕ
  pub k1 : ℕ
  pub k2 : ℕ

-- the registers after a turn, and what the voice adds to the left and right sums of its channel
pub record Turn : Type 0 where
  pub voice : Voice
  pub left : ℤ
  pub right : ℤ
