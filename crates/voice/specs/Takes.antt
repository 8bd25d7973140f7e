-- A turn as the code goes about it, on the voice's own twenty words: what its functions promise to
-- one another and to the frame. In order: the words after the filters, after the address step and
-- after the ramps, each by itself; what the filters promise; what a turn promises. Assumes nothing.
use Rattle.std.specs.Prelude.{◌≡◌, if◌then◌else◌, List, ℕ, ℤ, pos, slice_index, Option, None, Some}
use Rattle.numbers.specs.Numbers.{Bits, Within}
use Rattle.control.specs.Control.{channel_of, runs}
use Rattle.address.specs.Address.{stepped}
use Rattle.address.specs.declared.Place.{Place}
use Rattle.machine.specs.Words.{cr_word}
use Rattle.voice.specs.declared.Addend.{Addend}
use Rattle.voice.specs.Voice.{Voice, voice_of, words_of}
use Rattle.voice.specs.Turn.{passing, levels_of, ramped_levels, with_outputs, moved, turn_of}

-- ---- the parts of a turn

-- the place of a voice as it stands
abbrev pub place_of : Voice → Place
place_of v = record { accum = v.accum; cr = v.cr }

unfoldable pub after_filters : ℤ → List ℕ → List ℕ
after_filters x w = let v = voice_of w in words_of (with_outputs v (passing x v))

unfoldable pub after_step : List ℕ → List ℕ
after_step w =
    let v = voice_of w in words_of (moved v (stepped v.cr v.fc v.start v.end v.accum) (levels_of v))

unfoldable pub after_ramps : ℕ → List ℕ → List ℕ
after_ramps slow w = let v = voice_of w in words_of (moved v (place_of v) (ramped_levels slow v))

-- ---- the promises

-- what a turn gave as what it adds: None is an addend of channel 7, which is none
abbrev pub as_addend : Option Addend → Addend
as_addend None = record { channel = 7; left = pos 0; right = pos 0 }
as_addend (Some a) = a

-- x has passed: the words afterwards, and pole 4's output
pub record Passes (x : ℤ) (w after : List ℕ) (o4 : ℤ) : Type 0 where
  pub words : after ≡ after_filters x w
  pub output : o4 ≡ (passing x (voice_of w)).o4
  pub bits : Bits 18 o4

-- A turn: the words afterwards, and what is added to which channel. A stopped voice adds nothing,
-- and names a channel that is none.
pub record TakesTurn (memory : List ℕ) (slow : ℕ) (w after : List ℕ) (a : Addend) : Type 0 where
  pub words : after ≡ words_of (turn_of memory slow (voice_of w)).voice
  pub channel : a.channel
      ≡ (if runs (slice_index w cr_word) then channel_of (slice_index w cr_word) else 7)
  pub left : a.left ≡ (turn_of memory slow (voice_of w)).left
  pub right : a.right ≡ (turn_of memory slow (voice_of w)).right
  pub small_left : Within 1048576 a.left
  pub small_right : Within 1048576 a.right
