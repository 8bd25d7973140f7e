-- Twenty words and the voice that they are, and the stores of the code's functions by the voice that they leave.
-- In order: twenty words are the words of their voice (`words_voice`); the address step's stores (`accum_stored`, `place_stored`); the
-- ramps' (`levels_stored`, `levels_left`); the filters' (`back_…`, `outputs_stored`); the parts of a turn one after another (`filters_…`,
-- `step_…`, `parts_run`, `parts_stand`). What a turn leaves of the registers themselves is Keeps. Assumes nothing.
use mathlib.Core.Path.{◌≡◌, refl, sym, ap, subst, ◌∙◌}
use mathlib.Core.List.{List}
use Prim.Native.Nat.{ℕ}
use native.Mathlib.Nat.{zero-add}
use lib.IntN.{ℤ, pos}
use lib.ListN.{length, get_or, set}
use lib.Seq.{ext_get_or}
use Rattle.numbers.specs.Numbers.{word}
use Rattle.numbers.proofs.Tests.{listed, listed_at}
use Rattle.filter.specs.declared.Poles.{Poles}
use Rattle.address.specs.declared.Place.{Place}
use Rattle.sample.specs.Sample.{sampled}
use Rattle.voice.specs.Voice.{Levels, voice_of, words_of}
use Rattle.voice.specs.Turn.{passing, levels_of, last_outputs, ramped_levels, with_outputs, moved, stopped_turn, running_turn}
use Rattle.voice.specs.Takes.{place_of, after_filters, after_step, after_ramps}

-- ---- twenty words are the words of their voice

pub words_voice : (w : List ℕ) → length w ≡ 20 → words_of (voice_of w) ≡ w
unfolding words_of
words_voice w h = ext_get_or 0 (listed (λ i. get_or w i 0) 0 20) w (sym h) (λ k l. listed_at (λ i. get_or w i 0) 0 20 k 0 l ∙ ap (λ (i : ℕ). get_or w i 0) (zero-add k))

-- what holds of a voice's words holds of twenty words
as_voice : (w : List ℕ) → length w ≡ 20 → (P : List ℕ → Type 0) → P (words_of (voice_of w)) → P w
as_voice w h P = subst P (words_voice w h)

-- ---- the address step and the ramps

module _ (w : List ℕ) (h : length w ≡ 20) where
  -- a new ACCUM; and with it a new control register
  pub accum_stored : (a : ℕ) → set w 13 a ≡ words_of (moved (voice_of w) (record { accum = a; cr = get_or w 0 0 }) (levels_of (voice_of w)))
  unfolding words_of moved
  accum_stored a = as_voice w h (λ l. set l 13 a ≡ words_of (moved (voice_of w) (record { accum = a; cr = get_or w 0 0 }) (levels_of (voice_of w)))) refl

  pub place_stored : (a : Place) → set (set w 0 a.cr) 13 a.accum ≡ words_of (moved (voice_of w) a (levels_of (voice_of w)))
  unfolding words_of moved
  place_stored a = as_voice w h (λ l. set (set l 0 a.cr) 13 a.accum ≡ words_of (moved (voice_of w) a (levels_of (voice_of w)))) refl

  -- new levels; and the same levels
  pub levels_stored : (l : Levels)
      → set (set (set (set (set w 6 l.ecount) 2 l.lvol) 4 l.rvol) 9 l.k1) 7 l.k2 ≡ words_of (moved (voice_of w) (place_of (voice_of w)) l)
  unfolding words_of moved
  levels_stored l =
      as_voice w h (λ x. set (set (set (set (set x 6 l.ecount) 2 l.lvol) 4 l.rvol) 9 l.k1) 7 l.k2 ≡ words_of (moved (voice_of w) (place_of (voice_of w)) l)) refl

  pub levels_left : w ≡ words_of (moved (voice_of w) (place_of (voice_of w)) (levels_of (voice_of w)))
  unfolding words_of moved
  levels_left = sym (words_voice w h)

-- ---- the filters

-- the old outputs moved back: O2(n-2) and O3(n-2) take the (n-1) words
unfoldable pub moved_back : List ℕ → List ℕ
moved_back w = let l = set w 18 (get_or w 17 0) in set l 16 (get_or l 15 0)

module _ (w : List ℕ) (h : length w ≡ 20) where
  -- the filters do not hear of it
  pub back_passing : (x : ℤ) → passing x (voice_of (moved_back w)) ≡ passing x (voice_of w)
  unfolding moved_back words_of last_outputs
  back_passing x = as_voice w h (λ l. passing x (voice_of (moved_back l)) ≡ passing x (voice_of w)) refl

  pub outputs_stored : (p : Poles)
      → set (set (set (set (moved_back w) 19 (word 18 p.o1)) 17 (word 18 p.o2)) 15 (word 18 p.o3)) 14 (word 18 p.o4) ≡ words_of (with_outputs (voice_of w) p)
  unfolding moved_back words_of with_outputs
  outputs_stored p =
      as_voice w h
      (λ l. set (set (set (set (moved_back l) 19 (word 18 p.o1)) 17 (word 18 p.o2)) 15 (word 18 p.o3)) 14 (word 18 p.o4) ≡ words_of (with_outputs (voice_of w) p))
      refl

-- ---- the whole turn

module _ (w : List ℕ) where
  -- the filters leave the control register and the levels; so does the step leave the levels
  pub filters_control : (x : ℤ) → get_or (after_filters x w) 0 0 ≡ get_or w 0 0
  unfolding after_filters words_of with_outputs
  filters_control x = refl

  pub filters_levels : (x : ℤ) → levels_of (voice_of (after_filters x w)) ≡ levels_of (voice_of w)
  unfolding after_filters words_of with_outputs
  filters_levels x = refl

  pub step_levels : levels_of (voice_of (after_step w)) ≡ levels_of (voice_of w)
  unfolding after_step words_of moved
  step_levels = refl

  -- the parts one after another are the turn
  pub parts_run : (memory : List ℕ) (slow : ℕ)
      → after_ramps slow (after_step (after_filters (sampled memory (voice_of w).cr (voice_of w).accum) w)) ≡ words_of (running_turn memory slow (voice_of w)).voice
  unfolding after_ramps after_step after_filters words_of with_outputs moved ramped_levels running_turn
  parts_run memory slow = refl

  pub parts_stand : after_filters (pos 0) w ≡ words_of (stopped_turn (voice_of w)).voice
  unfolding after_filters stopped_turn
  parts_stand = refl
