-- `voice::ramps` meets its contract, by whether ECOUNT is 0. Assumes nothing.
use mathlib.Core.Path.{sym, ap, ◌∙◌}
use Rattle.voice.specs.Voice.{Levels, voice_of, words_of}
use Rattle.voice.specs.Turn.{moved}
use Rattle.voice.specs.Takes.{place_of, after_ramps}
use Rattle.voice.proofs.Laws.{levels_rest, levels_move}
use Rattle.voice.proofs.Words.{levels_stored, levels_left}
use Rattle.voice.proofs.ramps.Goals as goal

pub returns-then-n-ne0 : goal.returns-then-n-ne0
unfolding after_ramps
returns-then-n-ne0 c =
    let v = voice_of c.args.w.now in
    rw (c.ramp-lvol.ensures.0, c.ramp-rvol.ensures.0, c.slow_ramp-k1.ensures.0, c.slow_ramp-k2.ensures.0)
    (levels_stored c.args.w.now c.told-w _ ∙ ap (λ (l : Levels). words_of (moved v (place_of v) l)) (sym (levels_move c.args.slow v c.if-n-ne0.true)))

pub returns-else-n-ne0 : goal.returns-else-n-ne0
unfolding after_ramps
returns-else-n-ne0 c =
    let v = voice_of c.args.w.now in
    levels_left c.args.w.now c.told-w ∙ ap (λ (l : Levels). words_of (moved v (place_of v) l)) (sym (levels_rest c.args.slow v c.if-n-ne0.false))
