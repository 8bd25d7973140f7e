-- `voice::step_past` meets its contract: the step's place, of the voice's own registers, is stored. Assumes nothing.
use mathlib.Core.Path.{◌≡◌, ap, ◌∙◌}
use Rattle.address.specs.Address.{stepped}
use Rattle.address.specs.declared.Place.{Place}
use Rattle.voice.specs.Voice.{voice_of, words_of}
use Rattle.voice.specs.Turn.{levels_of, moved}
use Rattle.voice.specs.Takes.{after_step}
use Rattle.voice.proofs.Words.{place_stored}
use Rattle.voice.proofs.step_past.Goals as goal

pub returns : goal.returns
unfolding after_step
returns c =
    let v = voice_of c.args.w.now in
    let e : c.step-p.result ≡ stepped v.cr v.fc v.start v.end v.accum = c.step-p.ensures.0 in
    place_stored c.args.w.now c.told-w c.step-p.result ∙ ap (λ (a : Place). words_of (moved v a (levels_of v))) e
