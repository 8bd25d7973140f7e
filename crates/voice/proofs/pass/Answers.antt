-- `voice::pass` meets its contract: the old outputs move back, which the filters do not hear of, and the new ones are stored.
-- Assumes nothing.
use mathlib.Core.Path.{◌≡◌, ap, ◌∙◌}
use mir.Syntax.{w32}
use Rattle.numbers.specs.Numbers.{word}
use Rattle.numbers.proofs.Local.{held, bits-held}
use Rattle.filter.specs.declared.Poles.{Poles}
use Rattle.voice.specs.Voice.{voice_of, words_of}
use Rattle.voice.specs.Turn.{passing, with_outputs}
use Rattle.voice.specs.Takes.{after_filters}
use Rattle.voice.proofs.Words.{moved_back, back_passing, outputs_stored}
use Rattle.voice.proofs.pass.Goals as goal

pub returns : goal.returns
unfolding moved_back after_filters
returns c =
    let w = c.args.w.now in
    let x = c.args.x in
    let v = voice_of w in
    let p = c.filter-p.result in
    let b = c.filter-p.ensures.1 in
    let e : p ≡ passing x v =
    c.filter-p.ensures.0 ∙ rw ((held w32 tt c.requires.x_fits).is, c.last_outputs.ensures.0) (back_passing w c.told-w x) in
    let o4 = (held w32 tt b.o4).is in
    record {
      words =
          rw (
            c.word_of-4.ensures.0 ∙ ap (word 18) o4,
            c.word_of-3.ensures.0 ∙ ap (word 18) (held w32 tt b.o3).is,
            c.word_of-2.ensures.0 ∙ ap (word 18) (held w32 tt b.o2).is,
            c.word_of.ensures.0 ∙ ap (word 18) (held w32 tt b.o1).is,
          ) (outputs_stored w c.told-w p ∙ ap (λ (q : Poles). words_of (with_outputs v q)) e);
      output = o4 ∙ ap (λ (q : Poles). q.o4) e;
      bits = bits-held w32 tt b.o4;
    }
