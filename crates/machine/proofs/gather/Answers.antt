-- One voice more.
use Rattle.std.proofs.Common.{◌≡◌, ◌+◌, ◌*◌, [], arith, refl, rules, ap, ◌∙◌, bit_or}
use lib.ListN.{get_or}
use Rattle.machine.specs.Kept.{gathered}
use Rattle.machine.proofs.Kept.{one_gathered}
use Rattle.machine.proofs.Parts.{voice_chunk}
use Rattle.machine.proofs.gather.Goals as goal

pub loop-voice-init : goal.loop-voice-init
unfolding gathered
loop-voice-init c = refl

pub loop-voice-preserved : goal.loop-voice-preserved
loop-voice-preserved c =
    let v = c.loop-voice.voice-index in
    let m = c.args.m.now in
    let j = c.args.j in
    let word : get_or (get_or c.as_chunks.result.0.now v []) j 0 ≡ get_or m (20 * v + j) 0 =
    voice_chunk m _ _ v j c.as_chunks.ensures.front (search rules)
    (omega (arith, c.as_chunks.ensures.front_len)) c.requires in
    ap (bit_or c.loop-voice.all) word ∙ one_gathered m 20 j v (20 * v + j) c.loop-voice.all refl c.loop-voice.invariant
