-- `wave_in::copy` meets its contract. Assumes nothing.
use Rattle.std.proofs.Common.{arith, ◌<◌, length, ◌∙◌}
use Rattle.layout.specs.Bytes.{little, twos}
use Rattle.layout.proofs.Bytes.{twos-length}
use Rattle.wave_in.proofs.Copied.{one_more, all_copied, pair_is}
use Rattle.wave_in.proofs.copy.Goals as goal

pub loop-i-preserved : goal.loop-i-preserved
loop-i-preserved c =
    let n = twos-length little c.args.bytes.now (length c.args.words.now) c.requires in
    let h : c.loop-i.i < length c.args.words.now = omega arith in
    one_more (twos little c.args.bytes.now) c.loop-i.words c.loop-i.i _ (rw n h) (omega arith)
    (c.from_le_bytes.ensures ∙ pair_is c.args.bytes.now _ c.loop-i.i _ c.requires h c.as_chunks.ensures.front) c.loop-i.invariant

pub returns : goal.returns
returns c =
    let n = twos-length little c.args.bytes.now (length c.args.words.now) c.requires in
    all_copied (twos little c.args.bytes.now) c.loop-i.words c.loop-i.i (omega arith) (omega arith) c.loop-i.invariant
