-- `wave::collect` meets its contract: at each chunk, how far the pass has come. Assumes nothing.
use Rattle.std.proofs.Common.{rules, arith, ◌∙◌}
use Rattle.chunks.specs.Chunks.{named}
use Rattle.wave.specs.Parse.{kept_of}
use Rattle.chunks.proofs.Told.{none_unless, some_unless}
use Rattle.wave.proofs.Collecting.{begun, stops, next_on, too_short, one_more, all_read}
use Rattle.wave.proofs.collect.Goals as goal

pub loop-at-init : goal.loop-at-init
unfolding kept_of named
loop-at-init c =
    let e = c.default-found.ensures in
    begun _ _ c.default-found.result (rw (e.0, e.1.0, e.1.1)) c.requires.first_before_end

pub returns-in_err-chunk : goal.returns-in_err-chunk
returns-in_err-chunk c =
    let s = stops c.loop-at.invariant c.chunk_at.result c.chunk_at.ensures c.loop-at-test.true c.in_err-chunk.was in
    search (rules, s)

pub returns-in_err-add : goal.returns-in_err-add
returns-in_err-add c =
    let s = too_short c.loop-at.invariant c.chunk_at.result c.chunk_at.ensures c.loop-at-test.true _ _ c.in_ok-chunk.was (none_unless _ _ _ c.add.ensures.full c.in_err-add.was) in
    search (rules, s)

pub loop-at-smaller : goal.loop-at-smaller
loop-at-smaller c =
    let h = next_on c.loop-at.invariant c.chunk_at.result c.chunk_at.ensures c.loop-at-test.true _ _ c.in_ok-chunk.was in
    omega (arith, h, c.loop-at-test.true)

pub loop-at-preserved : goal.loop-at-preserved
loop-at-preserved c =
    let full = (some_unless _ _ _ _ c.add.ensures.full c.in_ok-add.was).0 in
    one_more c.loop-at.invariant c.chunk_at.result c.chunk_at.ensures c.loop-at-test.true _ _ c.in_ok-chunk.was full _ (c.add.ensures.kept ∙ rw full)

pub returns : goal.returns
returns c = all_read c.loop-at.invariant c.loop-at-test.false
