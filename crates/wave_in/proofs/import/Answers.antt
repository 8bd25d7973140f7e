-- `wave_in::import` meets its contract: refused with nothing changed, or the samples in their place. Assumes nothing.
use Rattle.std.proofs.Common.{rules, arith, ◌∙◌}
use Rattle.wave_in.proofs.Importing.{was_refused, was_taken, placeable, end_fits, start_fits, data_fits, refused_imports, done_imports}
use Rattle.wave_in.proofs.import.Goals as goal

pub returns-in_err-pcm : goal.returns-in_err-pcm
returns-in_err-pcm c =
    refused_imports _ _ _ c.in_err-pcm.field-0.0 c.from_residual.result (search rules) (was_refused _ _ _ _ c.settle.ensures _ c.in_err-pcm.was)

pub fill-requires : goal.fill-requires
fill-requires c =
    let t = was_taken c.settle.ensures c.in_ok-pcm.was in
    rw t.data_is (placeable t.importing)

pub overflow_cast-result : goal.overflow_cast-result
overflow_cast-result c =
    let t = was_taken c.settle.ensures c.in_ok-pcm.was in
    rw (c.start_of.ensures, t.loop_is) (omega (arith, start_fits t.importing, end_fits t.importing))

pub overflow_cast-result-2 : goal.overflow_cast-result-2
overflow_cast-result-2 c =
    let t = was_taken c.settle.ensures c.in_ok-pcm.was in
    rw (c.end_of.ensures, t.loop_is) (omega (arith, end_fits t.importing))

pub overflow_cast-result-3 : goal.overflow_cast-result-3
overflow_cast-result-3 c =
    let t = was_taken c.settle.ensures c.in_ok-pcm.was in
    rw t.data_is (omega (arith, data_fits t.importing))

pub returns : goal.returns
returns c =
    let t = was_taken c.settle.ensures c.in_ok-pcm.was in
    done_imports _ _ _ _ _ t.done (rw (c.start_of.ensures, c.end_of.ensures, c.loop_bits.ensures, t.data_is, t.loop_is)) (c.fill.ensures ∙ rw t.data_is)
