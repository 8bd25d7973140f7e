-- `wave_in::settle` meets its contract, test by test. `found` is what is known once format and data are there, each once. Assumes nothing.
use Rattle.std.proofs.Common.{rules, arith, sym, ◌∙◌}
use Rattle.wave_in.proofs.Settling.{none_was, some_was, broken, miscounted_so, ready, format_in, format_long, sampler_in, sampler_long, data_small, other_format, its_format, loop_invalid, no_place, fine}
use Rattle.wave_in.proofs.settle.Goals as goal

pub returns-in_err-found : goal.returns-in_err-found
returns-in_err-found c =
    let p = none_was _ _ _ _ c.ok_or.ensures.value c.in_err-found.was in
    let b = broken c.args.file.now c.args.room c.args.word (omega arith) _ c.parse.ensures p.0 in
    search (rules, b, p.1)

pub returns-in_err-format : goal.returns-in_err-format
returns-in_err-format c =
    let f = some_was _ _ _ _ c.ok_or.ensures.value c.in_ok-found.was in
    let p = none_was _ _ _ _ c.ok_or-2.ensures.value c.in_err-format.was in
    let m = miscounted_so c.args.file.now c.args.room c.args.word (omega arith) _ c.parse.ensures _ f _ c.format_and_data.ensures p.0 in
    search (rules, m, p.1)

pub is_mono16-requires-clause-in_file : goal.is_mono16-requires-clause-in_file
is_mono16-requires-clause-in_file c =
    let g = ready c.args.room c.parse.ensures (omega arith) c.ok_or.ensures.value c.in_ok-found.was c.format_and_data.ensures c.ok_or-2.ensures.value c.in_ok-format.was in
    format_in g

pub is_mono16-requires-clause-format_is_whole : goal.is_mono16-requires-clause-format_is_whole
is_mono16-requires-clause-format_is_whole c =
    let g = ready c.args.room c.parse.ensures (omega arith) c.ok_or.ensures.value c.in_ok-found.was c.format_and_data.ensures c.ok_or-2.ensures.value c.in_ok-format.was in
    format_long g

pub returns-then-not-is_mono16 : goal.returns-then-not-is_mono16
returns-then-not-is_mono16 c =
    let g = ready c.args.room c.parse.ensures (omega arith) c.ok_or.ensures.value c.in_ok-found.was c.format_and_data.ensures c.ok_or-2.ensures.value c.in_ok-format.was in
    other_format g c.args.word _ c.is_mono16.ensures c.then-not-is_mono16.either

pub first_loop-looped-requires-clause-in_file : goal.first_loop-looped-requires-clause-in_file
first_loop-looped-requires-clause-in_file c =
    let g = ready c.args.room c.parse.ensures (omega arith) c.ok_or.ensures.value c.in_ok-found.was c.format_and_data.ensures c.ok_or-2.ensures.value c.in_ok-format.was in
    sampler_in g

pub first_loop-looped-requires-clause-sampler_is_whole : goal.first_loop-looped-requires-clause-sampler_is_whole
first_loop-looped-requires-clause-sampler_is_whole c =
    let g = ready c.args.room c.parse.ensures (omega arith) c.ok_or.ensures.value c.in_ok-found.was c.format_and_data.ensures c.ok_or-2.ensures.value c.in_ok-format.was in
    sampler_long g

pub returns-then-is_loop_invalid : goal.returns-then-is_loop_invalid
returns-then-is_loop_invalid c =
    let g = ready c.args.room c.parse.ensures (omega arith) c.ok_or.ensures.value c.in_ok-found.was c.format_and_data.ensures c.ok_or-2.ensures.value c.in_ok-format.was in
    loop_invalid g c.args.word (its_format g c.args.word _ c.is_mono16.ensures c.if-not-is_mono16.false c.if-is_odd.false) _ c.first_loop-looped.ensures (sym c.is_loop_invalid.ensures ∙ c.if-is_loop_invalid.true)

pub has_no_place-requires : goal.has_no_place-requires
has_no_place-requires c =
    let g = ready c.args.room c.parse.ensures (omega arith) c.ok_or.ensures.value c.in_ok-found.was c.format_and_data.ensures c.ok_or-2.ensures.value c.in_ok-format.was in
    data_small g

pub returns-then-has_no_place : goal.returns-then-has_no_place
returns-then-has_no_place c =
    let g = ready c.args.room c.parse.ensures (omega arith) c.ok_or.ensures.value c.in_ok-found.was c.format_and_data.ensures c.ok_or-2.ensures.value c.in_ok-format.was in
    no_place g c.args.word (its_format g c.args.word _ c.is_mono16.ensures c.if-not-is_mono16.false c.if-is_odd.false) _ c.first_loop-looped.ensures (sym c.is_loop_invalid.ensures ∙ c.if-is_loop_invalid.false) (sym c.has_no_place.ensures ∙ c.if-has_no_place.true)

pub returns : goal.returns
returns c =
    let g = ready c.args.room c.parse.ensures (omega arith) c.ok_or.ensures.value c.in_ok-found.was c.format_and_data.ensures c.ok_or-2.ensures.value c.in_ok-format.was in
    fine g c.args.word (its_format g c.args.word _ c.is_mono16.ensures c.if-not-is_mono16.false c.if-is_odd.false) _ c.first_loop-looped.ensures (sym c.is_loop_invalid.ensures ∙ c.if-is_loop_invalid.false) (sym c.has_no_place.ensures ∙ c.if-has_no_place.false)
