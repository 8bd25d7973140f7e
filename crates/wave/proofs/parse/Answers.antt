-- `wave::parse` meets its contract. Assumes nothing.
use Rattle.std.proofs.Common.{rules, sym, ◌∙◌}
use Rattle.wave.proofs.Keeping.{first_in_file, first_short, none_short}
use Rattle.wave.proofs.Parsing.{upto_within, no_header, no_chunks, sampler_in, sampler_short, all_there}
use Rattle.wave.proofs.parse.Goals as goal

pub returns-in_err-end : goal.returns-in_err-end
returns-in_err-end c =
    let n = no_header _ _ c.open.ensures c.in_err-end.was in
    search (rules, n)

pub collect-requires-clause-first_before_end : goal.collect-requires-clause-first_before_end
collect-requires-clause-first_before_end c = (upto_within _ _ c.open.ensures _ c.in_ok-end.was).0

pub collect-requires-clause-end_in_bounds : goal.collect-requires-clause-end_in_bounds
collect-requires-clause-end_in_bounds c = (upto_within _ _ c.open.ensures _ c.in_ok-end.was).1

pub returns-in_err-found : goal.returns-in_err-found
returns-in_err-found c =
    let n = no_chunks _ _ c.open.ensures _ c.in_ok-end.was _ c.collect.ensures c.in_err-found.was in
    search (rules, n)

pub is_sampler_short-requires : goal.is_sampler_short-requires
is_sampler_short-requires c =
    first_in_file _ _ _ (sym c.first.ensures ∙ c.in-Some.is) (sampler_in _ _ c.open.ensures _ c.in_ok-end.was _ c.collect.ensures _ c.in_ok-found.was)

pub returns-in-Some : goal.returns-in-Some
returns-in-Some c =
    sampler_short _ _ c.open.ensures _ c.in_ok-end.was _ c.collect.ensures _ c.in_ok-found.was
    (first_short _ _ _ (sym c.first.ensures ∙ c.in-Some.is) ∙ sym c.is_sampler_short.ensures ∙ c.if-is_sampler_short.true)

pub returns-in_default : goal.returns-in_default
returns-in_default c =
    all_there _ _ c.open.ensures _ c.in_ok-end.was _ c.collect.ensures _ c.in_ok-found.was
    (first_short _ _ _ (sym c.first.ensures ∙ c.in-Some.is) ∙ sym c.is_sampler_short.ensures ∙ c.if-is_sampler_short.false)

pub returns-in_default-2 : goal.returns-in_default-2
returns-in_default-2 c =
    all_there _ _ c.open.ensures _ c.in_ok-end.was _ c.collect.ensures _ c.in_ok-found.was
    (none_short _ _ (sym c.first.ensures ∙ c.in_default.is))
