-- The ask is one of the six, and that call's promise is what is owed.
use Rattle.std.proofs.Common.{rules, refl}
use Rattle.calls.proofs.Performs.{resets, writes, reads, sets_pot, tells_waiting, frames, of_ask, of_nothing, of_number, same_result, mapped_same}
use Rattle.calls.proofs.perform.Goals as goal

pub returns-in-Reset : goal.returns-in-Reset
returns-in-Reset c = of_ask c.in-Reset.is (of_nothing _ c.reset.result _ c.map.ensures.cases (λ x y p. search rules) (resets _ _ _ c.reset.ensures))

pub returns-in-Write : goal.returns-in-Write
returns-in-Write c = of_ask c.in-Write.is (of_nothing _ c.write.result _ c.map-in-Write.ensures.cases (λ x y p. search rules) (writes _ _ _ _ _ c.write.ensures))

pub returns-in-Read : goal.returns-in-Read
returns-in-Read c = of_ask c.in-Read.is (of_number _ c.read.result _ c.map-in-Read.ensures.cases (λ x y p. search rules) (reads _ _ _ _ c.read.ensures))

pub returns-in-SetPot : goal.returns-in-SetPot
returns-in-SetPot c = of_ask c.in-SetPot.is (of_nothing _ c.set_pot.result _ c.map-in-SetPot.ensures.cases (λ x y p. search rules) (sets_pot _ _ _ _ c.set_pot.ensures))

pub returns-in-Waiting : goal.returns-in-Waiting
returns-in-Waiting c =
    of_ask c.in-Waiting.is
    (same_result _ c.waiting.result (search (rules, mapped_same)) (tells_waiting _ _ _ refl c.waiting.ensures))

pub returns-in-Frame : goal.returns-in-Frame
returns-in-Frame c =
    of_ask c.in-Frame.is
    (same_result _ c.frame.result (search (rules, mapped_same)) (frames _ _ _ c.frame.ensures))
