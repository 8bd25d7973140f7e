-- `frame::close` meets its contract: the sums are taken and go out, the part that held them is 0, and the counter goes on. Assumes nothing.
use mathlib.Core.Path.{refl, ap, ◌∙◌}
use mathlib.Core.List.{map}
use lib.ListN.{drop}
use lib.Seq.{get_or-take, get_or-drop}
use Rattle.channel.specs.Channel.{put_out}
use Rattle.machine.specs.Words.{sums_word}
use Rattle.machine.proofs.Valid.{sound, in_range, is_valid}
use Rattle.frame.specs.Frame.{closed, silenced, heard}
use Rattle.frame.proofs.Keeps.{sum_small}
use Rattle.frame.proofs.Leaves.{silenced_sound, sound_closed}
use Rattle.frame.proofs.close.Goals as goal

pub invariant_of-m : goal.invariant_of-m
unfolding silenced
invariant_of-m c = let s = silenced_sound _ (sound _ c.args.m.now.sound) in record { whole = rw c.take_sums-sums.ensures.1 s.size; sound = rw c.take_sums-sums.ensures.1 (is_valid _ s) }

pub put_out-requires-clause-sums_in_range : goal.put_out-requires-clause-sums_in_range
put_out-requires-clause-sums_in_range c =
    rw c.take_sums-sums.ensures.0
    (λ i k. rw (get_or-take 12 (drop sums_word c.args.m.now.words.now) i 0 k, get_or-drop sums_word c.args.m.now.words.now i 0) (sum_small _ (in_range (sound _ c.args.m.now.sound)) i k))

pub invariant_of-m-2 : goal.invariant_of-m-2
unfolding closed silenced
invariant_of-m-2 c =
    let s = sound_closed _ (sound _ c.args.m.now.sound) in
    record { whole = rw (c.next.ensures, c.take_sums-sums.ensures.1) s.size; sound = rw (c.next.ensures, c.take_sums-sums.ensures.1) (is_valid _ s) }

pub returns-clause-leaves : goal.returns-clause-leaves
unfolding closed silenced
returns-clause-leaves c = (refl, rw (c.next.ensures, c.take_sums-sums.ensures.1) refl)

pub returns-clause-out : goal.returns-clause-out
unfolding heard
returns-clause-out c = c.put_out.ensures ∙ ap (map put_out) c.take_sums-sums.ensures.0
