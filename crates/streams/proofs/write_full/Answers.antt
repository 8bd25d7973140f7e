-- What the writer takes is the next of the bytes. Assumes nothing.
use Rattle.std.proofs.Common.{◌∙◌, ◌++◌, take, sym, ap, subst, rules}
use Rattle.std.proofs.lemmas.List.{take_rest}
use Rattle.std.specs.Io.KnownBytes.{Appends}
use Rattle.std.proofs.KnownBytes.{Appends-trans}
use lib.Seq.{take-add}
use Rattle.streams.proofs.write_full.Goals as goal

pub loop-at-preserved : goal.loop-at-preserved
loop-at-preserved g c =
    let at = c.loop-at.at in
    let n = c.in_ok-n.n in
    let bytes = c.args.bytes.now in
    let joined = ap (λ l. take at bytes ++ take n l) (take_rest bytes at) ∙ sym (take-add at n bytes) in
    record {
      within = search rules;
      taken = subst (Appends _ _) joined (Appends-trans _ _ _ _ _ c.loop-at.invariant.taken c.in_ok-n.ensures.bytes);
    }
