-- Bytes copied to a part of the output are bytes stored there.
use Rattle.std.proofs.Common.{refl, sym, ◌∙◌, append_assoc, ◌+◌, ◌++◌, length, take, arith}
use borrow.Rule.Slice.PartMut.{Post-is}
use lib.Seq.{sets-eq}
use Rattle.chart.proofs.put.Goals as goal

pub returns : goal.returns
returns c =
    let a = c.args in record {
      after = refl;
      stored = (λ i. take a.at a.out.now ++ (c.copy_from_slice.ensures.after i ++ Post-is a.at (a.at + length a.text.now) a.out.now (omega arith) i))
          ∙ sym (append_assoc (take a.at a.out.now) a.text.now _)
          ∙ sym (sets-eq a.text.now a.out.now a.at c.requires);
    }
