-- `address::wrap` meets its contract: 2^34 is a multiple of 2^32, so moving an address up by it changes no word. Assumes nothing.
use Rattle.std.proofs.Common.{ap, ◌∙◌, ℤ, pos, ◌%◌}
use lib.IntN.{nat_abs}
use Rattle.numbers.proofs.Local.{arg, lit, add}
use Rattle.numbers.proofs.Words.{word_up}
use Rattle.address.proofs.wrap.Goals as goal

pub returns : goal.returns
returns c = ap (λ (z : ℤ). nat_abs z % 4294967296) (add (arg c.ranges.z c.requires) (lit (pos 17179869184)) tt).num.is ∙ word_up 32 4 c.args.z c.requires
