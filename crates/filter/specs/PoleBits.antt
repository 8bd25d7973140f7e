-- The range of the poles' outputs, which `filter` asks of the last and promises of the new. Assumes
-- nothing.
use Rattle.numbers.specs.Numbers.{Bits}
use Rattle.filter.specs.declared.Poles.{Poles}

pub record PoleBits (p : Poles) : Type 0 where
  pub o1 : Bits 18 p.o1
  pub o2 : Bits 18 p.o2
  pub o3 : Bits 18 p.o3
  pub o4 : Bits 18 p.o4
