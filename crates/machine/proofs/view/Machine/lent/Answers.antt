use Rattle.machine.proofs.Valid.{sound}
use Rattle.machine.proofs.view.Machine.lent.Goals as goal

pub invariant_of-result : goal.invariant_of-result
invariant_of-result c = record { whole = (sound _ c.requires).size; sound = c.requires }
