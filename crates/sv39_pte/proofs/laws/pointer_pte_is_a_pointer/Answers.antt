use Rattle.sv39_pte.proofs.Fields.{pointer_is_pointer}
use Rattle.sv39_pte.proofs.laws.pointer_pte_is_a_pointer.Goals as goal

pub returns : goal.returns
returns c = pointer_is_pointer
