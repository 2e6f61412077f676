use Rattle.sv39_pte.proofs.Fields.{leaf_is_leaf, leaf_is_not_the_os}
use Rattle.sv39_pte.proofs.laws.leaf_pte_is_a_leaf.Goals as goal

pub returns-clause-enclave : goal.returns-clause-enclave
returns-clause-enclave c = leaf_is_leaf

pub returns-clause-os : goal.returns-clause-os
returns-clause-os c = leaf_is_not_the_os
