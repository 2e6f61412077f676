use Rattle.core_access.proofs.Satp.{admitted_paging}
use Rattle.core_access.proofs.laws.admitted_satp_is_bare_or_a_root.Goals as goal

pub returns : goal.returns
returns c = admitted_paging
