use Rattle.sv39_pte.proofs.Fields.{pointer_leads, leaf_has_frame}
use Rattle.sv39_pte.proofs.laws.written_ptes_lead_to_their_pages.Goals as goal

pub returns-clause-pointer : goal.returns-clause-pointer
returns-clause-pointer c = pointer_leads

pub returns-clause-leaf : goal.returns-clause-leaf
returns-clause-leaf c = leaf_has_frame
