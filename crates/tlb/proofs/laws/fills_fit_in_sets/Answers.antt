use Rattle.tlb.proofs.Filled.{fills_fit_in_sets}
use Rattle.tlb.proofs.laws.fills_fit_in_sets.Goals as goal

pub returns : goal.returns
returns c = fills_fit_in_sets
