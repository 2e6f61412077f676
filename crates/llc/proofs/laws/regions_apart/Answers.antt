use Rattle.llc.proofs.Own.{own_hits_hold, same_hits_hold}
use Rattle.llc.proofs.Counts.{own_tally_holds, same_tally_holds}
use Rattle.llc.proofs.laws.regions_apart.Goals as goal

pub returns-clause-own : goal.returns-clause-own
returns-clause-own c = own_hits_hold

pub returns-clause-same : goal.returns-clause-same
returns-clause-same c = same_hits_hold

pub returns-clause-own_tally : goal.returns-clause-own_tally
returns-clause-own_tally c = own_tally_holds

pub returns-clause-same_tally : goal.returns-clause-same_tally
returns-clause-same_tally c = same_tally_holds
