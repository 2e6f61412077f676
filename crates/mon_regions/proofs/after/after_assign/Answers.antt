use Rattle.std.proofs.Common.{Some, ap}
use Rattle.mon_regions.proofs.after.after_assign.Goals as goal

pub returns-in-Some-clause-to : goal.returns-in-Some-clause-to
returns-in-Some-clause-to c = rw (c.in-Some.is, c.in-Assign.is) (ap Some c.assign_to.ensures.enclave)
