use Rattle.std.proofs.Common.{Some, ℕ, ap}
use Rattle.mon_regions.proofs.after.after_block.Goals as goal

pub returns-in-Some-clause-own : goal.returns-in-Some-clause-own
returns-in-Some-clause-own c =
    rw (c.in-Some.is, c.in-Block.is) (ap (λ (set : ℕ). Some (record c.in-Some.enclave.now { regions = set })) c.without_bit-enclave.ensures)
