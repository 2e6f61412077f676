use Rattle.std.proofs.Common.{refl, inr, arith}
use Rattle.mon_types.specs.declared.region.Owner.TheVariants as owners
use Rattle.hist_stands.proofs.runs.held_while_blocked.Goals as goal

pub returns-clause-touched : goal.returns-clause-touched
returns-clause-touched c = refl

pub returns-clause-held : goal.returns-clause-held
returns-clause-held c = record
    { owner = owners.Os; region = inr (1, refl, omega arith); opens = tt; alive = (refl, refl) }
