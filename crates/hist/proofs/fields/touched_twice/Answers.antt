use Rattle.std.proofs.Common.{refl, arith}
use Rattle.hist.proofs.fields.touched_twice.Goals as goal

pub returns-clause-safe : goal.returns-clause-safe
returns-clause-safe c = λ safe. omega (arith, ((safe 0 (omega arith)).1.0.period.cleared.0 refl).2)

pub returns-clause-period : goal.returns-clause-period
returns-clause-period c = refl

pub returns-clause-cleared : goal.returns-clause-cleared
returns-clause-cleared c = record { before_block = tt; after_beginning = tt; owner = tt; counted_flush = λ b z blocked freed. cc; cleared = λ cleared. omega (arith, (cleared.0 refl).2) }
