use Rattle.std.proofs.Common.{refl, arith}
use Rattle.hist.proofs.fields.early_touch.Goals as goal

pub returns-clause-safe : goal.returns-clause-safe
returns-clause-safe c = λ safe. omega (arith, (safe 0 (omega arith)).0.period.after_beginning.0)

pub returns-clause-period : goal.returns-clause-period
returns-clause-period c = refl

pub returns-clause-after_beginning : goal.returns-clause-after_beginning
returns-clause-after_beginning c = record { before_block = tt; after_beginning = λ all. omega (arith, all.0); owner = tt; counted_flush = λ b z blocked freed. cc; cleared = tt }
