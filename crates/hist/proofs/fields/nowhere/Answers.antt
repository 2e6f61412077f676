use Rattle.std.proofs.Common.{arith}
use Rattle.hist.proofs.fields.nowhere.Goals as goal

pub returns-clause-safe : goal.returns-clause-safe
returns-clause-safe c = λ safe. omega (arith, (safe 0 (omega arith)).0.region)

pub returns-clause-region : goal.returns-clause-region
returns-clause-region c = record { region = λ lt. omega (arith, lt); period = record { before_block = tt; after_beginning = tt; owner = tt; counted_flush = λ b z blocked freed. cc; cleared = tt } }
