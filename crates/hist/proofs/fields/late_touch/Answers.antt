use Rattle.std.proofs.Common.{refl, arith}
use Rattle.hist.proofs.fields.late_touch.Goals as goal

pub returns-clause-safe : goal.returns-clause-safe
returns-clause-safe c = λ safe. omega (arith, (safe 1 (omega arith)).1.0.period.before_block.0)

pub returns-clause-period : goal.returns-clause-period
returns-clause-period c = refl

pub returns-clause-before_block : goal.returns-clause-before_block
returns-clause-before_block c = record { before_block = λ all. omega (arith, all.0); after_beginning = tt; owner = tt; counted_flush = λ b z blocked freed. cc; cleared = (λ is. cc, tt) }
