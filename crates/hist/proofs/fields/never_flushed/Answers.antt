use Rattle.std.proofs.Common.{refl, arith}
use Rattle.hist.proofs.fields.never_flushed.Goals as goal

pub returns-clause-safe : goal.returns-clause-safe
returns-clause-safe c = λ safe. omega (arith, ((safe 1 (omega arith)).0.period.counted_flush 1 3 refl refl).2)

pub returns-clause-period : goal.returns-clause-period
returns-clause-period c = refl

pub returns-clause-counted_flush : goal.returns-clause-counted_flush
returns-clause-counted_flush c = record { before_block = tt; after_beginning = tt; owner = tt; counted_flush = λ each. omega (arith, (each 1 3 refl refl).2); cleared = tt }
