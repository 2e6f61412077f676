use Rattle.std.proofs.Common.{refl, arith}
use Rattle.hist.proofs.fields.foreign_touch.Goals as goal

pub returns-clause-safe : goal.returns-clause-safe
returns-clause-safe c = λ safe. (safe 0 (omega arith)).1.1.1.1.1.0.period.owner

pub returns-clause-period : goal.returns-clause-period
returns-clause-period c = refl

pub returns-clause-owner : goal.returns-clause-owner
returns-clause-owner c = record { before_block = tt; after_beginning = tt; owner = λ no. no; counted_flush = λ b z blocked freed. cc; cleared = (λ is. cc, (λ is. cc, (λ is. cc, (λ is. cc, (λ is. cc, tt))))) }
