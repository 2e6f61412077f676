use Rattle.std.proofs.Common.{arith}
use Rattle.hist.proofs.fields.no_period.Goals as goal

pub returns-clause-safe : goal.returns-clause-safe
returns-clause-safe c = λ safe. (safe 0 (omega arith)).0.period

pub returns-clause-period : goal.returns-clause-period
returns-clause-period c = record { region = omega arith; period = λ no. no }
