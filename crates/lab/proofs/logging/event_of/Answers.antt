use Rattle.std.proofs.Common.{◌≡◌, subst}
use Rattle.protocol.specs.Moves.{outcome_of}
use Rattle.lab.proofs.logging.event_of.Goals as goal

pub event_by-requires : goal.event_by-requires
unfolding outcome_of
event_by-requires c = (c.requires.0, subst (λ m. c.args.outcome.now ≡ outcome_of m c.requires.0) c.in-InCall.is c.requires.1)

pub unreachable-requires : goal.unreachable-requires
unfolding outcome_of
unreachable-requires c = c.in_default.not-Word c.requires.0 (subst (λ m. c.args.outcome.now ≡ outcome_of m c.requires.0) c.in-Look.is c.requires.1)
