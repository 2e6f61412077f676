use Rattle.std.proofs.Common.{◌≡◌, suc, subst}
use Rattle.protocol.specs.Moves.{action_outcome}
use Rattle.lab.proofs.logging.event_by.Goals as goal

pub unreachable-requires : goal.unreachable-requires
unfolding action_outcome
unreachable-requires c = c.in_default-outcome.not-Ticket (suc c.requires.0) (subst (λ a. c.args.outcome.now ≡ action_outcome a c.requires.0) c.in-Draw.is c.requires.1)
