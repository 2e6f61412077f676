use Rattle.std.proofs.Common.{◌∙◌}
use Rattle.mon_calls.proofs.Leaves.{are_left}
use Rattle.mon_calls.proofs.records.apply.Goals as goal

pub returns-clause-in_states : goal.returns-clause-in_states
returns-clause-in_states c s has caller is_ok =
    c.apply_in_range.ensures ∙ are_left c.args.config.now c.args.core c.args.mode c.args.call.now c.args.digest.now c.args.ticket c.args.held.now c.requires s has caller is_ok
