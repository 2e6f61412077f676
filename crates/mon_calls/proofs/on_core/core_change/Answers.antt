use Rattle.std.proofs.Common.{◌∙◌}
use Rattle.mon_calls.proofs.Said.{is_change}
use Rattle.mon_calls.proofs.on_core.core_change.Goals as goal

pub returns-clause-in_states : goal.returns-clause-in_states
returns-clause-in_states c s core none records = c.change_by_records.ensures ∙ is_change c.args.call.now c.args.held.now s core none records
