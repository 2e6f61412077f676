use Rattle.std.proofs.Common.{◌∙◌}
use Rattle.mon_calls.proofs.Said.{is_reply}
use Rattle.mon_calls.proofs.replies.decide.Goals as goal

pub returns-clause-in_states : goal.returns-clause-in_states
returns-clause-in_states c s has given =
    c.decide_in_range.ensures.by_records
    ∙ is_reply c.args.config.now c.args.core c.args.mode c.args.call.now c.args.held.now c.args.ptes.now c.decide_in_range.ensures.valid c.requires s has given
