use Rattle.std.proofs.Common.{[]}
use Rattle.report_check.proofs.Right.{allowed_then, allowed_else}
use Rattle.report_check.proofs.event.is_allowed.Goals as goal

pub returns-then-mine : goal.returns-then-mine
returns-then-mine c =
    allowed_then [] c.args.place.now c.args.whole.now c.args.period.now c.is_open_to-mine.result c.is_flushed-flushed.result c.if-mine.true c.is_open_to-mine.ensures c.is_flushed-flushed.ensures

pub returns-else-mine : goal.returns-else-mine
returns-else-mine c = allowed_else [] c.args.place.now c.args.whole.now c.args.period.now c.is_open_to-mine.result c.if-mine.false c.is_open_to-mine.ensures
