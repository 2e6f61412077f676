use Rattle.std.proofs.Common.{sym, arith}
use Rattle.lock_plan.proofs.Places.{cell_here, cell_past}
use Rattle.lock_plan.proofs.plan.nth_cell.Goals as goal

pub returns-then-n-from : goal.returns-then-n-from
returns-then-n-from c = sym (cell_here c.args.cores c.args.n (omega arith))

pub returns-else-n-from : goal.returns-else-n-from
returns-else-n-from c = sym (cell_past c.args.cores c.args.n (omega arith))
