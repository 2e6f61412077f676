use Rattle.std.proofs.Common.{◌≡◌, [], replicate}
use Rattle.legal_report.proofs.tickets.no_tickets.Given as goal

abbrev pub invariant-loop-core : goal.invariant-loop-core
invariant-loop-core l = l.lists.items ≡ replicate l.core []
