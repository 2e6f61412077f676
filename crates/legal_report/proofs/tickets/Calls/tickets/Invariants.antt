use Rattle.std.proofs.Common.{take}
use Rattle.legal_report.specs.Kept.{calls_told, KeepsTickets}
use Rattle.legal_report.proofs.tickets.Calls.tickets.Given as goal

abbrev pub invariant-loop-k : goal.invariant-loop-k
invariant-loop-k l = KeepsTickets l.self.config.now.cores (take l.k (calls_told l.self)) l.lists.items
