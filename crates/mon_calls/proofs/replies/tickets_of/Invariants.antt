use Rattle.std.proofs.Common.{◌≡◌, map, take}
use Rattle.mon_calls.proofs.replies.tickets_of.Given as goal

-- the tickets of the cells so far
abbrev pub invariant-loop-ticket : goal.invariant-loop-ticket
invariant-loop-ticket l = l.tickets.items ≡ map (λ cell. cell.1) (take l.ticket-index l.cells)
