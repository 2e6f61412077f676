use Rattle.std.proofs.Common.{◌≡◌, ◌+◌, ◌*◌, ◌≤◌, drop, map}
use Rattle.call_machine.specs.Rest.{row_start}
use Rattle.call_machine.proofs.places.row_start.Given as goal

-- the rows so far, and where the row begins in the others
abbrev pub invariant-loop-lock : goal.invariant-loop-lock
invariant-loop-lock l = record {
  rest : l.start + row_start (map (λ x. x.object) (drop l.lock-index l.locks)) l.object ≡ row_start (map (λ x. x.object) l.locks) l.object;
  small : l.start ≤ 37 * l.lock-index;
}
