use Rattle.std.proofs.Common.{◌≡◌, ◌++◌, map, take, drop}
use Rattle.mon_model.specs.EnclaveCalls.{deleted}
use Rattle.mon_calls.proofs.enclaves.delete_each.Given as goal

abbrev pub invariant-loop-pair : goal.invariant-loop-pair
invariant-loop-pair l = l.items ≡ map (λ x. (x.0, deleted x.1 l.fn.ticket)) (take l.pair-index l.initial.items) ++ drop l.pair-index l.initial.items
