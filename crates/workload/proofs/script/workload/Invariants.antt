use Rattle.std.proofs.Common.{◌≡◌, map, vec_len, vec_capacity}
use Rattle.std.specs.List.{range_with_len}
use Rattle.workload.specs.Workload.{lines_of_core}
use Rattle.workload.proofs.script.workload.Given as goal

abbrev pub invariant-loop-core : goal.invariant-loop-core
invariant-loop-core l = record {
  made : l.lists.items ≡ map (λ core. lines_of_core l.n core) (range_with_len 0 l.core);
  room : vec_capacity l.lists ≡ l.cores;
  count : vec_len l.lists ≡ l.core;
}
