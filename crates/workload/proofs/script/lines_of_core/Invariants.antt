use Rattle.std.proofs.Common.{◌≡◌, ◌-◌, ◌++◌, vec_len, vec_capacity}
use Rattle.workload.specs.Workload.{lines_of_core, lines_from}
use Rattle.workload.proofs.script.lines_of_core.Given as goal

abbrev pub invariant-loop : goal.invariant-loop
invariant-loop l = record {
  all : l.lines.items ++ lines_from (1000 - l.counter) l.generator.state ≡ lines_of_core l.fn.n l.fn.core;
  room : vec_capacity l.lines ≡ 1000;
  count : vec_len l.lines ≡ l.counter;
}
