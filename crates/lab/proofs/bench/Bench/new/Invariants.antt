use Rattle.std.proofs.Common.{◌≡◌, ◌≤◌, length, map, vec_capacity}
use Rattle.lab.specs.Fresh.{new_core}
use Rattle.lab.proofs.bench.Bench.new.Given as goal

abbrev pub invariant-loop-machine : goal.invariant-loop-machine
invariant-loop-machine l = record {
  made : l.cores.items ≡ map new_core l.yielded;
  room : length l.fn.machine.cores ≤ vec_capacity l.cores;
}
