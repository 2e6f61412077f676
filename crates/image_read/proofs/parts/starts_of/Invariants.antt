use Rattle.std.proofs.Common.{◌≡◌, ◌+◌, ◌*◌, ◌-◌, ◌≤◌, length}
use Rattle.image_read.specs.Reading.{starts_from}
use Rattle.image_read.proofs.ReadLoops.{behind}
use Rattle.image_read.proofs.parts.starts_of.Given as goal

abbrev pub invariant-loop : goal.invariant-loop
invariant-loop l = record {
  read : behind l.starts (starts_from l.bytes l.at (l.cores - l.counter)) ≡ starts_from l.bytes 16 l.cores;
  place : l.at ≡ 16 + 16 * l.counter;
  within : l.at ≤ length l.bytes;
}
