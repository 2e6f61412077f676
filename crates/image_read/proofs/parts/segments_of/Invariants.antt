use Rattle.std.proofs.Common.{◌≡◌, ◌-◌, ◌≤◌, length}
use Rattle.dram_map.specs.Addresses.{dram_start}
use Rattle.image_read.specs.Reading.{segments_from}
use Rattle.image_read.proofs.ReadLoops.{behind_segments}
use Rattle.image_read.proofs.parts.segments_of.Given as goal

abbrev pub invariant-loop-number : goal.invariant-loop-number
invariant-loop-number l = record {
  read : behind_segments l.segments (segments_from l.config l.bytes l.number l.place l.at (l.count - l.number)) ≡ segments_from l.config l.bytes 0 dram_start l.fn.at l.count;
  within : l.at ≤ length l.bytes;
}
