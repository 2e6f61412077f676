use Rattle.std.proofs.Common.{◌≡◌, length, drop}
use Rattle.dram_map.specs.Addresses.{dram_start, word_total}
use Rattle.image_read.specs.Image.{AreSegments}
use Rattle.image_memory.proofs.Whole.{IsLeft}
use Rattle.image_memory.proofs.start.start_memory.Given as goal

abbrev pub invariant-loop-segment : goal.invariant-loop-segment
invariant-loop-segment l = record {
  size : length l.memory ≡ word_total l.image.config;
  ascend : AreSegments l.image.config dram_start (drop l.segment-index l.segments);
  left : IsLeft l.image.config l.segments l.memory (drop l.segment-index l.segments);
}
