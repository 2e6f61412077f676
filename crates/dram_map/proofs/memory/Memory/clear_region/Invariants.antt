use Rattle.std.proofs.Common.{◌≡◌, length}
use Rattle.dram_map.specs.Words.{pages_cleared}
use Rattle.dram_map.proofs.memory.Memory.clear_region.Given as goal

abbrev pub invariant-loop-page : goal.invariant-loop-page
invariant-loop-page l = record {
  so_far : l.self ≡ pages_cleared l.config l.r l.fn.self l.page;
  size : length l.self ≡ length l.fn.self;
}
