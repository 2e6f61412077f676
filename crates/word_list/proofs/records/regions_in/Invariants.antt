use Rattle.std.proofs.Common.{◌≡◌, map, vec_capacity}
use Rattle.std.specs.List.{range_with_len}
use Rattle.word_list.specs.Pieces.{joined}
use Rattle.word_list.specs.Records.{region_listed}
use Rattle.word_list.proofs.records.regions_in.Given as goal

abbrev pub invariant-loop-r : goal.invariant-loop-r
invariant-loop-r l = record {
  items : l.room.items ≡ map (region_listed l.config (joined l.words)) (range_with_len 0 l.r);
  capacity : vec_capacity l.room ≡ vec_capacity l.fn.room;
}
