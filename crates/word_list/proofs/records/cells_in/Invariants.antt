use Rattle.std.proofs.Common.{◌≡◌, map, vec_capacity}
use Rattle.std.specs.List.{range_with_len}
use Rattle.word_list.specs.Pieces.{joined}
use Rattle.word_list.specs.Records.{cell_listed}
use Rattle.word_list.proofs.records.cells_in.Given as goal

abbrev pub invariant-loop-core : goal.invariant-loop-core
invariant-loop-core l = record {
  items : l.room.items ≡ map (cell_listed l.config (joined l.words)) (range_with_len 0 l.core);
  capacity : vec_capacity l.room ≡ vec_capacity l.fn.room;
}
