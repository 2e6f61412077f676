use Rattle.std.proofs.Common.{◌≡◌, map, vec_capacity}
use Rattle.std.specs.List.{range_with_len}
use Rattle.word_list.specs.Pieces.{joined}
use Rattle.word_list.specs.Records.{thread_listed}
use Rattle.word_list.proofs.records.threads_in.Given as goal

abbrev pub invariant-loop-t : goal.invariant-loop-t
invariant-loop-t l = record {
  items : l.room.items ≡ map (thread_listed l.config (joined l.words)) (range_with_len 0 l.t);
  capacity : vec_capacity l.room ≡ vec_capacity l.fn.room;
}
