use Rattle.std.proofs.Common.{◌≡◌, map, vec_capacity}
use Rattle.std.specs.List.{range_with_len}
use Rattle.word_list.specs.Pieces.{joined}
use Rattle.word_list.specs.Records.{enclave_listed}
use Rattle.word_list.proofs.records.enclaves_in.Given as goal

abbrev pub invariant-loop-e : goal.invariant-loop-e
invariant-loop-e l = record {
  items : l.room.items ≡ map (enclave_listed l.config (joined l.words)) (range_with_len 0 l.e);
  capacity : vec_capacity l.room ≡ vec_capacity l.fn.room;
}
