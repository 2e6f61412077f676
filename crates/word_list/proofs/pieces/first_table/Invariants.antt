use Rattle.word_list.specs.Pieces.{AreOwnedBelow}
use Rattle.word_list.proofs.pieces.first_table.Given as goal

abbrev pub invariant-loop-r : goal.invariant-loop-r
invariant-loop-r l = AreOwnedBelow l.config l.r l.table.items
