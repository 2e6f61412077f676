use Rattle.word_list.proofs.Start.{first_stands, locks_free}
use Rattle.word_list.proofs.list.WordList.new.Goals as goal

pub invariant_of-result : goal.invariant_of-result
invariant_of-result c = record {
  table = c.in_ok-table.ensures.many;
  dram = c.requires;
  locks = locks_free c.args.config.now c.in_ok-table.table.items c.args.dram.items c.in_ok-table.ensures;
  spare = c.in_ok-room.ensures;
}

pub returns-clause-start : goal.returns-clause-start
returns-clause-start c = first_stands c.args.config.now c.in_ok-table.table.items c.args.dram.items c.in_ok-table.ensures c.requires
