use Rattle.word_list.proofs.Rows.{part_of}
use Rattle.word_list.proofs.pieces.Pieces.row.Goals as goal

pub returns : goal.returns
returns g c = part_of c.args.self.now.table.items c.args.self.now.dram.items c.deref.result.now _ c.args.at g.row.N c.deref.ensures.value c.copy_from_slice.ensures.after c.requires
