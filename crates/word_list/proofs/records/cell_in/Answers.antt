use Rattle.std.proofs.Common.{◌∙◌, ap, lit<, arith}
use Rattle.mon_types.specs.Objects.{width}
use Rattle.mon_types.specs.Cells.{cell_from}
use Rattle.mon_types.specs.declared.object.ObjectId.TheVariants as objects
use Rattle.word_list.proofs.Rows.{row_low, cell_row_is}
use Rattle.word_list.proofs.records.cell_in.Goals as goal

pub word-requires : goal.word-requires
unfolding width
word-requires c =
    let low = row_low c.args.config.now c.args.words.now.table.items c.args.words.now.dram.items (objects.Cell c.args.core) c.row_index.result 0 c.requires.whole c.requires.there c.row_index.ensures.index (lit< tt) in
    omega (arith, low)

pub returns : goal.returns
returns c = c.cell_of.ensures ∙ ap cell_from (cell_row_is _ _ _ _ _ c.row_index.ensures.index c.word.ensures)
