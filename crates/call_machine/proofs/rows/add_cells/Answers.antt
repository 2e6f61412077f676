use Rattle.std.proofs.Common.{◌∙◌, ◌∷◌, [], ◌++◌, ap, arith}
use Rattle.call_machine.proofs.RowLoops.{cells_room, cells_more, cells_all}
use Rattle.call_machine.proofs.rows.add_cells.Goals as goal

pub add_row-requires : goal.add_row-requires
add_row-requires c =
    omega (arith, cells_room c.loop-item.words.items c.args.words.now.items c.args.items.now c.loop-item.item-index 160 (0, 0) c.loop-item-test.true c.loop-item.invariant c.requires)

pub loop-item-preserved : goal.loop-item-preserved
loop-item-preserved c =
    cells_more c.loop-item.words.items c.args.words.now.items c.add_row.new.words.items c.args.items.now c.loop-item.item-index (0, 0) c.loop-item-test.true c.loop-item.invariant
    (c.add_row.ensures ∙ ap (λ x. c.loop-item.words.items ++ x ∷ []) c.from.ensures)

pub returns : goal.returns
returns c = cells_all c.loop-item.words.items c.args.words.now.items c.args.items.now c.loop-item.item-index c.loop-item-test.false c.loop-item.invariant
