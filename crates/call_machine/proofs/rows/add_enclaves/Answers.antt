use Rattle.std.proofs.Common.{◌∙◌, ◌≤◌, ◌+◌, ◌++◌, length, sym, ap, subst}
use Rattle.call_machine.proofs.RowLoops.{enclaves_room, enclaves_more, enclaves_all}
use Rattle.call_machine.proofs.rows.add_enclaves.Goals as goal

pub add_row-requires : goal.add_row-requires
add_row-requires c =
    subst (λ l. length c.loop-item.words.items + length l ≤ 160) (sym c.enclave_words.ensures)
    (enclaves_room c.loop-item.words.items c.args.words.now.items c.args.items.now c.loop-item.item-index 160 _ c.loop-item-test.true c.loop-item.invariant c.requires.room)

pub loop-item-preserved : goal.loop-item-preserved
loop-item-preserved c =
    enclaves_more c.loop-item.words.items c.args.words.now.items c.add_row.new.words.items c.args.items.now c.loop-item.item-index _ c.loop-item-test.true c.loop-item.invariant
    (c.add_row.ensures ∙ ap (λ l. c.loop-item.words.items ++ l) c.enclave_words.ensures)

pub returns : goal.returns
returns c = enclaves_all c.loop-item.words.items c.args.words.now.items c.args.items.now c.loop-item.item-index c.loop-item-test.false c.loop-item.invariant
