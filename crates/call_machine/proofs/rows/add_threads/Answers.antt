use Rattle.std.proofs.Common.{◌∙◌, ◌≤◌, ◌+◌, ◌++◌, length, sym, ap, subst}
use Rattle.call_machine.proofs.RowLoops.{threads_room, threads_more, threads_all}
use Rattle.call_machine.proofs.rows.add_threads.Goals as goal

pub add_row-requires : goal.add_row-requires
add_row-requires c =
    subst (λ l. length c.loop-item.words.items + length l ≤ 160) (sym c.thread_words.ensures)
    (threads_room c.loop-item.words.items c.args.words.now.items c.args.items.now c.loop-item.item-index 160 _ c.loop-item-test.true c.loop-item.invariant c.requires.room)

pub loop-item-preserved : goal.loop-item-preserved
loop-item-preserved c =
    threads_more c.loop-item.words.items c.args.words.now.items c.add_row.new.words.items c.args.items.now c.loop-item.item-index _ c.loop-item-test.true c.loop-item.invariant
    (c.add_row.ensures ∙ ap (λ l. c.loop-item.words.items ++ l) c.thread_words.ensures)

pub returns : goal.returns
returns c = threads_all c.loop-item.words.items c.args.words.now.items c.args.items.now c.loop-item.item-index c.loop-item-test.false c.loop-item.invariant
