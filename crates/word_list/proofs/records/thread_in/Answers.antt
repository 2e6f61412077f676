use Rattle.std.proofs.Common.{◌∙◌, ℕ, ap, lit<}
use Rattle.mon_types.specs.Objects.{width}
use Rattle.mon_types.specs.Threads.{thread_from}
use Rattle.mon_types.specs.declared.object.ObjectId.TheVariants as objects
use Rattle.word_list.specs.Pieces.{joined, words_at}
use Rattle.word_list.proofs.Rows.{row_whole}
use Rattle.word_list.proofs.records.thread_in.Goals as goal

pub row-row-requires : goal.row-row-requires
unfolding width
row-row-requires c = (lit< tt, row_whole c.args.config.now c.args.words.now.table.items (objects.Thread c.args.t) c.row_index.result c.requires.whole c.requires.there c.row_index.ensures.index)

pub returns : goal.returns
unfolding width
returns c =
    c.thread_of.ensures.read
    ∙ ap thread_from (c.row-row.ensures ∙ ap (λ (at : ℕ). words_at (joined c.args.words.now) at 37) c.row_index.ensures.index)
