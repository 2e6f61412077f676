use Rattle.std.proofs.Common.{◌∙◌, ℕ, ap, lit<}
use Rattle.mon_types.specs.Objects.{width}
use Rattle.mon_types.specs.Enclaves.{enclave_from, enclave_within}
use Rattle.mon_types.specs.declared.object.ObjectId.TheVariants as objects
use Rattle.word_list.specs.Pieces.{joined, words_at}
use Rattle.word_list.proofs.Rows.{row_whole}
use Rattle.word_list.proofs.records.enclave_in.Goals as goal

pub row-row-requires : goal.row-row-requires
unfolding width
row-row-requires c = (lit< tt, row_whole c.args.config.now c.args.words.now.table.items (objects.Enclave c.args.e) c.row_index.result c.requires.whole c.requires.there c.row_index.ensures.index)

pub returns : goal.returns
unfolding width
returns c =
    c.within.ensures ∙ ap (enclave_within c.args.config.now) (c.enclave_of.ensures.read
    ∙ ap enclave_from (c.row-row.ensures ∙ ap (λ (at : ℕ). words_at (joined c.args.words.now) at 29) c.row_index.ensures.index))
