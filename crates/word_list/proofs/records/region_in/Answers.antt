use Rattle.std.proofs.Common.{◌∙◌, ap, lit<, arith}
use Rattle.mon_types.specs.Objects.{width}
use Rattle.mon_types.specs.Owns.{region_from}
use Rattle.mon_types.specs.declared.object.ObjectId.TheVariants as objects
use Rattle.word_list.proofs.Rows.{row_low, region_row_is, or_free}
use Rattle.word_list.proofs.records.region_in.Goals as goal

pub word-requires : goal.word-requires
unfolding width
word-requires c =
    let low = row_low c.args.config.now c.args.words.now.table.items c.args.words.now.dram.items (objects.Region c.args.r) c.row_index-at.result 0 c.requires.whole c.requires.there c.row_index-at.ensures.index (lit< tt) in
    omega (arith, low)

pub word-requires-2 : goal.word-requires-2
unfolding width
word-requires-2 c =
    row_low c.args.config.now c.args.words.now.table.items c.args.words.now.dram.items (objects.Region c.args.r) c.row_index-at.result 1 c.requires.whole c.requires.there c.row_index-at.ensures.index (lit< tt)

pub returns : goal.returns
returns c =
    c.unwrap_or.ensures ∙ or_free c.unpack_own.result ∙ c.unpack_own.ensures.read
    ∙ ap region_from (region_row_is _ _ _ _ _ _ c.row_index-at.ensures.index c.word.ensures c.word-2.ensures)
