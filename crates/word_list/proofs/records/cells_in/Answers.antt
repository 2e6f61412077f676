use Rattle.std.proofs.Common.{◌∙◌, length, ap, arith}
use Rattle.std.proofs.lemmas.List.FromFn.{length-map-range_with_len}
use Rattle.word_list.specs.Pieces.{joined}
use Rattle.word_list.specs.Records.{cell_listed}
use Rattle.word_list.proofs.Rows.{more_made}
use Rattle.word_list.proofs.records.cells_in.Goals as goal

pub push_reserved-requires : goal.push_reserved-requires
push_reserved-requires c =
    let ok = c.loop-core.room.ok.0 in
    let many = ap length c.loop-core.invariant.items ∙ length-map-range_with_len (cell_listed c.args.config.now (joined c.args.words.now)) 0 c.loop-core.core in
    let room = c.requires.room in
    let same = c.loop-core.invariant.capacity in
    omega (arith, ok, many, room, same)

pub loop-core-preserved : goal.loop-core-preserved
loop-core-preserved c = record {
  items = more_made (cell_listed c.args.config.now (joined c.args.words.now)) _ _ _ _ c.loop-core.invariant.items c.push_reserved.ensures.items c.cell_in.ensures;
  capacity = c.push_reserved.ensures.capacity ∙ c.loop-core.invariant.capacity;
}
