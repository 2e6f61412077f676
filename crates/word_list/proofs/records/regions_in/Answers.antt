use Rattle.std.proofs.Common.{◌∙◌, length, ap, arith}
use Rattle.std.proofs.lemmas.List.FromFn.{length-map-range_with_len}
use Rattle.word_list.specs.Pieces.{joined}
use Rattle.word_list.specs.Records.{region_listed}
use Rattle.word_list.proofs.Rows.{more_made}
use Rattle.word_list.proofs.records.regions_in.Goals as goal

pub push_reserved-requires : goal.push_reserved-requires
push_reserved-requires c =
    let ok = c.loop-r.room.ok.0 in
    let many = ap length c.loop-r.invariant.items ∙ length-map-range_with_len (region_listed c.args.config.now (joined c.args.words.now)) 0 c.loop-r.r in
    let room = c.requires.room in
    let same = c.loop-r.invariant.capacity in
    omega (arith, ok, many, room, same)

pub loop-r-preserved : goal.loop-r-preserved
loop-r-preserved c = record {
  items = more_made (region_listed c.args.config.now (joined c.args.words.now)) _ _ _ _ c.loop-r.invariant.items c.push_reserved.ensures.items c.region_in.ensures;
  capacity = c.push_reserved.ensures.capacity ∙ c.loop-r.invariant.capacity;
}
