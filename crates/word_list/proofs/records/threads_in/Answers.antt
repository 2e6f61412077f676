use Rattle.std.proofs.Common.{◌∙◌, length, ap, arith}
use Rattle.std.proofs.lemmas.List.FromFn.{length-map-range_with_len}
use Rattle.word_list.specs.Pieces.{joined}
use Rattle.word_list.specs.Records.{thread_listed}
use Rattle.word_list.proofs.Rows.{more_made}
use Rattle.word_list.proofs.records.threads_in.Goals as goal

pub push_reserved-requires : goal.push_reserved-requires
push_reserved-requires c =
    let ok = c.loop-t.room.ok.0 in
    let many = ap length c.loop-t.invariant.items ∙ length-map-range_with_len (thread_listed c.args.config.now (joined c.args.words.now)) 0 c.loop-t.t in
    let room = c.requires.room in
    let same = c.loop-t.invariant.capacity in
    omega (arith, ok, many, room, same)

pub loop-t-preserved : goal.loop-t-preserved
loop-t-preserved c = record {
  items = more_made (thread_listed c.args.config.now (joined c.args.words.now)) _ _ _ _ c.loop-t.invariant.items c.push_reserved.ensures.items c.thread_in.ensures;
  capacity = c.push_reserved.ensures.capacity ∙ c.loop-t.invariant.capacity;
}
