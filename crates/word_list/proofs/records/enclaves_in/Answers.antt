use Rattle.std.proofs.Common.{◌∙◌, length, ap, arith}
use Rattle.std.proofs.lemmas.List.FromFn.{length-map-range_with_len}
use Rattle.word_list.specs.Pieces.{joined}
use Rattle.word_list.specs.Records.{enclave_listed}
use Rattle.word_list.proofs.Rows.{more_made}
use Rattle.word_list.proofs.records.enclaves_in.Goals as goal

pub push_reserved-requires : goal.push_reserved-requires
push_reserved-requires c =
    let ok = c.loop-e.room.ok.0 in
    let many = ap length c.loop-e.invariant.items ∙ length-map-range_with_len (enclave_listed c.args.config.now (joined c.args.words.now)) 0 c.loop-e.e in
    let room = c.requires.room in
    let same = c.loop-e.invariant.capacity in
    omega (arith, ok, many, room, same)

pub loop-e-preserved : goal.loop-e-preserved
loop-e-preserved c = record {
  items = more_made (enclave_listed c.args.config.now (joined c.args.words.now)) _ _ _ _ c.loop-e.invariant.items c.push_reserved.ensures.items c.enclave_in.ensures;
  capacity = c.push_reserved.ensures.capacity ∙ c.loop-e.invariant.capacity;
}
