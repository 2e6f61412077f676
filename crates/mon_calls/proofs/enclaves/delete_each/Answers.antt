use Rattle.std.proofs.Common.{◌≡◌, ◌<◌, length, slice_index_or, arith}
use Rattle.std.proofs.lemmas.Grind.{common_steps}
use Rattle.std.proofs.lemmas.List.Edits.{map_over_more}
use Rattle.mon_types.specs.declared.region.Region.TheVariants.{Free}
use Rattle.mon_model.specs.EnclaveCalls.{deleted}
use Rattle.mon_calls.proofs.enclaves.delete_each.Goals as goal

pub loop-pair-preserved : goal.loop-pair-preserved
loop-pair-preserved c =
    let xs = c.args.items.now in
    let ys = c.loop-pair.items in
    let i = c.loop-pair.pair-index in
    let x = slice_index_or ys i (0, Free) in
    let within : i < length xs = c.loop-pair-test.true in
    let same : x ≡ slice_index_or ys i x = grind (arith, common_steps) in
    rw c.deleted_region.ensures (map_over_more (λ x. (x.0, deleted x.1 c.args.ticket)) xs ys i x within c.loop-pair.invariant same)
