use Rattle.std.proofs.Common.{◌≡◌, ◌<◌, length, slice_index_or, arith}
use Rattle.std.proofs.lemmas.Grind.{common_steps}
use Rattle.std.proofs.lemmas.List.Edits.{map_over_more}
use Rattle.mon_types.specs.declared.region.Region.TheVariants.{Free}
use Rattle.mon_model.specs.EnclaveCalls.{deleted}
use Rattle.mon_enclaves.proofs.after.after_delete.Goals as goal

pub loop-region-preserved : goal.loop-region-preserved
loop-region-preserved c =
    let xs = c.args.regions.now in
    let ys = c.loop-region.regions in
    let i = c.loop-region.region-index in
    let x = slice_index_or ys i Free in
    let within : i < length xs = c.loop-region-test.true in
    let same : x ≡ slice_index_or ys i x = grind (arith, common_steps) in
    record {
      enclave = c.empty.ensures;
      regions = rw c.withdrawn.ensures (map_over_more (λ region. deleted region c.args.ticket) xs ys i x within c.loop-region.invariant.regions same);
    }
