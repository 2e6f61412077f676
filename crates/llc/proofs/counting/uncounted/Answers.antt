use Rattle.std.proofs.Common.{[], ◌∷◌, ◌++◌, List, sym, ap, ◌∙◌, arith}
use Rattle.std.proofs.lemmas.List.FromFn.{map-range_with_len_more}
use Rattle.llc.specs.declared.tally.Tally.{Tally}
use Rattle.llc.specs.Tallies.{uncounted}
use Rattle.llc.proofs.counting.uncounted.Goals as goal

pub loop-region-preserved : goal.loop-region-preserved
loop-region-preserved c =
    let region = c.loop-region.region in
    c.in_ok-push.ensures.items
    ∙ ap (λ (ts : List Tally). ts ++ uncounted region ∷ []) c.loop-region.invariant
    ∙ sym (map-range_with_len_more uncounted 0 region region (omega arith))
