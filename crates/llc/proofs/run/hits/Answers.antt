use Rattle.std.proofs.Common.{◌≡◌, ℕ, List, ap, ◌∙◌}
use Rattle.llc.specs.Hits.{AreHits, hits_of}
use Rattle.llc.specs.Regions.{accesses_of, answers_of, region_hits}
use Rattle.llc.proofs.Own.{own_hits_hold, same_hits_hold}
use Rattle.llc.proofs.Whole.{are_hits, ok_weaker}
use Rattle.llc.proofs.run.hits.Goals as goal

pub returns-clause-exactly : goal.returns-clause-exactly
returns-clause-exactly c =
    let t = c.args.trace.now in
    ok_weaker c.run.result (λ hits. hits.items ≡ hits_of t.config t.ways t.addresses) (λ hits. AreHits t.config t.ways t.addresses hits.items)
    (λ hits are. are_hits t.config t.ways t.addresses hits.items are) c.run.ensures.hits

pub returns-clause-own : goal.returns-clause-own
returns-clause-own c =
    let t = c.args.trace.now in
    ok_weaker c.run.result (λ hits. hits.items ≡ hits_of t.config t.ways t.addresses)
    (λ hits. (region : ℕ) → answers_of t.config region t.addresses hits.items ≡ hits_of t.config t.ways (accesses_of t.config region t.addresses))
    (λ hits are region. ap (answers_of t.config region t.addresses) are ∙ own_hits_hold t.config t.ways region t.addresses) c.run.ensures.hits

pub returns-clause-same : goal.returns-clause-same
returns-clause-same c =
    let t = c.args.trace.now in
    ok_weaker c.run.result (λ hits. hits.items ≡ hits_of t.config t.ways t.addresses)
    (λ hits. (region : ℕ) (others : List ℕ) → accesses_of t.config region t.addresses ≡ accesses_of t.config region others
    → answers_of t.config region t.addresses hits.items ≡ region_hits t.config t.ways region others)
    (λ hits are region others same.
    ap (answers_of t.config region t.addresses) are ∙ same_hits_hold t.config t.ways region t.addresses others same) c.run.ensures.hits
