use Rattle.std.proofs.Common.{◌≡◌, ℕ, ◌+◌, ◌<◌, [], ◌∷◌, ◌++◌, get_or, take, sym, ap, subst, ◌∙◌, arith}
use Rattle.std.proofs.lemmas.List.{take_more, length-take, with_items_is}
use Rattle.mon_types.specs.Shape.{Shape}
use Rattle.llc.specs.Hits.{is_hit}
use Rattle.llc.specs.Sets.{StandsFor}
use Rattle.llc.specs.Tallies.{tallies_of}
use Rattle.llc.proofs.Counts.{accesses_few, hits_few, counted_at}
use Rattle.llc.proofs.counting.tallies.Goals as goal

pub count-requires-clause-accesses : goal.count-requires-clause-accesses
count-requires-clause-accesses c =
    let t = c.args.trace.now in
    let xs = c.as_slice-address-items.result.now in
    let i = c.loop-address.address-index in
    let lt : c.from.result < t.config.regions = omega (arith, c.from.ensures, c.region_of.ensures.within) in
    let few = accesses_few t.config t.ways c.from.result (take i xs) c.deref_mut.result.now lt (c.deref_mut.ensures.value ∙ c.loop-address.invariant.counted) in
    omega (arith, few, length-take i xs, c.loop-address-test.true, c.type_inv.address-items)

pub count-requires-clause-hits : goal.count-requires-clause-hits
count-requires-clause-hits c =
    let t = c.args.trace.now in
    let xs = c.as_slice-address-items.result.now in
    let i = c.loop-address.address-index in
    let lt : c.from.result < t.config.regions = omega (arith, c.from.ensures, c.region_of.ensures.within) in
    let few = hits_few t.config t.ways c.from.result (take i xs) c.deref_mut.result.now lt (c.deref_mut.ensures.value ∙ c.loop-address.invariant.counted) in
    omega (arith, few, length-take i xs, c.loop-address-test.true, c.type_inv.address-items)

pub loop-address-preserved : goal.loop-address-preserved
loop-address-preserved c =
    let t = c.args.trace.now in
    let xs = c.as_slice-address-items.result.now in
    let i = c.loop-address.address-index in
    let past = take i xs in
    let a = get_or xs i 0 in
    let inv = c.loop-address.invariant in
    let more : take (i + 1) xs ≡ past ++ a ∷ [] = take_more xs i 0 c.loop-address-test.true in
    let hit : c.access-hit.result ≡ is_hit t.config t.ways past a =
    c.access-hit.ensures.answer past inv.stands
    ∙ ap (λ (s : Shape). is_hit s c.loop-address.cache.ways past a) inv.shape
    ∙ ap (λ (w : ℕ). is_hit t.config w past a) inv.ways in
    let lt : c.from.result < t.config.regions = omega (arith, c.from.ensures, c.region_of.ensures.within) in
    record {
      shape = c.access-hit.ensures.shape ∙ inv.shape;
      ways = c.access-hit.ensures.ways ∙ inv.ways;
      stands = subst (StandsFor c.access-hit.new.self) (sym more) (c.access-hit.ensures.stands past inv.stands);
      counted =
          with_items_is c.loop-address.tallies c.count.new.tallies (omega (arith, c.count.auto.tallies, c.deref_mut.ensures.len))
          ∙ counted_at t.config t.ways past a c.access-hit.result c.deref_mut.result.now c.count.new.tallies c.from.result hit lt (c.from.ensures ∙ c.region_of.ensures.region) (c.deref_mut.ensures.value ∙ inv.counted) c.count.ensures
          ∙ ap (tallies_of t.config t.ways) (sym more);
    }
