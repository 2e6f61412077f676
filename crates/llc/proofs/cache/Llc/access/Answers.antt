use Rattle.std.proofs.Common.{◌≡◌, ℕ, Bool, List, [], ◌∷◌, ◌++◌, length, sym, ap, subst, ◌∙◌, arith}
use Rattle.std.specs.Prelude.{IsTrue, ◌↔◌}
use Rattle.std.specs.Vec.{with_items}
use Rattle.std.proofs.lemmas.List.{with_items_is}
use Rattle.llc.specs.Hits.{IsHit, is_hit}
use Rattle.llc.specs.Sets.{Cache, StandsFor}
use Rattle.llc.proofs.Own.{own_hit}
use Rattle.llc.proofs.Whole.{next_hit}
use Rattle.llc.proofs.Accessed.{IsIn, answer_is, stands_is}
use Rattle.llc.proofs.cache.Llc.access.Goals as goal

pub returns-clause-answer : goal.returns-clause-answer
returns-clause-answer c = λ accesses stands.
    let cache : Cache = record { shape = c.self.inside.config; ways = c.self.inside.ways; sets = c.self.inside.sets.items } in
    let held : StandsFor cache accesses = subst (λ (x : Cache). StandsFor x accesses) (sym c.self.view_is) stands in
    let there : IsIn cache c.args.address c.deref_mut.result.now c.set_number-set.result = record {
      sets_are = c.deref_mut.ensures.value;
      count = c.self.invariant.1;
      own_is = c.set_number-set.ensures.number;
      within = c.set_number-set.ensures.within;
    } in
    answer_is cache accesses c.args.address c.deref_mut.result.now c.set_number-set.result c.touch_set.result there c.touch_set.ensures.hit held
    ∙ ap (λ (x : Cache). is_hit x.shape x.ways accesses c.args.address) c.self.view_is

pub returns-clause-own : goal.returns-clause-own
returns-clause-own c = λ accesses stands.
    returns-clause-answer c accesses stands ∙ sym (own_hit c.args.self.now.shape c.args.self.now.ways c.args.address accesses)

pub returns-clause-exactly : goal.returns-clause-exactly
returns-clause-exactly c = λ accesses stands.
    let now = c.args.self.now in
    subst (λ (b : Bool). IsTrue b ↔ IsHit now.shape now.ways (accesses ++ c.args.address ∷ []) (length accesses))
    (sym (returns-clause-answer c accesses stands)) (next_hit now.shape now.ways accesses c.args.address)

pub returns-clause-stands : goal.returns-clause-stands
returns-clause-stands c = λ accesses stands.
    let cache : Cache = record { shape = c.self.inside.config; ways = c.self.inside.ways; sets = c.self.inside.sets.items } in
    let held : StandsFor cache accesses = subst (λ (x : Cache). StandsFor x accesses) (sym c.self.view_is) stands in
    let there : IsIn cache c.args.address c.deref_mut.result.now c.set_number-set.result = record {
      sets_are = c.deref_mut.ensures.value;
      count = c.self.invariant.1;
      own_is = c.set_number-set.ensures.number;
      within = c.set_number-set.ensures.within;
    } in
    let items : (with_items c.self.inside.sets c.touch_set.new.sets).items ≡ c.touch_set.new.sets =
    with_items_is c.self.inside.sets c.touch_set.new.sets (omega (arith, c.touch_set.auto.sets, c.deref_mut.ensures.len)) in
    subst (λ (x : List (List ℕ)). StandsFor (record { shape = cache.shape; ways = cache.ways; sets = x }) (accesses ++ c.args.address ∷ [])) (sym items)
    (stands_is cache accesses c.args.address c.deref_mut.result.now c.set_number-set.result c.touch_set.new.sets there c.touch_set.ensures.tags held)
