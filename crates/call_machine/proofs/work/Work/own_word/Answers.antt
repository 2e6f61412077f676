use Rattle.std.proofs.Common.{ℕ, ◌∙◌, get_or, length, sym, ap, subst, arith}
use Rattle.mon_types.specs.Owns.{RegionNamesSlot}
use Rattle.mon_types.specs.declared.region.Region.{Region}
use Rattle.mon_types.specs.declared.region.Region.TheVariants as regions
use Rattle.call_machine.specs.Named.{RegionsAreNamed}
use Rattle.call_machine.specs.Rest.{early_own}
use Rattle.call_machine.specs.Meaning.{objects_in}
use Rattle.call_machine.specs.Stands.{phase_stands}
use Rattle.call_machine.proofs.Finishing.{records_named}
use Rattle.call_machine.proofs.Loads.{all_at}
use Rattle.call_machine.proofs.work.Work.own_word.Goals as goal

pub bounds-deref-from : goal.bounds-deref-from
unfolding phase_stands
bounds-deref-from c = omega (arith, c.requires.stands.2, c.from.ensures, ap (λ l. length l) c.deref.ensures.0)

pub bounds-deref-from-2 : goal.bounds-deref-from-2
unfolding phase_stands
bounds-deref-from-2 c = omega (arith, c.requires.stands.2, c.from.ensures, ap (λ l. length l) c.deref.ensures.0)

pub early_own-requires : goal.early_own-requires
unfolding phase_stands
early_own-requires c =
    let w = c.args.self.now in
    let d = c.requires.stands.0 in
    let named : RegionsAreNamed w.held.regions.items = subst RegionsAreNamed (sym (ap (λ h. h.regions.items) d.holding.front.records)) (records_named d.state (objects_in w) d.holding.ranges).regions in
    subst (λ l. RegionNamesSlot (get_or {A = ℕ × Region} l c.from.result (0, regions.Free)).1) (sym c.deref.ensures.0)
    (subst (λ i. RegionNamesSlot (get_or {A = ℕ × Region} w.held.regions.items i (0, regions.Free)).1) (sym c.from.ensures)
    (all_at (λ x. RegionNamesSlot x.1) w.held.regions.items c.args.at (0, regions.Free) c.requires.stands.2 named))

pub unreachable-requires : goal.unreachable-requires
unfolding phase_stands
unreachable-requires c =
    let w = c.args.self.now in
    c.requires.stands.3
    (ap (λ i. early_own w.call (get_or {A = ℕ × Region} w.held.regions.items i (0, regions.Free)).1) (sym c.from.ensures)
    ∙ ap (λ l. early_own w.call (get_or {A = ℕ × Region} l c.from.result (0, regions.Free)).1) (sym c.deref.ensures.0)
    ∙ sym c.early_own.ensures ∙ c.in-None.is)

pub returns-clause-region : goal.returns-clause-region
returns-clause-region c =
    let w = c.args.self.now in
    ap (λ l. (get_or {A = ℕ × Region} l c.from.result (0, regions.Free)).0) c.deref.ensures.0 ∙ ap (λ i. (get_or {A = ℕ × Region} w.held.regions.items i (0, regions.Free)).0) c.from.ensures

pub returns-clause-word : goal.returns-clause-word
returns-clause-word c =
    let w = c.args.self.now in
    ap (λ i. early_own w.call (get_or {A = ℕ × Region} w.held.regions.items i (0, regions.Free)).1) (sym c.from.ensures)
    ∙ ap (λ l. early_own w.call (get_or {A = ℕ × Region} l c.from.result (0, regions.Free)).1) (sym c.deref.ensures.0)
    ∙ sym c.early_own.ensures ∙ c.in-Some.is
