use Rattle.std.proofs.Common.{◌≡◌, ◌∙◌, drop, sym, ap, subst}
use Rattle.call_machine.specs.Named.{RegionsAreNamed}
use Rattle.call_machine.specs.Rest.{early_rest}
use Rattle.call_machine.specs.Meaning.{objects_in}
use Rattle.call_machine.proofs.Finishing.{records_named}
use Rattle.call_machine.proofs.work.Work.early_from.Goals as goal

pub next_early-requires-clause-named : goal.next_early-requires-clause-named
next_early-requires-clause-named c =
    let w = c.args.self.now in
    let d = c.requires.decided in
    subst RegionsAreNamed (sym (c.deref.ensures.0 ∙ ap (λ h. h.regions.items) d.holding.front.records)) (records_named d.state (objects_in w) d.holding.ranges).regions

pub returns-clause-skips : goal.returns-clause-skips
returns-clause-skips c os stood next =
    let w = c.args.self.now in
    subst (λ l. early_rest w.call os (drop c.args.from l) stood next ≡ early_rest w.call os (drop c.next_early.result l) stood next) c.deref.ensures.0 (c.next_early.ensures.skips os stood next)
