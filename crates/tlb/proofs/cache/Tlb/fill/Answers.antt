use Rattle.tlb.specs.Cache.{entry_of}
use Rattle.tlb.proofs.Held.{stay_at, joined_at, fit_at, one_at, new_set}
use Rattle.tlb.proofs.cache.Tlb.fill.Goals as goal

pub invariant_of-self : goal.invariant_of-self
invariant_of-self c =
    let e = entry_of c.args.vpn c.args.page c.args.load c.args.store c.args.fetch in
    stay_at c.self.inside.sets e _ c.self.invariant
    (new_set c.self.inside.sets _ _ e c.self.invariant c.fill.ensures.filled)

pub returns-clause-filled : goal.returns-clause-filled
returns-clause-filled c =
    let e = entry_of c.args.vpn c.args.page c.args.load c.args.store c.args.fetch in
    joined_at c.self.inside.sets c.args.self.now e _ c.self.invariant c.self.view_is
    (new_set c.self.inside.sets _ _ e c.self.invariant c.fill.ensures.filled)

pub returns-clause-fits : goal.returns-clause-fits
returns-clause-fits c =
    let e = entry_of c.args.vpn c.args.page c.args.load c.args.store c.args.fetch in
    fit_at c.self.inside.sets e _ c.self.invariant
    (new_set c.self.inside.sets _ _ e c.self.invariant c.fill.ensures.filled)

pub returns-clause-one_each : goal.returns-clause-one_each
returns-clause-one_each c =
    let e = entry_of c.args.vpn c.args.page c.args.load c.args.store c.args.fetch in
    one_at c.self.inside.sets e _ c.self.invariant
    (new_set c.self.inside.sets _ _ e c.self.invariant c.fill.ensures.filled)
