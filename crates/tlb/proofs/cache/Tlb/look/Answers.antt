use Rattle.std.proofs.Common.{◌∙◌}
use Rattle.tlb.proofs.One.{looks_at_one}
use Rattle.tlb.proofs.Held.{fit_now, one_now, page_now}
use Rattle.tlb.proofs.cache.Tlb.look.Goals as goal

pub returns-clause-page : goal.returns-clause-page
returns-clause-page c =
    c.look.ensures
    ∙ page_now c.self.inside.sets c.args.self.now _ c.args.vpn c.args.access c.self.invariant c.self.view_is

pub returns-clause-one_each : goal.returns-clause-one_each
returns-clause-one_each c = one_now c.self.inside.sets c.args.self.now c.self.invariant c.self.view_is

pub returns-clause-one : goal.returns-clause-one
returns-clause-one c =
    returns-clause-page c ∙ looks_at_one c.args.self.now c.args.vpn c.args.access (returns-clause-one_each c)

pub returns-clause-fits : goal.returns-clause-fits
returns-clause-fits c = fit_now c.self.inside.sets c.args.self.now c.self.invariant c.self.view_is
