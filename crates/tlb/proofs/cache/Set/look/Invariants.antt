use Rattle.std.proofs.Common.{◌≡◌, drop}
use Rattle.tlb.specs.Cache.{page_for}
use Rattle.tlb.proofs.cache.Set.look.Given as goal

-- what is left of the set has what the set has
abbrev pub invariant-loop-entry : goal.invariant-loop-entry
invariant-loop-entry l = page_for (drop l.entry-index l.entry-items) l.vpn l.access ≡ page_for l.self l.vpn l.access
