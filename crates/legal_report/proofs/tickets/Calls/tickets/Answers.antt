use Rattle.std.proofs.Common.{rules}
use Rattle.legal_report.specs.Kept.{calls_told}
use Rattle.legal_report.proofs.Lists.{keeps_more}
use Rattle.legal_report.proofs.tickets.Calls.tickets.Goals as goal

pub loop-k-preserved : goal.loop-k-preserved
loop-k-preserved c =
    keeps_more c.args.self.now.config.now.cores (calls_told c.args.self.now) c.loop-k.k c.at-entry.result c.loop-k.lists.items c.add_ticket.new.lists.items c.at-entry.ensures.call c.at-entry.ensures.fits.core c.loop-k.invariant (search rules)
