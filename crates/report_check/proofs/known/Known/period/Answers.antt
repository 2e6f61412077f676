use Rattle.std.proofs.Common.{◌≡◌, ℕ, ◌+◌, length, sym, subst, rules, slice_index_or}
use Rattle.legal_report.specs.Counted.{counted}
use Rattle.legal_report.specs.Kept.{calls_told}
use Rattle.legal_report.specs.Marks.{MarksTell}
use Rattle.report_check.proofs.known.Known.period.Goals as goal

pub returns : goal.returns
returns c =
    let self = c.args.self.now in
    let marks = c.index-self-from.result in
    let at : c.from.result ≡ c.args.region = search rules in
    c.period.ensures (counted (calls_told self.calls)) (length self.calls.places.now + 1)
    (subst (λ (k : ℕ). MarksTell (counted (calls_told self.calls)) (length self.calls.places.now + 1) c.args.region (slice_index_or self.marks.now k marks)) (sym at) (c.requires.known.periods.each c.args.region marks c.requires.region))
