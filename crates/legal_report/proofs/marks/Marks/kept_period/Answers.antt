use Rattle.std.proofs.Common.{sym, subst}
use Rattle.std.specs.List.Sorted.{IsNonDecreasing}
use Rattle.legal_report.proofs.Sought.{tickets_rise}
use Rattle.legal_report.proofs.marks.Marks.kept_period.Goals as goal

pub first_above-blocked-requires : goal.first_above-blocked-requires
first_above-blocked-requires c = subst IsNonDecreasing (sym c.as_slice.ensures) (tickets_rise 0 c.args.self.now.ends c.requires.ends)

pub first_above-freed-requires : goal.first_above-freed-requires
first_above-freed-requires c = subst IsNonDecreasing (sym c.as_slice-in-Some.ensures) (tickets_rise 0 c.args.self.now.frees c.requires.frees)
