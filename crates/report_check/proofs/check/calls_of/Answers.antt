use Rattle.std.proofs.Common.{refl}
use Rattle.report_check.proofs.Judged.{laid_by}
use Rattle.report_check.proofs.check.calls_of.Goals as goal

pub returns-clause-laid : goal.returns-clause-laid
returns-clause-laid c =
    laid_by c.args.bytes.now c.args.form.now _ (record { config = refl; text = refl; places = c.as_slice.ensures }) c.requires.size c.requires.told c.requires.count
