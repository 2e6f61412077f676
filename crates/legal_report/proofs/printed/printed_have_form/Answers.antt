use Rattle.legal_report.proofs.FormLaw.{printed_have_form}
use Rattle.legal_report.proofs.printed.printed_have_form.Goals as goal

pub returns : goal.returns
returns c = printed_have_form
