use Rattle.std.proofs.Common.{sym, ◌∙◌}
use Rattle.std.proofs.lemmas.Bool.{eqb-true}
use Rattle.legal_report.proofs.Walk.{none_begins}
use Rattle.legal_report.proofs.form.log_begun.Goals as goal

pub returns-then-is_empty-clause-none : goal.returns-then-is_empty-clause-none
returns-then-is_empty-clause-none c = none_begins c.args.core c.args.text.now (eqb-true _ 0 (sym c.is_empty.ensures ∙ c.if-is_empty.true))
