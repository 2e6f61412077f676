use Rattle.legal_report.proofs.Small.{nothing_legal, flush_legal}
use Rattle.legal_report.proofs.runs.legal_ones.Goals as goal

pub returns-clause-nothing : goal.returns-clause-nothing
returns-clause-nothing c = nothing_legal

pub returns-clause-flush : goal.returns-clause-flush
returns-clause-flush c = flush_legal
