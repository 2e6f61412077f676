use Rattle.tlb.proofs.One.{fills_keep_one_each, runs_have_one_each, looks_at_one}
use Rattle.tlb.proofs.laws.each_page_has_one_entry.Goals as goal

pub returns-clause-fills : goal.returns-clause-fills
returns-clause-fills c = fills_keep_one_each

pub returns-clause-runs : goal.returns-clause-runs
returns-clause-runs c = runs_have_one_each

pub returns-clause-looks : goal.returns-clause-looks
returns-clause-looks c = looks_at_one
