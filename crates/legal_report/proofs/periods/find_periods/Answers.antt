use Rattle.legal_report.specs.Kept.{calls_told}
use Rattle.legal_report.proofs.Named.{names_all}
use Rattle.legal_report.proofs.Noted.{names_at, noted_more}
use Rattle.legal_report.proofs.periods.find_periods.Goals as goal

pub note_all-requires-clause-names : goal.note_all-requires-clause-names
note_all-requires-clause-names c = names_at (calls_told c.args.calls.now) c.loop-k.k c.at-entry.result (names_all c.args.calls.now.config.now (calls_told c.args.calls.now) c.requires.right) c.at-entry.ensures.call

pub loop-k-preserved : goal.loop-k-preserved
loop-k-preserved c =
    noted_more c.args.calls.now.config.now (calls_told c.args.calls.now) c.loop-k.k c.at-entry.result c.loop-k.marks.items c.note_all.new.marks.items c.loop-k.initialized c.note_slot.new.initialized (names_all c.args.calls.now.config.now (calls_told c.args.calls.now) c.requires.right) c.at-entry.ensures.call
    c.loop-k.invariant c.in_ok-note_all.ensures c.note_slot.ensures
