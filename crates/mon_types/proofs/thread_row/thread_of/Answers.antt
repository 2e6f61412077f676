-- The parts of words are kept where their row is these words.
use Rattle.mon_types.proofs.Rows.{same_row, other_row}
use Rattle.mon_types.proofs.ThreadRows.{thread_kept, thread_refused, thread_unique}
use Rattle.mon_types.proofs.thread_row.thread_of.Goals as goal

pub returns-then-eq-clause-read : goal.returns-then-eq-clause-read
returns-then-eq-clause-read c = thread_kept c.args.words.now _ c.candidate-thread.ensures.parts (same_row _ _ (cc))

pub returns-else-eq-clause-read : goal.returns-else-eq-clause-read
returns-else-eq-clause-read c =
    thread_refused c.args.words.now _ _ c.candidate-thread.ensures.parts (other_row _ _ (cc)) c.empty.ensures

pub returns-else-eq-clause-back : goal.returns-else-eq-clause-back
returns-else-eq-clause-back c x h row =
    let read = thread_refused c.args.words.now _ _ c.candidate-thread.ensures.parts (other_row _ _ (cc)) c.empty.ensures in
    thread_unique c.args.words.now _ x read h row
