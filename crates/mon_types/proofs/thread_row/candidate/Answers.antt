-- The parts of words are a record in range.
use Rattle.std.proofs.Common.{sym, subst}
use Rattle.mon_types.specs.Threads.{StateNamesSlot}
use Rattle.mon_types.proofs.ThreadRows.{state_valid}
use Rattle.mon_types.proofs.thread_row.candidate.Goals as goal

pub returns-clause-valid : goal.returns-clause-valid
returns-clause-valid c = record {
  state = subst StateNamesSlot (sym c.state_of.ensures) (state_valid _);
  entry = c.fits-words 1;
  sp = c.fits-words 2;
  saved_at = c.u32_of.type_inv;
  saved = c.words_at.ensures.valid;
}
