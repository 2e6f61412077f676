-- The parts of words are a record in range.
use Rattle.std.proofs.Common.{sym, subst, refl}
use Rattle.mon_types.specs.Enclaves.{IsRoot, IsMailbox}
use Rattle.mon_types.proofs.EnclaveRows.{root_valid, mailbox_valid}
use Rattle.mon_types.proofs.enclave_row.candidate.Goals as goal

pub returns-clause-valid : goal.returns-clause-valid
returns-clause-valid c = record {
  base = c.fits-words 1;
  size = c.fits-words 2;
  regions = c.fits-words 3;
  root = subst IsRoot (sym c.root_of.ensures) (root_valid _);
  next_page = c.u16_of.type_inv;
  threads = c.u8_of.type_inv;
  measure = c.words_at.ensures.valid;
  two = refl;
  mail = (
    subst IsMailbox (sym c.mailbox_of.ensures) (mailbox_valid _ c.words_at-2.ensures.valid),
    (subst IsMailbox (sym c.mailbox_of-2.ensures) (mailbox_valid _ c.words_at-3.ensures.valid), tt),
  );
}
