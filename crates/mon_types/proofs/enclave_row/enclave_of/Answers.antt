-- The parts of words are kept where their row is these words.
use Rattle.mon_types.proofs.Rows.{same_row, other_row}
use Rattle.mon_types.proofs.EnclaveRows.{enclave_kept, enclave_refused, enclave_unique}
use Rattle.mon_types.proofs.enclave_row.enclave_of.Goals as goal

pub returns-then-eq-clause-read : goal.returns-then-eq-clause-read
returns-then-eq-clause-read c = enclave_kept c.args.words.now _ c.candidate-enclave.ensures.parts (same_row _ _ (cc))

pub returns-then-eq-clause-back : goal.returns-then-eq-clause-back
returns-then-eq-clause-back c x h row =
    enclave_unique c.args.words.now _ x (enclave_kept c.args.words.now _ c.candidate-enclave.ensures.parts (same_row _ _ (cc))) h row

pub returns-else-eq-clause-read : goal.returns-else-eq-clause-read
returns-else-eq-clause-read c =
    enclave_refused c.args.words.now _ _ c.candidate-enclave.ensures.parts (other_row _ _ (cc)) c.empty.ensures

pub returns-else-eq-clause-back : goal.returns-else-eq-clause-back
returns-else-eq-clause-back c x h row =
    let read = enclave_refused c.args.words.now _ _ c.candidate-enclave.ensures.parts (other_row _ _ (cc)) c.empty.ensures in
    enclave_unique c.args.words.now _ x read h row
