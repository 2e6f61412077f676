-- The moves of the calls on mailboxes, written down by hand. A mailbox has nine words, the first at place 11 of its
-- enclave's row and the second at place 20. This project's own.
use Rattle.std.specs.Prelude.{List, [], ◌∷◌, ◌++◌}
use Rattle.mon_types.specs.Replies.{done, ok_with_eight}
use Rattle.mon_types.specs.Enclaves.{enclave_row}
use Rattle.mon_types.specs.declared.enclave.Enclave.{Enclave}
use Rattle.mon_types.specs.declared.enclave.Mailbox.{Mailbox}
use Rattle.mon_types.specs.declared.enclave.Mailbox.TheVariants as boxes
use Rattle.mon_types.specs.declared.call.Call.TheVariants as calls
use Rattle.mon_types.specs.declared.reply.Reply.TheVariants as replies
use Rattle.mon_model.specs.State.{State, with_enclave}
use Rattle.protocol.specs.declared.action.Action.{Action}
use Rattle.protocol.specs.declared.action.Outcome.{Outcome}
use Rattle.protocol.specs.Alone.{takes, writes, draws, gives, e3, e5}
use Rattle.protocol_runs.specs.EnclaveRuns.{running, with_e3}

-- ---- states

-- an enclave whose second mailbox is this
abbrev pub with_box : Mailbox → Enclave
with_box box = record running { mail = boxes.Closed ∷ box ∷ [] }

-- slot 3 has the caller, and slot 5 an enclave whose second mailbox is this
abbrev pub beside : Mailbox → State
beside box = with_enclave (with_e3 running) 5 (with_box box)

-- a message of the enclave in slot 5
abbrev pub full : Mailbox
full = boxes.Full 5 (1 ∷ 2 ∷ 3 ∷ 4 ∷ []) (21 ∷ 22 ∷ 23 ∷ 24 ∷ [])

-- ---- accept

-- Expecting from 5, 1 + 5
abbrev pub accept_ok : List (Action × Outcome)
accept_ok =
    takes e3 (enclave_row running) ++ draws (calls.Accept 1 5) done (e3 ∷ []) ∷ writes e3 20 6 ∷ gives e3 ∷ []

-- where it expects from 5 already nothing is to differ, so nothing is written
abbrev pub accept_again : List (Action × Outcome)
accept_again =
    takes e3 (enclave_row (with_box (boxes.Expecting 5))) ++ draws (calls.Accept 1 5) done (e3 ∷ []) ∷ gives e3 ∷ []

-- there is no mailbox 2
abbrev pub accept_refused : List (Action × Outcome)
accept_refused = draws (calls.Accept 2 5) replies.InvalidValue [] ∷ []

-- ---- send

-- Full from 3, 9 + 3, the four words, and the sender's measurement
abbrev pub send_ok : List (Action × Outcome)
send_ok =
    takes e3 (enclave_row running)
    ++ takes e5 (enclave_row (with_box (boxes.Expecting 3)))
    ++ draws (calls.Send 5 1 1 2 3 4) done (e3 ∷ e5 ∷ [])
    ∷ writes e5 20 12
    ∷ writes e5 21 1
    ∷ writes e5 22 2
    ∷ writes e5 23 3
    ∷ writes e5 24 4
    ∷ writes e5 25 11
    ∷ writes e5 26 12
    ∷ writes e5 27 13
    ∷ writes e5 28 14
    ∷ gives e5
    ∷ gives e3
    ∷ []

-- it expects another
abbrev pub send_refused : List (Action × Outcome)
send_refused =
    takes e3 (enclave_row running)
    ++ takes e5 (enclave_row (with_box (boxes.Expecting 4)))
    ++ draws (calls.Send 5 1 1 2 3 4) replies.InvalidState (e3 ∷ e5 ∷ [])
    ∷ gives e5
    ∷ gives e3
    ∷ []

-- ---- read

-- the message goes to the reply, and the mailbox is Closed
abbrev pub read_ok : List (Action × Outcome)
read_ok =
    takes e3 (enclave_row (with_box full))
    ++ draws (calls.Read 1) (ok_with_eight (1 ∷ 2 ∷ 3 ∷ 4 ∷ 21 ∷ 22 ∷ 23 ∷ 24 ∷ [])) (e3 ∷ [])
    ∷ writes e3 20 0
    ∷ writes e3 21 0
    ∷ writes e3 22 0
    ∷ writes e3 23 0
    ∷ writes e3 24 0
    ∷ writes e3 25 0
    ∷ writes e3 26 0
    ∷ writes e3 27 0
    ∷ writes e3 28 0
    ∷ gives e3
    ∷ []

-- there is no message
abbrev pub read_refused : List (Action × Outcome)
read_refused =
    takes e3 (enclave_row running) ++ draws (calls.Read 1) replies.InvalidState (e3 ∷ []) ∷ gives e3 ∷ []
