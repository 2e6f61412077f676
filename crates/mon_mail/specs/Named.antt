-- What a call on mailboxes names, and whose measurement a message carries. This project's own.
use Rattle.std.specs.Prelude.{ℕ, ◌<◌, List, [], ◌∷◌, Option, unwrap_or}
use Rattle.mon_types.specs.declared.call.Call.{Call}
use Rattle.mon_types.specs.declared.call.Call.TheVariants as calls
use Rattle.mon_types.specs.declared.enclave.Enclave.{Enclave}

-- the mailbox that an accept, a send or a read names
abbrev pub named_mailbox : Call → ℕ
named_mailbox (calls.Accept m from) = m
named_mailbox (calls.Send to m w0 w1 w2 w3) = m
named_mailbox (calls.Read m) = m
named_mailbox _ = 0

-- the sender that an accept names
abbrev pub named_sender : Call → ℕ
named_sender (calls.Accept m from) = from
named_sender _ = 0

-- the four words of a send
abbrev pub message_named : Call → List ℕ
message_named (calls.Send to m w0 w1 w2 w3) = w0 ∷ w1 ∷ w2 ∷ w3 ∷ []
message_named _ = []

-- the sender's record: that of the target where no other is given, since an enclave may send to itself
abbrev pub sender_of : Option Enclave → Enclave → Enclave
sender_of sender target = unwrap_or sender target

-- an accept of one of the two mailboxes, from an enclave slot
abbrev pub IsAccept : Call → Type 0
IsAccept (calls.Accept m from) = (m < 2) × (from < 8)
IsAccept _ = ⊥

-- a send to one of the two mailboxes
abbrev pub IsSend : Call → Type 0
IsSend (calls.Send to m w0 w1 w2 w3) = m < 2
IsSend _ = ⊥

-- a read of one of the two mailboxes
abbrev pub IsRead : Call → Type 0
IsRead (calls.Read m) = m < 2
IsRead _ = ⊥
