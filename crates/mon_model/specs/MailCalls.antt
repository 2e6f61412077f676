-- Calls on mailboxes: accept, send and read. This project's own.
use Rattle.std.specs.Prelude.{ℕ, Bool, false, ◌==◌, ◌&&◌, List, ◌++◌, slice_set}
use Rattle.std.specs.List.{slice_index_or}
use Rattle.mon_types.specs.declared.enclave.Mailbox.{Mailbox}
use Rattle.mon_types.specs.declared.enclave.Mailbox.TheVariants as boxes
use Rattle.mon_types.specs.declared.enclave.Enclave.{Enclave}
use Rattle.mon_types.specs.declared.reply.Reply.{Reply}
use Rattle.mon_types.specs.declared.reply.Reply.TheVariants as replies
use Rattle.mon_types.specs.Replies.{ok_with_eight, done_if}
use Rattle.mon_model.specs.RegionCalls.{is_initialized}

-- mailbox m of an enclave
abbrev pub mailbox_at : Enclave → ℕ → Mailbox
mailbox_at enclave m = slice_index_or enclave.mail m boxes.Closed

-- the enclave with another mailbox m
abbrev pub with_mailbox : Enclave → ℕ → Mailbox → Enclave
with_mailbox enclave m mailbox = record enclave { mail = slice_set enclave.mail m mailbox }

-- whether the mailbox waits for a message of this sender
abbrev pub expects : ℕ → Mailbox → Bool
expects sender boxes.Closed = false
expects sender (boxes.Expecting from) = sender == from
expects sender (boxes.Full from words measure) = false

-- ---- send, by the enclave in slot own

-- a message goes to an enclave that is whole and expects it in this mailbox
abbrev pub send_reply : ℕ → Enclave → ℕ → Reply
send_reply own target m = done_if (is_initialized target.stage && expects own (mailbox_at target m))

-- the message carries the sender's slot and measurement
abbrev pub sent : ℕ → List ℕ → List ℕ → Mailbox
sent own words measure = boxes.Full own words measure

-- ---- read

-- the words of the message, then the sender's measurement
abbrev pub mail_reply : Mailbox → Reply
mail_reply boxes.Closed = replies.InvalidState
mail_reply (boxes.Expecting from) = replies.InvalidState
mail_reply (boxes.Full from words measure) = ok_with_eight (words ++ measure)

-- a full mailbox is read
abbrev pub read_reply : Enclave → ℕ → Reply
read_reply own m = mail_reply (mailbox_at own m)
