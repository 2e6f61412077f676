-- What a call on held records is to be: the reply and the records of the sequential monitor, in every state that has
-- these records. This project's own.
use Rattle.std.specs.Prelude.{◌≡◌, ℕ, ⊤, true, List}
use Rattle.mon_types.specs.Shape.{Shape}
use Rattle.mon_types.specs.Replies.{is_done}
use Rattle.mon_types.specs.declared.thread.Mode.{Mode}
use Rattle.mon_types.specs.declared.call.Call.{Call}
use Rattle.mon_types.specs.declared.call.Call.TheVariants as calls
use Rattle.mon_types.specs.declared.reply.Reply.{Reply}
use Rattle.mon_model.specs.State.{State, IsWhole, mode_of, loaded_at}
use Rattle.mon_model.specs.Step.{reply_of, after}
use Rattle.mon_model.specs.Tries.{tries}
use Rattle.mon_model.specs.Loading.{StandInPages}
use Rattle.mon_enclaves.specs.FromItems.{table_words, leaf_words}
use Rattle.lock_plan.specs.declared.held.Held.{Held}
use Rattle.lock_plan.specs.Objects.{IsCaller}
use Rattle.lock_plan.specs.Records.{records_of}

-- In state s these are all words of page tables that a call which loads reads on its address's path; other calls read
-- none.
abbrev pub ArePathWords : State → Call → List ℕ → Type 0
ArePathWords s (calls.LoadTable e va level page) words =
    StandInPages s.shape (loaded_at s e) × (words ≡ table_words (loaded_at s e) va level)
ArePathWords s (calls.LoadPage e va page src perms) words =
    StandInPages s.shape (loaded_at s e) × ((given : ℕ) × (words ≡ leaf_words (loaded_at s e) va given))
ArePathWords s (calls.Reserve e va page perms) words =
    StandInPages s.shape (loaded_at s e) × ((given : ℕ) × (words ≡ leaf_words (loaded_at s e) va given))
ArePathWords s _ words = ⊤

-- State s is one of this machine with the core in this mode, and these are the records there of all that the call
-- tries.
pub record HasRecords (shape : Shape) (core : ℕ) (mode : Mode) (call : Call) (held : Held) (s : State) : Type 0 where
  pub whole : IsWhole s
  pub machine : s.shape ≡ shape
  pub caller : mode_of s core ≡ mode
  pub records : held ≡ records_of s (tries s core call)

-- In every state that has these records and gives these words, the answer is the call's reply.
abbrev pub IsReply : Shape → ℕ → Mode → Call → Held → List ℕ → Reply → Type 0
IsReply shape core mode call held words answer =
    (s : State) → HasRecords shape core mode call held s → ArePathWords s call words → answer ≡ reply_of s core call

-- In every state that has these records, where the call answers Ok, the new ones are the records of the same objects
-- after it, at ticket k. digest is that of the page that a load_page reads.
abbrev pub AreLeft : Shape → ℕ → Mode → Call → List ℕ → ℕ → Held → Held → Type 0
AreLeft shape core mode call digest k held new =
    (s : State) → HasRecords shape core mode call held s → IsCaller s.shape core (mode_of s core)
    → is_done (reply_of s core call) ≡ true → new ≡ records_of (after s core call digest k) (tries s core call)
