-- Laws of states without their items.
use Rattle.std.specs.Prelude.{◌≡◌, ℕ, List}
use Rattle.mon_types.specs.declared.call.Call.{Call}
use Rattle.mon_types.specs.declared.reply.Reply.{Reply}
use Rattle.mon_types.specs.declared.object.ObjectId.{ObjectId}
use Rattle.mon_model.specs.State.{State}
use Rattle.mon_model.specs.Step.{changed, reply_of}
use Rattle.mon_model.specs.Tries.{tries}
use Rattle.mon_records.specs.Rows.{row_words}
use Rattle.mon_records.specs.WithoutItems.{without_items, IsDecidedByRecords}

-- a state tries the same without its items
abbrev pub TriesWithoutItems : Type 0
TriesWithoutItems = (s : State) (core : ℕ) (call : Call) → tries (without_items s) core call ≡ tries s core call

-- it answers the same, where records decide
abbrev pub AnswersWithoutItems : Type 0
AnswersWithoutItems =
    (s : State) (core : ℕ) (call : Call)
    → IsDecidedByRecords call → reply_of (without_items s) core call ≡ reply_of s core call

-- and with the same reply every call makes the same of its tables
abbrev pub ChangesWithoutItems : Type 0
ChangesWithoutItems =
    (reply : Reply) (s : State) (core : ℕ) (call : Call) (digest : List ℕ) (ticket : ℕ)
    → without_items (changed reply (without_items s) core call digest ticket)
    ≡ without_items (changed reply s core call digest ticket)

-- items are in no row
abbrev pub RowsWithoutItems : Type 0
RowsWithoutItems = (s : State) (o : ObjectId) → row_words (without_items s) o ≡ row_words s o
