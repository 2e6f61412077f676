-- The tables after a call: records that are put back, and items. This project's own.
use Rattle.std.specs.Prelude.{ℕ, ◌<◌, ⊤, List, [], ◌∷◌, ◌++◌, length, slice_set, Option, Some, None}
use Rattle.std.specs.List.{slice_index_or}
use Rattle.mon_types.specs.declared.enclave.Loaded.{Loaded}
use Rattle.mon_types.specs.declared.enclave.LoadedKind.TheVariants as kinds
use Rattle.mon_types.specs.declared.call.Call.{Call}
use Rattle.mon_types.specs.declared.call.Call.TheVariants as calls
use Rattle.mon_model.specs.State.{State, loaded_at}
use Rattle.mon_model.specs.Loading.{table_kind}
use Rattle.lock_plan.specs.declared.held.Held.{Held}

module _ {X : Type 0} where
  -- the table with each of these records at its number
  abbrev pub put_all : List X → List (ℕ × X) → List X
  put_all table [] = table
  put_all table (x ∷ xs) = put_all (slice_set table x.0 x.1) xs

-- the state with the records that are held, each where it stands
abbrev pub with_held : State → Held → State
with_held s h = record s {
  regions = put_all s.regions h.regions.items;
  enclaves = put_all s.enclaves h.enclaves.items;
  threads = put_all s.threads h.threads.items;
  flushed = put_all s.flushed h.cells.items;
}

-- The items of the enclave slot that the call names, after Ok: one more of a call that loads, none of a create or a
-- delete.
abbrev pub items_by_call : Call → List Loaded → List Loaded
items_by_call (calls.Create e base size) items = []
items_by_call (calls.LoadTable e va level page) items =
    items ++ record { kind = table_kind level; va = va; page = page } ∷ []
items_by_call (calls.LoadPage e va page src perms) items =
    items ++ record { kind = kinds.Page; va = va; page = page } ∷ []
items_by_call (calls.Delete e) items = []
items_by_call (calls.Reserve e va page perms) items =
    items ++ record { kind = kinds.Reserved; va = va; page = page } ∷ []
items_by_call _ items = items

-- the slot whose items the call changes, None of the other calls
abbrev pub loading_slot : Call → Option ℕ
loading_slot (calls.Create e base size) = Some e
loading_slot (calls.LoadTable e va level page) = Some e
loading_slot (calls.LoadPage e va page src perms) = Some e
loading_slot (calls.Delete e) = Some e
loading_slot (calls.Reserve e va page perms) = Some e
loading_slot _ = None

-- the lists of all slots, with other items in one of them, if there is one
abbrev pub with_items : Option ℕ → (List Loaded → List Loaded) → List (List Loaded) → List (List Loaded)
with_items None change loaded = loaded
with_items (Some e) change loaded = slice_set loaded e (change (slice_index_or loaded e []))

-- the items of all slots after Ok
abbrev pub loaded_after : Call → List (List Loaded) → List (List Loaded)
loaded_after call loaded = with_items (loading_slot call) (items_by_call call) loaded

-- there is room for one more item in the slot of a call that loads
abbrev pub HasRoomFor : State → Call → Type 0
HasRoomFor s (calls.LoadTable e va level page) = length (loaded_at s e) < 1024
HasRoomFor s (calls.LoadPage e va page src perms) = length (loaded_at s e) < 1024
HasRoomFor s (calls.Reserve e va page perms) = length (loaded_at s e) < 1024
HasRoomFor s _ = ⊤
