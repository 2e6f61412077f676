-- The measurement of an enclave, read off a list of finished calls: a chain over bytes, of which only
-- the last digest is seen as words. This project's own.
use Rattle.std.specs.Prelude.{◌≡◌, ℕ, false, ◌==◌, if◌then◌else◌, List, [], ◌∷◌, ◌++◌, fold}
use Rattle.mon_types.specs.declared.call.Call.{Call}
use Rattle.mon_types.specs.declared.call.Call.TheVariants as calls
use Rattle.mon_types.specs.declared.reply.Reply.{Reply}
use Rattle.mon_model.specs.State.{State, enclave_at}
use Rattle.mon_types.specs.Replies.{is_done}
use Rattle.mon_model.specs.RegionCalls.{is_empty}
use Rattle.mon_model.specs.Step.{reply_of}
use Rattle.mon_model.specs.Measure.{Item, Create, Table, Page, Thread, Init, reserved_level, chain_start, extend, to_words}

-- a finished call with its answer; digest is that of the page that a load_page read, which no other
-- call uses
pub record Answered : Type 0 where
  pub call : Call
  pub reply : Reply
  pub digest : List ℕ

-- a call, as the sequential monitor answers it in state s
abbrev pub answered_in : State → ℕ → Call → List ℕ → Answered
answered_in s core call digest = record { call = call; reply = reply_of s core call; digest = digest }

-- The items of enclave slot e after a call that answered Ok: a create of the slot begins them anew, and
-- each call that loads into it, or ends its loading, adds one.
abbrev pub items_by : ℕ → Call → List ℕ → List Item → List Item
items_by e (calls.Create f base size) digest items = if f == e then Create base size ∷ [] else items
items_by e (calls.LoadTable f va level page) digest items = if f == e then items ++ Table va level ∷ [] else items
items_by e (calls.LoadPage f va page src perms) digest items =
    if f == e then items ++ Page va perms digest ∷ [] else items
items_by e (calls.LoadThread f t entry sp) digest items = if f == e then items ++ Thread entry sp ∷ [] else items
items_by e (calls.Init f) digest items = if f == e then items ++ Init ∷ [] else items
items_by e (calls.Reserve f va page perms) digest items =
    if f == e then items ++ Table va (reserved_level perms) ∷ [] else items
items_by e _ digest items = items

-- after any call: a refused one, or one that met a held lock, adds nothing
abbrev pub items_after : ℕ → List Item → Answered → List Item
items_after e items x = if is_done x.reply then items_by e x.call x.digest items else items

-- the items of slot e since its last create that answered Ok, in the order of these calls
abbrev pub items_of : List Answered → ℕ → List Item
items_of h e = fold (items_after e) [] h

-- the digest at the end of a chain over these items
abbrev pub chain_of : List Item → List ℕ
chain_of items = fold extend chain_start items

-- the four words of that digest
abbrev pub measure_of : List Item → List ℕ
measure_of items = to_words (chain_of items)

-- Each enclave slot that is not Empty has the measurement of its items in these calls. There is no such
-- slot past the last one: what stands there is an empty slot's record.
pub record IsMeasured (h : List Answered) (s : State) : Type 0 where
  pub slots : (e : ℕ) → is_empty (enclave_at s e).stage ≡ false → (enclave_at s e).measure ≡ measure_of (items_of h e)
