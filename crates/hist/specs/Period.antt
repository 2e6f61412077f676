-- Periods of ownership, read off a history. This project's own.
use Rattle.std.specs.Prelude.{◌≡◌, ℕ, ◌<◌, ⊤, Bool, true, false, ◌==◌, ◌&&◌, nat_lt, if◌then◌else◌, List, filter, find, fold, Option, Some, None, option_and_then}
use Rattle.std.specs.Option.{option_map}
use Rattle.std.specs.List.{AllByRecursion}
use Rattle.mon_types.specs.declared.region.Owner.{Owner}
use Rattle.mon_types.specs.declared.region.Owner.TheVariants as owners
use Rattle.mon_types.specs.declared.call.Call.{Call}
use Rattle.mon_types.specs.declared.call.Call.TheVariants as calls
use Rattle.mon_types.specs.Owns.{os_word}
use Rattle.mon_types.specs.Replies.{is_done}
use Rattle.mon_model.specs.OnRegion.{withdraws, frees, owner_made, initialized_by}
use Rattle.hist.specs.declared.event.Entry.{Entry}
use Rattle.hist.specs.declared.period.Period.{Period}

-- ---- the beginning

-- whether a slot is initialized after one more entry
abbrev pub initialized_after : ℕ → Bool → Entry → Bool
initialized_after slot before e = if is_done e.reply then initialized_by slot e.call before else before

-- whether these entries have an Ok init of the enclave slot with no Ok create of it behind
abbrev pub was_initialized : List Entry → ℕ → Bool
was_initialized es slot = fold (initialized_after slot) false es

-- whom an entry makes the owner of region r
abbrev pub owner_by : ℕ → (ℕ → Bool) → Entry → Option Owner
owner_by r initialized e = if is_done e.reply then owner_made r initialized e.call e.tried else None

-- the entry with this ticket, if there is one
abbrev pub entry_at : List Entry → ℕ → Option Entry
entry_at h ticket = find (λ e. e.ticket == ticket) h

-- the entries with lower tickets
abbrev pub entries_below : List Entry → ℕ → List Entry
entries_below h ticket = filter (λ e. nat_lt e.ticket ticket) h

-- the owner of the period (r, a), if there is one: that of region r at the start is the OS
abbrev pub owner_of_period : List Entry → ℕ → ℕ → Option Owner
owner_of_period h r a =
    if a == 0 then Some owners.Os else option_and_then (owner_by r (was_initialized (entries_below h a))) (entry_at h a)

-- ---- the end

-- an Ok block of r, or an Ok delete that has r among its tried objects
abbrev pub is_end : ℕ → Entry → Bool
is_end r e = is_done e.reply && withdraws r e.call e.tried

-- an Ok free of r
abbrev pub is_freeing : ℕ → Entry → Bool
is_freeing r e = is_done e.reply && frees r e.call

-- the first ticket above this one of an entry that passes the test
abbrev pub ticket_after : List Entry → ℕ → (Entry → Bool) → Option ℕ
ticket_after h ticket test = option_map (λ e. e.ticket) (find (λ e. nat_lt ticket e.ticket && test e) h)

-- the period (r, a) of a history, with b and z where they exist
abbrev pub period_with : List Entry → ℕ → ℕ → Owner → Period
period_with h r a owner =
    let b = ticket_after h a (is_end r) in
    let z = option_and_then (λ at. ticket_after h at (is_freeing r)) b in
    record { region = r; owner = owner; since = a; blocked = b; freed = z }

-- the period (r, a) of a history, if one began there
abbrev pub period_in : List Entry → ℕ → ℕ → Option Period
period_in h r a = option_map (period_with h r a) (owner_of_period h r a)

-- ---- what `period_of` asks of a history

-- an assign names the OS or a slot below 8
abbrev pub NamesOwner : Call → Type 0
NamesOwner (calls.Assign r to) = (to ≡ os_word → ⊥) → to < 8
NamesOwner _ = ⊤

-- each assign that answers Ok does so
abbrev pub NameOwners : List Entry → Type 0
NameOwners h = AllByRecursion (λ e. is_done e.reply ≡ true → NamesOwner e.call) h
