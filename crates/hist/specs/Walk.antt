-- How a walk over a history finds a period, one entry after the other.
use Rattle.std.specs.Prelude.{◌≡◌, ℕ, ◌<◌, Bool, false, ◌==◌, ◌&&◌, nat_lt, if◌then◌else◌, List, Option, Some, None}
use Rattle.std.specs.List.{slice_index_or}
use Rattle.std.specs.Option.{option_map}
use Rattle.mon_types.specs.declared.region.Owner.{Owner}
use Rattle.hist.specs.declared.event.Entry.{Entry}
use Rattle.hist.specs.declared.period.Period.{Period}
use Rattle.hist.specs.Period.{owner_by, is_end, is_freeing, initialized_after}

-- what a list of eight answers says of a slot
abbrev pub flag_of : List Bool → ℕ → Bool
flag_of flags slot = slice_index_or flags slot false

-- the answers after one more entry
abbrev pub FlagsGoOn : List Bool → List Bool → Entry → Type 0
FlagsGoOn before after e = (slot : ℕ) → slot < 8 → flag_of after slot ≡ initialized_after slot (flag_of before slot) e

-- the period with an owner, at its beginning
abbrev pub begun_period : ℕ → ℕ → Owner → Period
begun_period r a owner = record { region = r; owner = owner; since = a; blocked = None; freed = None }

-- the period after one more entry, by whether it is blocked and freed already
abbrev pub go_on : Period → Entry → Option ℕ → Option ℕ → Period
go_on p e None freed = if nat_lt p.since e.ticket && is_end p.region e then record p { blocked = Some e.ticket } else p
go_on p e (Some b) None = if nat_lt b e.ticket && is_freeing p.region e then record p { freed = Some e.ticket } else p
go_on p e (Some b) (Some z) = p

-- what is known of the period (r, a) after one more entry
abbrev pub known_after : ℕ → ℕ → (ℕ → Bool) → Option Period → Entry → Option Period
known_after r a initialized None e =
    if e.ticket == a then option_map (begun_period r a) (owner_by r initialized e) else None
known_after r a initialized (Some p) e = Some (go_on p e p.blocked p.freed)
