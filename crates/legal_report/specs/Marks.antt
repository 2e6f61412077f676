-- What is kept of the periods of one region: by ticket, where they began, ended and were freed. This project's own.
use Rattle.std.specs.Prelude.{◌≡◌, ℕ, ◌+◌, ◌<◌, ◌≤◌, ◌==◌, ⊤, nat_lt, Bool, true, false, List, [], ◌∷◌, ◌++◌, length, map, find, slice_index_or, Option, Some, None, option_and_then}
use Rattle.std.specs.Option.{option_map}
use Rattle.std.specs.List.{AllByRecursion}
use Rattle.mon_types.specs.Shape.{Shape}
use Rattle.mon_types.specs.Replies.{is_done}
use Rattle.mon_types.specs.declared.region.Owner.{Owner}
use Rattle.hist.specs.declared.event.Entry.{Entry}
use Rattle.hist.specs.declared.period.Period.{Period}
use Rattle.hist.specs.Period.{owner_by, owner_of_period, is_end, is_freeing, ticket_after}
use Rattle.legal_report.specs.declared.marks.Begin.{Begin}
use Rattle.legal_report.specs.declared.marks.Marks.{Marks}

-- the numbers ascend, from this one on
abbrev pub Rise : ℕ → List ℕ → Type 0
Rise n [] = ⊤
Rise n (x ∷ xs) = (n ≤ x) × Rise (x + 1) xs

-- they ascend and end before this one
pub record RiseBelow (n : ℕ) (xs : List ℕ) : Type 0 where
  pub rise : Rise 0 xs
  pub below : AllByRecursion (λ x. x < n) xs

-- the first that is above a number, if there is one
abbrev pub first_above : List ℕ → ℕ → Option ℕ
first_above xs n = find (λ x. nat_lt n x) xs

-- the tickets at which periods began
abbrev pub begun_at : List Begin → List ℕ
begun_at begins = map (λ b. b.since) begins

-- the owner of the period that began at a ticket, if one did
abbrev pub owner_since : List Begin → ℕ → Option Owner
owner_since begins since = option_map (λ b. b.owner) (find (λ b. b.since == since) begins)

-- what is kept of region r are the periods of a history whose tickets are below n
pub record MarksTell (h : List Entry) (n r : ℕ) (m : Marks) : Type 0 where
  pub owner : (a : ℕ) → owner_of_period h r a ≡ owner_since m.begins a
  pub ended : (a : ℕ) → ticket_after h a (is_end r) ≡ first_above m.ends a
  pub freed : (a : ℕ) → ticket_after h a (is_freeing r) ≡ first_above m.frees a
  pub begins_rise : RiseBelow n (begun_at m.begins)
  pub ends_rise : RiseBelow n m.ends
  pub frees_rise : RiseBelow n m.frees

-- ---- one more entry

-- a ticket, where this holds
abbrev pub ticket_where : Bool → ℕ → List ℕ
ticket_where true ticket = ticket ∷ []
ticket_where false ticket = []

-- a beginning, where there is an owner
abbrev pub begin_with : Option Owner → ℕ → List Begin
begin_with None ticket = []
begin_with (Some owner) ticket = record { since = ticket; owner = owner } ∷ []

-- what is kept of region r, before and after an entry with this ticket is noted
pub record IsNoted (r : ℕ) (initialized : ℕ → Bool) (ticket : ℕ) (e : Entry) (before after : Marks) : Type 0 where
  pub begins : after.begins ≡ before.begins ++ begin_with (owner_by r initialized e) ticket
  pub ends : after.ends ≡ before.ends ++ ticket_where (is_end r e) ticket
  pub frees : after.frees ≡ before.frees ++ ticket_where (is_freeing r e) ticket

-- the same of each region
pub record AreNoted (initialized : ℕ → Bool) (ticket : ℕ) (e : Entry) (before after : List Marks) : Type 0 where
  pub count : length after ≡ length before
  pub each : (r : ℕ) (d : Marks) → r < length before
      → IsNoted r initialized ticket e (slice_index_or before r d) (slice_index_or after r d)

-- what is kept of each region are the periods of a history whose tickets are below n
pub record PeriodsTell (h : List Entry) (n regions : ℕ) (marks : List Marks) : Type 0 where
  pub count : length marks ≡ regions
  pub each : (r : ℕ) (d : Marks) → r < regions → MarksTell h n r (slice_index_or marks r d)

-- ---- a period

-- the period that began at a ticket with this owner
abbrev pub period_by : Marks → ℕ → ℕ → Owner → Period
period_by m r since owner =
    let blocked = first_above m.ends since in
    let freed = option_and_then (first_above m.frees) blocked in
    record { region = r; owner = owner; since = since; blocked = blocked; freed = freed }
