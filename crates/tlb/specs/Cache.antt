-- The translation cache as one list of entries, the oldest first: what an access finds in it, and what a fill makes of
-- it. This project's own.
use Rattle.std.specs.Prelude.{ℕ, ◌%◌, ◌≤◌, Bool, ◌==◌, not, ◌&&◌, nat_lt, if◌then◌else◌, List, [], ◌∷◌, ◌++◌, length, filter, find, Option, Some, None}
use Rattle.std.specs.Option.{option_map}
use Rattle.sv39_pte.specs.declared.pte.Access.{Access}
use Rattle.sv39_pte.specs.declared.pte.Access.TheVariants as accesses
use Rattle.tlb.specs.declared.entry.Entry.{Entry}

-- how many entries a set has at most
abbrev pub set_room : ℕ
set_room = 4

-- the set of a virtual page, one of four
abbrev pub set_of : ℕ → ℕ
set_of vpn = vpn % 4

-- the entry of a virtual page: its page of DRAM, and what accesses may do there
abbrev pub entry_of : ℕ → ℕ → Bool → Bool → Bool → Entry
entry_of vpn page load store fetch =
    record { vpn = vpn; page = page; load = load; store = store; fetch = fetch }

-- ---- what is found

-- whether an entry lets an access happen
abbrev pub allows : Entry → Access → Bool
allows e accesses.Fetch = e.fetch
allows e accesses.Load = e.load
allows e accesses.Store = e.store

-- whether an entry serves an access to a virtual page: it is that page's and lets the access happen
abbrev pub serves : ℕ → Access → Entry → Bool
serves vpn access e = e.vpn == vpn && allows e access

-- the page of the entry that serves an access; None where none does, also where one is found that forbids the access
abbrev pub page_for : List Entry → ℕ → Access → Option ℕ
page_for es vpn access = option_map (λ e. e.page) (find (serves vpn access) es)

-- ---- one entry for each virtual page

-- the entries of a virtual page
abbrev pub of_page : ℕ → List Entry → List Entry
of_page vpn es = filter (λ e. e.vpn == vpn) es

-- no virtual page has two entries
abbrev pub HasOneEach : List Entry → Type 0
HasOneEach es = (vpn : ℕ) → length (of_page vpn es) ≤ 1

-- the page of an entry, where there is one and it lets the access happen
abbrev pub page_if_allowed : Access → Option Entry → Option ℕ
page_if_allowed access None = None
page_if_allowed access (Some e) = if allows e access then Some e.page else None

-- the page of the one entry of a virtual page, where that lets the access happen
abbrev pub page_of_one : List Entry → ℕ → Access → Option ℕ
page_of_one es vpn access = page_if_allowed access (find (λ e. e.vpn == vpn) es)

-- ---- what a fill makes of it

-- the entries of other virtual pages
abbrev pub of_others : ℕ → List Entry → List Entry
of_others vpn es = filter (λ e. not (e.vpn == vpn)) es

-- the entries of a set
abbrev pub in_set : ℕ → List Entry → List Entry
in_set set es = filter (λ e. set_of e.vpn == set) es

-- without the oldest entry of a set
abbrev pub without_oldest : ℕ → List Entry → List Entry
without_oldest set [] = []
without_oldest set (e ∷ es) = if set_of e.vpn == set then es else e ∷ without_oldest set es

-- with room for an entry in a set: without its oldest, if four are there
abbrev pub with_room : ℕ → List Entry → List Entry
with_room set es = if nat_lt (length (in_set set es)) set_room then es else without_oldest set es

-- after a fill: an entry of the same virtual page is dropped, then the oldest of the set if four are there, and the new
-- entry is appended
abbrev pub filled : List Entry → Entry → List Entry
filled es e = with_room (set_of e.vpn) (of_others e.vpn es) ++ e ∷ []
