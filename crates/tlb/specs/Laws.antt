-- Laws of the translation cache. This project's own.
use Rattle.std.specs.Prelude.{◌≡◌, ℕ, List, [], ◌∷◌}
use Rattle.sv39_pte.specs.declared.pte.Access.{Access}
use Rattle.tlb.specs.declared.entry.Entry.{Entry}
use Rattle.tlb.specs.Cache.{page_for, page_of_one, HasOneEach, filled}
use Rattle.tlb.specs.Sets.{by_set, FitsInSets}

-- an access finds in a list what it finds set after set
abbrev pub LooksBySet : Type 0
LooksBySet = (es : List Entry) (vpn : ℕ) (access : Access) → page_for (by_set es) vpn access ≡ page_for es vpn access

-- a list that was put set after set before a fill has after it, set after set, what it has without that
abbrev pub FillsBySet : Type 0
FillsBySet = (es : List Entry) (e : Entry) → by_set (filled (by_set es) e) ≡ by_set (filled es e)

-- a list after fills, one after the other
abbrev pub filled_in_turn : List Entry → List Entry → List Entry
filled_in_turn es [] = es
filled_in_turn es (e ∷ later) = filled_in_turn (filled es e) later

-- the same where the list is put set after set at each fill, as a cache's is
abbrev pub filled_by_set : List Entry → List Entry → List Entry
filled_by_set es [] = es
filled_by_set es (e ∷ later) = filled_by_set (by_set (filled es e)) later

-- from an empty cache on, fills leave set after set what they leave in a list
abbrev pub RunsBySet : Type 0
RunsBySet = (fills : List Entry) → filled_by_set [] fills ≡ by_set (filled_in_turn [] fills)

-- a fill leaves no set with more than four entries
abbrev pub FillsFitInSets : Type 0
FillsFitInSets = (es : List Entry) (e : Entry) → FitsInSets es → FitsInSets (filled es e)

-- a fill leaves no virtual page with two entries
abbrev pub FillsKeepOneEach : Type 0
FillsKeepOneEach = (es : List Entry) (e : Entry) → HasOneEach es → HasOneEach (filled es e)

-- from an empty cache on, fills leave no virtual page with two entries
abbrev pub RunsHaveOneEach : Type 0
RunsHaveOneEach = (fills : List Entry) → HasOneEach (filled_in_turn [] fills)

-- where no virtual page has two entries, the first entry that serves an access is the one entry of its virtual page
abbrev pub LooksAtOne : Type 0
LooksAtOne = (es : List Entry) (vpn : ℕ) (access : Access) → HasOneEach es
    → page_for es vpn access ≡ page_of_one es vpn access
