-- A merge that has taken up some of its logs.
use Rattle.std.proofs.Common.{◌≡◌, ℕ, zero, suc, ◌+◌, ◌<◌, ◌≤◌, List, [], ◌∷◌, ◌++◌, length, get_or, take, map, refl, sym, ap, subst, ◌∙◌, arith, add-one}
use Rattle.std.proofs.Math.ListN.{set}
use Rattle.std.proofs.lemmas.List.{take_all}
use Rattle.std.specs.List.{flat_map, AllByRecursion}
use Rattle.std.specs.Borrow.{Bor}
use Rattle.hist.specs.declared.event.Entry.{Entry}
use Rattle.hist.specs.declared.event.Event.{Event}
use Rattle.hist.specs.Logged.{Logged, events_of}
use Rattle.hist.specs.History.{entries_of, in_ticket_order, history}
use Rattle.hist.specs.Merging.{Ascend, ShareNoTicket, AreApart, AreStillLeft, entries_left, left_by_ticket, BeginsWithEntry}

-- what is left of the logs, in their order, and nothing behind them
abbrev pub Holds : List (Bor (List Event)) → List Logged → Type 0
Holds [] [] = Unit {0}
Holds [] (log ∷ logs) = ⊥
Holds (rest ∷ rests) [] = (entries_of rest.now ≡ []) × BeginsWithEntry rest.now × Holds rests []
Holds (rest ∷ rests) (log ∷ logs) = (entries_of rest.now ≡ entries_of log.events) × BeginsWithEntry rest.now × Holds rests logs

-- one more log
holds_next : (rests : List (Bor (List Event))) (logs : List Logged) (i : ℕ) (rest : Bor (List Event)) (d : Logged) → i < length rests → i < length logs
    → (entries_of rest.now ≡ entries_of (get_or logs i d).events) × BeginsWithEntry rest.now → Holds rests (take i logs) → Holds (set rests i rest) (take (suc i) logs)
holds_next [] logs i rest d lt among new holds = absurd (omega arith)
holds_next (r ∷ rests) [] i rest d lt among new holds = absurd (omega arith)
holds_next (r ∷ rests) (log ∷ logs) zero rest d lt among new holds = (new.0, new.1, holds.2)
holds_next (r ∷ rests) (log ∷ logs) (suc i) rest d lt among new holds = (holds.0, holds.1, holds_next rests logs i rest d (omega arith) (omega arith) new holds.2)

pub holds_more : (rests : List (Bor (List Event))) (logs : List Logged) (i : ℕ) (rest : Bor (List Event)) (d : Logged) → i < length rests → i < length logs
    → (entries_of rest.now ≡ entries_of (get_or logs i d).events) × BeginsWithEntry rest.now → Holds rests (take i logs) → Holds (set rests i rest) (take (i + 1) logs)
holds_more rests logs i rest d lt among new holds = rw add-one (holds_next rests logs i rest d lt among new holds)

-- ---- all logs

pub holds_all : (rests : List (Bor (List Event))) (logs : List Logged) (i : ℕ) → length logs ≤ i → Holds rests (take i logs) → Holds rests logs
holds_all rests logs i over holds = subst (Holds rests) (take_all i logs over) holds

abbrev run_of : Logged → List Entry
run_of log = entries_of log.events

none_held : (rests : List (Bor (List Event))) → Holds rests [] → flat_map entries_left rests ≡ []
none_held [] holds = refl
none_held (rest ∷ rests) holds = ap (λ (es : List Entry). es ++ flat_map entries_left rests) holds.0 ∙ none_held rests holds.2

all_held : (rests : List (Bor (List Event))) (logs : List Logged) → Holds rests logs → flat_map entries_left rests ≡ flat_map run_of logs
all_held rests [] holds = none_held rests holds
all_held [] (log ∷ logs) holds = absurd holds
all_held (rest ∷ rests) (log ∷ logs) holds = ap (λ (es : List Entry). es ++ flat_map entries_left rests) holds.0 ∙ ap (λ (es : List Entry). run_of log ++ es) (all_held rests logs holds.2)

runs_joined : (logs : List Logged) → flat_map entries_of (events_of logs) ≡ flat_map run_of logs
runs_joined [] = refl
runs_joined (log ∷ logs) = ap (λ (es : List Entry). run_of log ++ es) (runs_joined logs)

runs_of : (logs : List Logged) → map entries_of (events_of logs) ≡ map run_of logs
runs_of [] = refl
runs_of (log ∷ logs) = ap (λ (lists : List (List Entry)). run_of log ∷ lists) (runs_of logs)

pub history_left : (rests : List (Bor (List Event))) (logs : List Logged) → Holds rests logs → left_by_ticket rests ≡ history (events_of logs)
history_left rests logs holds = ap in_ticket_order (all_held rests logs holds ∙ sym (runs_joined logs))

-- no ticket stands in a list without entries
shares_none : (es : List Entry) → ShareNoTicket es []
shares_none [] = tt
shares_none (e ∷ es) = (tt, shares_none es)

share_empty : (es : List Entry) (rests : List (Bor (List Event))) → Holds rests [] → AllByRecursion (ShareNoTicket es) (map entries_left rests)
share_empty es [] holds = tt
share_empty es (rest ∷ rests) holds = (subst (ShareNoTicket es) (sym holds.0) (shares_none es), share_empty es rests holds.2)

share_held : (es : List Entry) (rests : List (Bor (List Event))) (logs : List Logged) → Holds rests logs → AllByRecursion (ShareNoTicket es) (map run_of logs) → AllByRecursion (ShareNoTicket es) (map entries_left rests)
share_held es rests [] holds share = share_empty es rests holds
share_held es [] (log ∷ logs) holds share = tt
share_held es (rest ∷ rests) (log ∷ logs) holds share = (subst (ShareNoTicket es) (sym holds.0) share.0, share_held es rests logs holds.2 share.1)

apart_empty : (rests : List (Bor (List Event))) → Holds rests [] → AreApart (map entries_left rests)
apart_empty [] holds = tt
apart_empty (rest ∷ rests) holds =
    subst (λ (es : List Entry). Ascend es × AllByRecursion (ShareNoTicket es) (map entries_left rests) × AreApart (map entries_left rests)) (sym holds.0) (tt, share_empty [] rests holds.2, apart_empty rests holds.2)

apart_held : (rests : List (Bor (List Event))) (logs : List Logged) → Holds rests logs → AreApart (map run_of logs) → AreApart (map entries_left rests)
apart_held rests [] holds apart = apart_empty rests holds
apart_held [] (log ∷ logs) holds apart = tt
apart_held (rest ∷ rests) (log ∷ logs) holds apart =
    subst (λ (es : List Entry). Ascend es × AllByRecursion (ShareNoTicket es) (map entries_left rests) × AreApart (map entries_left rests)) (sym holds.0)
    (apart.0, share_held (run_of log) rests logs holds.2 apart.1, apart_held rests logs holds.2 apart.2)

begin_held : (rests : List (Bor (List Event))) (logs : List Logged) → Holds rests logs → AllByRecursion (λ rest. BeginsWithEntry rest.now) rests
begin_held [] logs holds = tt
begin_held (rest ∷ rests) [] holds = (holds.1, begin_held rests [] holds.2)
begin_held (rest ∷ rests) (log ∷ logs) holds = (holds.1, begin_held rests logs holds.2)

pub are_left : (rests : List (Bor (List Event))) (logs : List Logged) → Holds rests logs → AreApart (map entries_of (events_of logs)) → AreStillLeft rests
are_left rests logs holds apart = record { apart = apart_held rests logs holds (subst AreApart (runs_of logs) apart); begin = begin_held rests logs holds }
