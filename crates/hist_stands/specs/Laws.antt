-- The laws: what stands of the logs stands after each event, and what follows from it. This project's own.
use Rattle.std.specs.Prelude.{◌≡◌, ◌≢◌, ℕ, ◌+◌, ◌*◌, ◌<◌, ◌≤◌, true, false, List, [], ◌∷◌, ◌++◌, length, Contains, Some, IsTrue}
use Rattle.std.specs.List.{AllPairs}
use Rattle.mon_types.specs.Shape.{Shape}
use Rattle.mon_types.specs.declared.call.Call.{Call}
use Rattle.mon_types.specs.declared.object.ObjectId.{ObjectId}
use Rattle.mon_types.specs.declared.region.Owner.{Owner}
use Rattle.mon_types.specs.declared.region.Region.TheVariants as regions
use Rattle.mon_model.specs.State.{region_at, mode_of}
use Rattle.mon_model.specs.Tries.{tried_set}
use Rattle.hist.specs.declared.event.Entry.{Entry}
use Rattle.hist.specs.declared.event.Event.{Event}
use Rattle.hist.specs.declared.event.Event.TheVariants as events
use Rattle.hist.specs.declared.event.Why.{Why}
use Rattle.hist.specs.History.{entries_of, log_of, history}
use Rattle.hist.specs.Legal.{IsLegalEntry, Legal}
use Rattle.hist.specs.Period.{owner_of_period}
use Rattle.hist.specs.Touched.{is_touched}
use Rattle.hist.specs.SafeLog.{IsOpenTo, AreSafe, SafeLog}
use Rattle.hist.specs.Busy.{has_tried, UnderWay, Nothing, Taking, Refused, taken_by, idle, Busy}
use Rattle.hist_stands.specs.States.{state_now, state_at, IsHistory}
use Rattle.hist_stands.specs.Stamp.{AreStamped}
use Rattle.hist_stands.specs.Known.{Known}
use Rattle.hist_stands.specs.Life.{Life}
use Rattle.hist_stands.specs.Held.{IsHeld}
use Rattle.hist_stands.specs.Stands.{Stands, with_event, all_logs}
use Rattle.hist_stands.specs.Found.{Notes, with_call, Finds, Draws, IsPlanned}

-- ---- what stands, as the logs grow

-- where nothing is logged
abbrev pub StandsAtStart : Type 0
StandsAtStart = (shape : Shape) → Stands shape [] (λ core. [])

-- after an entry of a core of the machine, which is legal now, with the next ticket and the core's next serial
abbrev pub StandsAfterEntry : Type 0
StandsAfterEntry =
    (shape : Shape) (h : List Entry) (log : ℕ → List Event) → Stands shape h log
    → (e : Entry) → e.core < shape.cores → e.ticket ≡ length h + 1 → e.serial ≡ length (entries_of (log e.core))
    → IsLegalEntry (state_now shape h) e → Stands shape (h ++ e ∷ []) (with_event log e.core (events.Entry e))

-- after a touch of a period that is not touched yet, whose region is Owned now, since its beginning, by the OS or
-- the enclave that the core is inside
abbrev pub StandsAfterTouch : Type 0
StandsAfterTouch =
    (shape : Shape) (h : List Entry) (log : ℕ → List Event) → Stands shape h log
    → (core : ℕ) → core < shape.cores → (r a : ℕ) (owner : Owner)
    → region_at (state_now shape h) r ≡ regions.Owned owner a → IsOpenTo (mode_of (state_now shape h) core) owner
    → is_touched r a (log core) ≡ false → Stands shape h (with_event log core (events.Touch r a))

-- after a stop
abbrev pub StandsAfterStop : Type 0
StandsAfterStop =
    (shape : Shape) (h : List Entry) (log : ℕ → List Event) → Stands shape h log
    → (core : ℕ) → core < shape.cores → (line : ℕ) (why : Why)
    → Stands shape h (with_event log core (events.Stop line why))

-- and of logs that are the same for each core of the machine
abbrev pub StandsAlike : Type 0
StandsAlike =
    (shape : Shape) (h : List Entry) (log other : ℕ → List Event)
    → ((core : ℕ) → core < shape.cores → log core ≡ other core) → Stands shape h log → Stands shape h other

-- ---- what follows from it

-- the history of all logs is this list
abbrev pub StandsHistory : Type 0
StandsHistory = (shape : Shape) (h : List Entry) (log : ℕ → List Event) → Stands shape h log
    → history (all_logs shape log) ≡ h

-- and the logs are legal
abbrev pub StandsLegal : Type 0
StandsLegal = (shape : Shape) (h : List Entry) (log : ℕ → List Event) → Stands shape h log
    → Legal shape (all_logs shape log)

-- the other way round: logs that are legal stand, where each touch in them has a stamp
abbrev pub LegalLogsStand : Type 0
LegalLogsStand = (shape : Shape) (logs : List (List Event)) → Legal shape logs
    → ((core : ℕ) → core < shape.cores → AreStamped shape (history logs) core [] (log_of logs core))
    → Stands shape (history logs) (λ core. log_of logs core)

-- where no core has more entries than this, there are no more tickets than that for each core
abbrev pub StandsCounted : Type 0
StandsCounted =
    (shape : Shape) (h : List Entry) (log : ℕ → List Event) → Stands shape h log
    → (most : ℕ) → ((core : ℕ) → core < shape.cores → length (entries_of (log core)) ≤ most)
    → length h ≤ shape.cores * most

-- each touch of a core's log is safe
abbrev pub StandsSafe : Type 0
StandsSafe = (shape : Shape) (h : List Entry) (log : ℕ → List Event) → Stands shape h log
    → (core : ℕ) → core < shape.cores → AreSafe shape h [] (log core)

-- so all logs are
abbrev pub StandsSafeLog : Type 0
StandsSafeLog = (shape : Shape) (h : List Entry) (log : ℕ → List Event) → Stands shape h log
    → SafeLog shape (all_logs shape log)

-- a period that a core has touched since its last clearing entry is held now
abbrev pub StandsHeld : Type 0
StandsHeld = (shape : Shape) (h : List Entry) (log : ℕ → List Event) → Stands shape h log
    → (core : ℕ) → core < shape.cores → (r a : ℕ) → is_touched r a (log core) ≡ true
    → IsHeld h (state_now shape h) core r a

-- ---- histories and their states

-- the entries of a legal history tell of the state that they lead to
abbrev pub HistoryIsKnown : Type 0
HistoryIsKnown = (shape : Shape) (h : List Entry) → IsHistory shape h → Known shape h (state_now shape h)

-- where a period began, at one of the tickets so far, the region was Owned by its owner since then
abbrev pub PeriodsBegin : Type 0
PeriodsBegin =
    (shape : Shape) (h : List Entry) → IsHistory shape h → (r a : ℕ) (owner : Owner) → r < shape.regions
    → owner_of_period h r a ≡ Some owner
    → (a ≤ length h) × (region_at (state_at shape h a) r ≡ regions.Owned owner a)

-- and from then on it lasts, or was ended, or was freed
abbrev pub PeriodsGoOn : Type 0
PeriodsGoOn =
    (shape : Shape) (h : List Entry) → IsHistory shape h → (r a : ℕ) (owner : Owner) → r < shape.regions
    → owner_of_period h r a ≡ Some owner → Life shape h (state_now shape h) a r owner a

-- ---- refusals

-- nothing is noted where nothing is logged and no core has anything under way
abbrev pub NotesAtStart : Type 0
NotesAtStart = (shape : Shape) → Notes shape [] idle

-- the notes stay as a core takes one object more
abbrev pub NotesTaken : Type 0
NotesTaken =
    (shape : Shape) (h : List Entry) (now : ℕ → UnderWay) → Notes shape h now → (core : ℕ) (lock : ObjectId)
    → Notes shape h (with_call now core (Taking (taken_by (now core) ++ lock ∷ [])))

-- a core that finds a lock held has its note, and the others stay
abbrev pub NotesRefused : Type 0
NotesRefused =
    (shape : Shape) (h : List Entry) (log : ℕ → List Event) → Stands shape h log
    → (now : ℕ → UnderWay) → Notes shape h now → (core : ℕ) → core < shape.cores
    → (call : Call) (lock : ObjectId) (holder serial : ℕ) → Finds shape h now core lock holder serial
    → Notes shape h (with_call now core (Refused call (taken_by (now core)) lock holder serial))

-- as a core draws the next ticket, the note of its call becomes that of the entry, and the others stay
abbrev pub NotesDrawn : Type 0
NotesDrawn =
    (shape : Shape) (h : List Entry) (log : ℕ → List Event) → Stands shape h log
    → (now : ℕ → UnderWay) → Notes shape h now → (e : Entry) → Draws shape h now e
    → Notes shape (h ++ e ∷ []) (with_call now e.core Nothing)

-- and they are notes where each core has the same under way
abbrev pub NotesAlike : Type 0
NotesAlike =
    (shape : Shape) (h : List Entry) (now other : ℕ → UnderWay)
    → ((core : ℕ) → now core ≡ other core) → Notes shape h now → Notes shape h other

-- so at any time the logs are busy as they should be, with what each core has under way, where each call that has
-- found a held lock has tried what the monitor tries now, up to that lock
abbrev pub StandsBusy : Type 0
StandsBusy =
    (shape : Shape) (h : List Entry) (log : ℕ → List Event) → Stands shape h log
    → (now : ℕ → UnderWay) → Notes shape h now → ((core : ℕ) → core < shape.cores → IsPlanned shape h core (now core))
    → Busy shape (all_logs shape log) now

-- and where no core has anything under way, the notes alone give it
abbrev pub StandsBusyIdle : Type 0
StandsBusyIdle = (shape : Shape) (h : List Entry) (log : ℕ → List Event) → Stands shape h log
    → Notes shape h idle → Busy shape (all_logs shape log) idle

-- ---- sets of tried objects

-- of objects of which none stands twice, each is in their set
abbrev pub TriedAreInSet : Type 0
TriedAreInSet =
    (os : List ObjectId) → AllPairs (λ x y. x ≢ y) os → (o : ObjectId) → Contains os o
    → IsTrue (has_tried (tried_set os) o)

-- and no other is
abbrev pub SetHasNoOthers : Type 0
SetHasNoOthers =
    (os : List ObjectId) → AllPairs (λ x y. x ≢ y) os → (o : ObjectId) → IsTrue (has_tried (tried_set os) o)
    → Contains os o
