-- Laws of histories. This project's own.
use Rattle.std.specs.Prelude.{◌≡◌, ◌<◌, ◌≤◌, ℕ, false, List, length, map, take}
use Rattle.std.specs.List.{AllByRecursion}
use Rattle.mon_types.specs.Shape.{Shape}
use Rattle.mon_types.specs.Replies.{is_concurrent}
use Rattle.mon_model.specs.Measured.{IsMeasured}
use Rattle.hist.specs.declared.event.Event.{Event}
use Rattle.hist.specs.declared.event.Event.TheVariants as events
use Rattle.hist.specs.History.{entries_of, log_of, history, state_after, last_state}
use Rattle.hist.specs.Legal.{AreOwnLogs, Legal}
use Rattle.hist.specs.Merging.{CanMerge}
use Rattle.hist.specs.Printing.{ArePrintable}
use Rattle.hist.specs.Touched.{is_touched}
use Rattle.hist.specs.SafeLog.{ClearedSince}
use Rattle.hist.specs.Busy.{own, UnderWay, Busy}
use Rattle.hist.specs.Measured.{answer_of}

-- legal logs of a machine of at most 16 cores can be merged
abbrev pub LegalLogsMerge : Type 0
LegalLogsMerge = (shape : Shape) (logs : List (List Event)) → shape.cores ≤ 16 → Legal shape logs → CanMerge logs

-- and each entry of legal logs can be printed
abbrev pub LegalLogsPrint : Type 0
LegalLogsPrint = (shape : Shape) (logs : List (List Event)) → Legal shape logs → ArePrintable logs

-- a core's entries in the history of legal logs are those of its log
abbrev pub EachLogIsItsPart : Type 0
EachLogIsItsPart = (shape : Shape) (logs : List (List Event)) → Legal shape logs
    → (core : ℕ) → core < length logs → own core (history logs) ≡ entries_of (log_of logs core)

-- a period that is not touched is one of which each touch has a clearing entry behind it
abbrev pub UntouchedIsCleared : Type 0
UntouchedIsCleared = (r a : ℕ) (log : List Event) → is_touched r a log ≡ false → ClearedSince (events.Touch r a) log

-- and the other way round
abbrev pub ClearedIsUntouched : Type 0
ClearedIsUntouched = (r a : ℕ) (log : List Event) → ClearedSince (events.Touch r a) log → is_touched r a log ≡ false

-- on one core no call meets a held lock
abbrev pub NeverBusyAlone : Type 0
NeverBusyAlone = (shape : Shape) (logs : List (List Event)) → shape.cores ≡ 1 → length logs ≡ 1 → AreOwnLogs logs
    → (now : ℕ → UnderWay) → Busy shape logs now → AllByRecursion (λ e. is_concurrent e.reply ≡ false) (history logs)

-- In each state that a legal history goes through, each enclave slot that is not Empty has the
-- measurement of its items in the calls so far.
abbrev pub MeasuredByHistory : Type 0
MeasuredByHistory = (shape : Shape) (logs : List (List Event)) (k : ℕ) → Legal shape logs
    → IsMeasured (map answer_of (take k (history logs))) (state_after shape logs k)

-- the same of the last state and all calls
abbrev pub MeasuredAtLast : Type 0
MeasuredAtLast = (shape : Shape) (logs : List (List Event)) → Legal shape logs
    → IsMeasured (map answer_of (history logs)) (last_state shape logs)
