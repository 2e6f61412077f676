-- A core as the machine keeps it: all but its log and its answers, of which it has the counts. This project's own.
use Rattle.std.specs.Prelude.{◌≡◌, ℕ, ◌+◌, ◌<◌, ⊤, true, ◌&&◌, if◌then◌else◌, List, [], length}
use Rattle.mon_types.specs.Replies.{is_done}
use Rattle.mon_types.specs.declared.thread.Mode.{Mode}
use Rattle.mon_types.specs.declared.call.Call.{Call}
use Rattle.mon_types.specs.declared.call.Call.TheVariants as calls
use Rattle.mon_types.specs.declared.reply.Reply.{Reply}
use Rattle.mon_model.specs.OnCore.{clears, mode_by}
use Rattle.hist.specs.declared.event.Event.{Event}
use Rattle.hist.specs.History.{entries_of}
use Rattle.hist.specs.SafeLog.{mode_after}
use Rattle.core_context.specs.declared.after.After.{After}
use Rattle.core_context.specs.declared.context.Context.{Context}
use Rattle.core_context.specs.declared.origin.Origin.{Origin}
use Rattle.core_context.specs.Origins.{contexts_by}
use Rattle.protocol.specs.declared.action.Action.{Action}
use Rattle.protocol.specs.declared.action.Action.TheVariants as actions
use Rattle.protocol.specs.declared.action.Outcome.{Outcome}
use Rattle.protocol.specs.Views.{answered_by}
use Rattle.core_behaviour.specs.Core.{Core}
use Rattle.core_behaviour.specs.Called.{satp_after, by_line_after, space_after, pending_after}
use Rattle.core_machine.specs.declared.own.Own.{Own}

-- the core, where its log and its answers are these
abbrev pub core_of : Own → List Event → List ℕ → Core
core_of own log answers = record {
  number = own.number;
  contexts = own.contexts;
  satp = own.satp;
  space = own.space;
  by_line = own.by_line;
  cache = own.cache;
  pending = own.pending;
  log = log;
  answers = answers;
}

-- what is counted is what stands in this log, and in these words that were given
pub record IsCounted (own : Own) (log : List Event) (words : List ℕ) : Type 0 where
  pub events : length log ≡ own.counts.events
  pub answers : length words ≡ own.counts.answers
  pub serial : length (entries_of log) ≡ own.serial
  pub mode : mode_after (entries_of log) ≡ own.mode

-- a call that enters names a slot and a thread
abbrev pub EntersSlot : Call → Type 0
EntersSlot (calls.Enter e t) = (e < 8) × (t < 16)
EntersSlot _ = ⊤

-- so does one whose entry is logged with Ok
abbrev pub DrawsInSlots : Action → Type 0
DrawsInSlots (actions.Draw draft) = is_done draft.reply ≡ true → EntersSlot draft.call
DrawsInSlots _ = ⊤

-- how many entries a move of a call logs: a Draw logs one
abbrev pub entries_by : Action → ℕ
entries_by (actions.TryLock o) = 0
entries_by (actions.Read o i) = 0
entries_by (actions.Write o i word) = 0
entries_by (actions.Draw draft) = 1
entries_by (actions.Unlock o) = 0
entries_by (actions.Load i) = 0
entries_by (actions.Store i word) = 0

-- for whom the core runs after it: Ok decides
abbrev pub mode_with : Action → Mode → Mode
mode_with (actions.TryLock o) mode = mode
mode_with (actions.Read o i) mode = mode
mode_with (actions.Write o i word) mode = mode
mode_with (actions.Draw draft) mode = if is_done draft.reply then mode_by draft.call mode else mode
mode_with (actions.Unlock o) mode = mode
mode_with (actions.Load i) mode = mode
mode_with (actions.Store i word) mode = mode

-- the core after a move of a call, with what it logs and is given
abbrev pub counted : Own → Action → Outcome → Own
counted own action outcome = record own {
  mode = mode_with action own.mode;
  serial = own.serial + entries_by action;
  counts = record {
    events = own.counts.events + entries_by action;
    answers = own.counts.answers + length (answered_by action outcome);
  };
}

-- a Limit is logged
abbrev pub limited : Own → Own
limited own = record own { counts = record own.counts { events = own.counts.events + 1 } }

-- another pc and other registers
abbrev pub with_current : Own → Context → Own
with_current own context = record own { contexts = record own.contexts { current = context } }

-- what Ok of a call leaves, but for the contexts: the call's own numbers, and no translations after those that clear
abbrev pub ok_by : Origin → Call → Own → Own
ok_by origin call own = record own {
  satp = satp_after call own.satp;
  by_line = by_line_after origin call own.by_line;
  cache = if clears call then [] else own.cache;
}

-- what it leaves by the enclave that was entered or left
abbrev pub changed_by : After → Own → Own
changed_by change own = record own {
  space = space_after change own.space;
  pending = pending_after change own.pending;
}

-- the core after a call that did this to it and had this reply
abbrev pub left_by : Origin → Call → After → Reply → Own → Own
left_by origin call change reply own =
    let ok = is_done reply in
    record own {
      contexts = contexts_by origin call change reply own.contexts;
      satp = if ok then satp_after call own.satp else own.satp;
      space = space_after change own.space;
      by_line = if ok then by_line_after origin call own.by_line else own.by_line;
      cache = if ok && clears call then [] else own.cache;
      pending = pending_after change own.pending;
    }
