-- What holds of a core at every moment, and how much is left for its line. This project's own.
use Rattle.std.specs.Prelude.{◌≡◌, ℕ, ◌+◌, ◌-◌, ◌*◌, ◌<◌, ◌≤◌, ⊤, true, length, Option, Some, None}
use Rattle.mon_types.specs.Shape.{is_shape}
use Rattle.mon_types.specs.Modes.{own_slot, own_thread}
use Rattle.mon_types.specs.Budgets.{event_budget, answer_budget, line_events, line_answers}
use Rattle.mon_types.specs.declared.call.Call.{Call}
use Rattle.mon_types.specs.declared.reply.Reply.{Reply}
use Rattle.core_context.specs.declared.after.After.{After}
use Rattle.call_machine.specs.Meaning.{tree_of}
use Rattle.core_machine.specs.declared.own.Own.{Own}
use Rattle.core_machine.specs.declared.work.Purpose.{Purpose}
use Rattle.core_machine.specs.declared.work.Purpose.TheVariants as purposes
use Rattle.core_machine.specs.declared.work.Work.{Work}
use Rattle.core_machine.specs.declared.work.Work.TheVariants as works
use Rattle.core_machine.specs.declared.progress.Progress.{Progress}
use Rattle.core_machine.specs.Scripted.{AreScripted}
use Rattle.core_machine.specs.Remains.{IsEnding, IsOpen, most_loads}

-- a core of the machine, in a mode with a slot and a thread
pub record IsOwn (own : Own) : Type 0 where
  pub valid : is_shape own.config ≡ true
  pub core : own.number < own.config.cores
  pub slot : own_slot own.mode < 8
  pub thread : own_thread own.mode < 16
  pub calls : own.serial ≤ own.counts.events

-- a line was begun with enough of both budgets
pub record IsBegun (k : Progress) : Type 0 where
  pub there : k.at < length k.lines
  pub events : k.begun.events + line_events ≤ event_budget
  pub answers : k.begun.answers + line_answers ≤ answer_budget

-- at most so many events and answers since the begin of the line
pub record IsWithin (k : Progress) (logged given : ℕ) : Type 0 where
  pub events : k.own.counts.events ≤ k.begun.events + logged
  pub answers : k.own.counts.answers ≤ k.begun.answers + given

-- the calls that come before a call in its line, each of which logs one event
abbrev pub calls_before : Purpose → ℕ
calls_before purposes.Retry = 0
calls_before purposes.Line = 1

-- the answers that a line has from its calls, with this one: an aex loads nothing, and any call at most 515 words
abbrev pub answers_with : Purpose → ℕ
answers_with purposes.Retry = 0
answers_with purposes.Line = 515

-- there is room for a call in its line
pub record MayCall (k : Progress) (purpose : Purpose) (call : Call) : Type 0 where
  pub events : k.own.counts.events ≤ k.begun.events + calls_before purpose
  pub answers : k.own.counts.answers + most_loads call ≤ k.begun.answers + answers_with purpose

-- a call that has its ticket still to draw, and loads so many words at most before
pub record IsUndrawn (k : Progress) (purpose : Purpose) (number : ℕ) : Type 0 where
  pub loads : ℕ
  pub opens : IsOpen k.own.config k.own.mode k.call.work.call loads (tree_of k.call.work)
  pub mode : k.call.work.mode ≡ k.own.mode
  pub serial : number ≡ k.own.serial
  pub events : k.own.counts.events ≤ k.begun.events + calls_before purpose
  pub answers : k.own.counts.answers + loads ≤ k.begun.answers + answers_with purpose

-- a call that has drawn it
pub record IsDrawn (k : Progress) (purpose : Purpose) (number : ℕ) : Type 0 where
  pub ending : IsEnding (tree_of k.call.work)
  pub serial : number + 1 ≡ k.own.serial
  pub events : k.own.counts.events ≤ k.begun.events + calls_before purpose + 1
  pub answers : k.own.counts.answers ≤ k.begun.answers + answers_with purpose

-- the one or the other, by what the Draw fixes
unfoldable pub CallStands : Progress → Purpose → ℕ → Option (Reply × After) → Type 0
CallStands k purpose serial None = IsUndrawn k purpose serial
CallStands k purpose serial (Some end) = IsDrawn k purpose serial

-- the call is one of this core
pub record IsOfCore (k : Progress) : Type 0 where
  pub config : k.call.work.config ≡ k.own.config
  pub core : k.call.work.core ≡ k.own.number

-- by what the core is at
unfoldable pub work_stands : Progress → Work → Type 0
work_stands k works.Begins = (k.own.counts.events < event_budget) × (k.own.counts.answers ≤ answer_budget)
work_stands k works.Line = IsBegun k × IsWithin k 1 0
work_stands k (works.Calls origin purpose serial) =
    IsBegun k × IsOfCore k × CallStands k purpose serial k.call.work.ends
work_stands k works.Over = (k.own.counts.events ≤ event_budget) × (k.own.counts.answers ≤ answer_budget)

-- the script of a core
pub record IsScript (k : Progress) : Type 0 where
  pub scripted : AreScripted k.lines
  pub few : length k.lines ≤ 1048576
  pub at : k.at ≤ length k.lines

-- all of it
pub record IsSound (k : Progress) : Type 0 where
  pub own : IsOwn k.own
  pub script : IsScript k
  pub stands : work_stands k k.work

-- ---- private work

-- how much private work is left before a move at most, where so many lines are left, with the present one
abbrev pub weigh : ℕ → Work → ℕ
weigh n works.Begins = 5 * n + 1
weigh n works.Line = 5 * n - 1
weigh n (works.Calls origin purposes.Retry serial) = 5 * n
weigh n (works.Calls origin purposes.Line serial) = 5 * n - 2
weigh n works.Over = 0

-- of a core
abbrev pub weight : Progress → ℕ
weight k = weigh (length k.lines - k.at) k.work
