-- A core between two moves: what there is of it that no other core sees, and the small changes that the rest is made
-- of. This project's own.
use Rattle.std.specs.Prelude.{ℕ, Bool, false, List, [], ◌++◌, length, Option, None}
use Rattle.std.specs.List.{slice_index_or}
use Rattle.mon_types.specs.Enclaves.{empty_enclave}
use Rattle.mon_types.specs.declared.image.Image.{Image}
use Rattle.mon_types.specs.declared.image.Start.{Start}
use Rattle.mon_types.specs.declared.thread.Mode.{Mode}
use Rattle.hist.specs.declared.event.Event.{Event}
use Rattle.hist.specs.History.{entries_of}
use Rattle.hist.specs.SafeLog.{mode_after}
use Rattle.core_context.specs.declared.context.Context.{Context}
use Rattle.core_context.specs.declared.contexts.Contexts.{Contexts}
use Rattle.core_context.specs.Changes.{begun_contexts}
use Rattle.core_context.specs.Budgets.{is_spent_by}
use Rattle.tlb.specs.declared.entry.Entry.{Entry}
use Rattle.core_access.specs.declared.route.Space.{Space}
use Rattle.core_access.specs.Routes.{space_of}
use Rattle.protocol.specs.declared.action.Move.{Move}
use Rattle.protocol.specs.declared.action.Outcome.{Outcome}
use Rattle.protocol.specs.CallTree.{Issuer}
use Rattle.protocol.specs.Views.{logged, answered}
pub use Rattle.core_behaviour.specs.declared.exit.Exit.{Exit}

-- Its number; its pc and registers, and those of the OS, kept while it is inside an enclave; satp; the addresses and
-- the root of the enclave that it is inside; whether a line of the script made the last Ok enter; its translations, set
-- after set, the oldest first within a set; the exit that is pending, if one is; its log; and its answers, the words
-- that looks, loads and refused swaps gave it.
pub record Core : Type 0 where
  pub number : ℕ
  pub contexts : Contexts
  pub satp : ℕ
  pub space : Space
  pub by_line : Bool
  pub cache : List Entry
  pub pending : Option Exit
  pub log : List Event
  pub answers : List ℕ

-- where the core of a number starts; an image has a start for each core
abbrev pub start_at : List Start → ℕ → Start
start_at starts number = slice_index_or starts number (record { pc = 0; sp = 0 })

-- a core at its start: for the OS, with satp 0, which is Bare
abbrev pub core_start : Image → ℕ → Core
core_start image number = record {
  number = number;
  contexts = begun_contexts number (start_at image.starts number);
  satp = 0;
  space = space_of empty_enclave;
  by_line = false;
  cache = [];
  pending = None;
  log = [];
  answers = [];
}

-- for whom the core runs, by its entries
abbrev pub mode_now : Core → Mode
mode_now c = mode_after (entries_of c.log)

-- the core as it is before the first move of a call
abbrev pub issuer_now : Core → Issuer
issuer_now c = record {
  core = c.number;
  serial = length (entries_of c.log);
  mode = mode_now c;
  answers = length c.answers;
}

-- whether too little is left of a budget for one more line or turn
abbrev pub is_spent : Core → Bool
is_spent c = is_spent_by (length c.log) (length c.answers)

-- the core after a move or a stop: what it logs, and the words that it gave
abbrev pub made : Core → Move → Outcome → Core
made c move outcome = record c {
  log = c.log ++ logged c.number c.log move outcome;
  answers = c.answers ++ answered move outcome;
}

-- the core with another pc and other registers
abbrev pub with_current : Core → Context → Core
with_current c context = record c { contexts = record c.contexts { current = context } }
