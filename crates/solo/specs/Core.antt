-- The machine of one core between two lines of its script, or two turns: what there is of it, and the small changes
-- that the rest is made of. It has no moves and no locks. This project's own.
use Rattle.std.specs.Prelude.{ℕ, ⊤, Bool, true, false, ◌&&◌, List, [], ◌∷◌, ◌++◌}
use Rattle.mon_types.specs.declared.image.Image.{Image}
use Rattle.mon_types.specs.declared.thread.Mode.{Mode}
use Rattle.mon_types.specs.declared.thread.Mode.TheVariants as modes
use Rattle.mon_model.specs.State.{State, start, mode_of}
use Rattle.hist.specs.declared.event.Event.{Event}
use Rattle.core_context.specs.declared.context.Context.{Context}
use Rattle.core_context.specs.declared.contexts.Contexts.{Contexts}
use Rattle.core_context.specs.Registers.{with_register}
use Rattle.core_context.specs.Changes.{begun_contexts}
use Rattle.core_context.specs.GuestCalls.{advanced}
use Rattle.image_memory.specs.StartMemory.{start_memory}
use Rattle.solo.specs.declared.guest.Guest.{Guest}
use Rattle.solo.specs.Given.{first_start}

-- The monitor's state; how many calls the core made, which are all there are; its pc and registers, and those of the
-- OS, kept while it is inside an enclave; what only accesses and guest code use; the words of DRAM; the words that it
-- was given by looks and loads; and its log.
pub record Core : Type 0 where
  pub state : State
  pub made : ℕ
  pub contexts : Contexts
  pub guest : Guest
  pub words : List ℕ
  pub answers : List ℕ
  pub log : List Event

-- at the start satp is 0 (Bare), no script line entered an enclave, and there are no translations and no touches
abbrev pub guest_start : Guest
guest_start = record { satp = 0; by_line = false; cache = []; touches = [] }

-- the machine of an image at its start: its first core, with DRAM as the image says
abbrev pub core_start : Image → Core
core_start image = record {
  state = start image.config;
  made = 0;
  contexts = begun_contexts 0 (first_start image.starts);
  guest = guest_start;
  words = start_memory image.config image.segments;
  answers = [];
  log = [];
}

-- for whom the core runs
abbrev pub mode_now : Core → Mode
mode_now c = mode_of c.state 0

-- a choice of which only the chosen part is computed
abbrev pub chosen : {A : Type 0} → Bool → (⊤ → A) → (⊤ → A) → A
chosen true first second = first tt
chosen false first second = second tt

-- ---- small changes

-- one more event
abbrev pub logged : Core → Event → Core
logged c event = record c { log = c.log ++ event ∷ [] }

-- one more word that a look or a load gave
abbrev pub given : Core → ℕ → Core
given c word = record c { answers = c.answers ++ word ∷ [] }

-- another pc and other registers
abbrev pub with_current : Core → Context → Core
with_current c context = record c { contexts = record c.contexts { current = context } }

-- one register set, but x0
abbrev pub set_register : Core → ℕ → ℕ → Core
set_register c x value = with_current c (with_register c.contexts.current x value)

-- another pc
abbrev pub go_to : Core → ℕ → Core
go_to c pc = with_current c (record c.contexts.current { pc = pc })

-- at the next instruction
abbrev pub at_next : Core → Core
at_next c = with_current c (advanced c.contexts.current)

-- no translations
abbrev pub without_translations : Guest → Guest
without_translations g = record g { cache = [] }

-- no translations and no touches
abbrev pub cleared : Guest → Guest
cleared g = record g { cache = []; touches = [] }

-- ---- leaving an enclave

-- whether this is the mode of the OS
abbrev pub is_os : Mode → Bool
is_os modes.Os = true
is_os (modes.Inside e t) = false

-- whether this is the mode of an enclave
abbrev pub is_inside : Mode → Bool
is_inside modes.Os = false
is_inside (modes.Inside e t) = true

-- whether a core that was the first comes back, as the second, to the OS from an enclave that a script line entered
abbrev pub came_back : Core → Core → Bool
came_back before after = is_inside (mode_now before) && is_os (mode_now after) && before.guest.by_line
