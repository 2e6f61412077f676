-- The lines of a script: what a core does at each, the budget and the retry before it, and the whole script. This
-- project's own.
use Rattle.std.specs.Prelude.{ℕ, zero, suc, ◌+◌, Bool, true, false, List, [], ◌∷◌, Result, Ok, Err}
use Rattle.mon_types.specs.Shape.{Shape}
use Rattle.mon_types.specs.declared.image.Image.{Image}
use Rattle.mon_types.specs.declared.script.Line.{Line}
use Rattle.mon_types.specs.declared.script.Line.TheVariants as lines
use Rattle.hist.specs.declared.event.Why.TheVariants as whys
use Rattle.core_context.specs.declared.origin.Origin.TheVariants as origins
use Rattle.core_context.specs.Lines.{pc_by, reg_by}
use Rattle.sv39_pte.specs.declared.pte.Access.TheVariants as accesses
use Rattle.core_access.specs.Causes.{misaligned, is_aligned}
use Rattle.core_access.specs.Words.{place_in}
use Rattle.core_behaviour.specs.Course.{Course, Ends}
use Rattle.core_behaviour.specs.Core.{Core, core_start, mode_now, is_spent, with_current}
use Rattle.core_behaviour.specs.Called.{called}
use Rattle.core_behaviour.specs.Exits.{retried, ticks}
use Rattle.core_behaviour.specs.Traps.{stops, traps}
use Rattle.core_behaviour.specs.Accesses.{loads, accessed}
use Rattle.core_behaviour.specs.Turns.{set_register, stores, turned}

-- what follows a line, or a part of one: it has the core
abbrev pub Lined : Type 0
Lined = Core → Course

-- ---- budgets

-- a Limit at line n is logged and the script ends, where too little is left of a budget; this is before a pending exit
-- is tried
abbrev pub in_budget : Bool → ℕ → Lined → Core → Course
in_budget true n go c = stops n whys.Limit c (λ d. Ends)
in_budget false n go c = go c

-- the budget is looked at, before line n or a turn in it
abbrev pub budgeted : ℕ → Lined → Core → Course
budgeted n go c = in_budget (is_spent c) n go c

-- ---- the lines `load` and `store`: one access of 8 bytes in the present mode

-- the word is put in x10; a fault is a trap
abbrev pub word_loaded_on : Shape → ℕ → ℕ → Lined → Core → Result ℕ ℕ → Course
word_loaded_on shape n va next c (Ok page) = loads (place_in page va) c (λ d word. next (set_register d 10 word))
word_loaded_on shape n va next c (Err cause) = traps shape n cause va c (λ d ends. next d)

-- the line `load`: misaligned, or translated
abbrev pub word_loaded : Shape → ℕ → Bool → ℕ → Lined → Core → Course
word_loaded shape n true va next c = accessed shape va accesses.Load c (word_loaded_on shape n va next)
word_loaded shape n false va next c = traps shape n (misaligned accesses.Load) va c (λ d ends. next d)

-- the word is stored; a fault is a trap
abbrev pub word_stored_on : Shape → ℕ → ℕ → ℕ → Lined → Core → Result ℕ ℕ → Course
word_stored_on shape n va value next c (Ok page) = stores (place_in page va) value c next
word_stored_on shape n va value next c (Err cause) = traps shape n cause va c (λ d ends. next d)

-- the line `store`: misaligned, or translated
abbrev pub word_stored : Shape → ℕ → Bool → ℕ → ℕ → Lined → Core → Course
word_stored shape n true va value next c = accessed shape va accesses.Store c (word_stored_on shape n va value next)
word_stored shape n false va value next c = traps shape n (misaligned accesses.Store) va c (λ d ends. next d)

-- ---- the line `run`

-- what follows a turn: the next line, where this one ends with it, and else the turns that are left
abbrev pub turns_on : Lined → Lined → Core → Bool → Course
turns_on next more c true = next c
turns_on next more c false = more c

-- up to so many turns of line n, before each of which the budget is looked at
unfoldable pub turns : Shape → ℕ → ℕ → Lined → Core → Course
turns shape n zero next c = next c
turns shape n (suc count) next c =
    budgeted n (λ d. turned shape n d (turns_on next (λ e. turns shape n count next e))) c

-- ---- a script

-- line n, in the mode that stands now
abbrev pub lined : Shape → ℕ → Line → Lined → Core → Course
lined shape n (lines.Make call) next c = called shape origins.Line call c next
lined shape n (lines.Run count) next c = turns shape n count next c
lined shape n lines.Tick next c = ticks shape (mode_now c) c next
lined shape n (lines.LoadWord va) next c = word_loaded shape n (is_aligned va 8) va next c
lined shape n (lines.StoreWord va value) next c = word_stored shape n (is_aligned va 8) va value next c
lined shape n (lines.SetPc pc) next c = next (with_current c (pc_by (mode_now c) c.contexts.current pc))
lined shape n (lines.SetReg x value) next c = next (with_current c (reg_by (mode_now c) c.contexts.current x value))

-- These lines, the first of which has number n. Before each the budget is looked at, and then a pending exit is tried;
-- the line is carried out whatever that answers.
unfoldable pub lines_from : Shape → ℕ → List Line → Core → Course
lines_from shape n [] c = Ends
lines_from shape n (line ∷ rest) c =
    budgeted n (λ d. retried shape d.pending d (lined shape n line (λ e. lines_from shape (n + 1) rest e))) c

-- what the core of this number does on the machine of an image, by these lines
abbrev pub core_behaviour : Image → ℕ → List Line → Course
core_behaviour image number script = lines_from image.config 1 script (core_start image number)
