-- The first words of lines, and what follows them. All of it is this project's own.
use Rattle.std.specs.Prelude.{ℕ, ◌%◌, nat_le, nat_lt, Bool, false, ◌==◌, ◌&&◌, if◌then◌else◌, List, [], ◌∷◌, codes, slice_index, Option, Result, Ok, Err}
use Rattle.std.specs.List.{find}
use Rattle.std.specs.Str.{bytes_eq}
use Rattle.mon_types.specs.Calls.{call_name, call_of}
use Rattle.mon_types.specs.declared.script.Line.TheVariants as lines
use Rattle.script_read.specs.declared.form.Form.{Form}
use Rattle.script_read.specs.declared.form.Form.TheVariants as forms
use Rattle.script_read.specs.declared.fault.LineKind.{LineKind}
use Rattle.script_read.specs.declared.fault.LineKind.TheVariants as kinds
use Rattle.script_read.specs.declared.said.Said.{Said}
use Rattle.script_read.specs.declared.said.Said.TheVariants as says

-- the word that begins a line of the form
unfoldable pub form_name : Form → List ℕ
form_name (forms.Named number arity) = call_name (call_of number 0 0 0 0 0 0)
form_name forms.Ecall = codes "ecall"
form_name forms.Run = codes "run"
form_name forms.Tick = codes "tick"
form_name forms.LoadWord = codes "load"
form_name forms.StoreWord = codes "store"
form_name forms.SetPc = codes "pc"
form_name forms.SetReg = codes "reg"
form_name forms.Core = codes "core"

-- every form, each once; the calls by number, all but 15, with how many arguments each takes
abbrev pub all_forms : List Form
all_forms =
    forms.Named 1 1 ∷ forms.Named 2 1 ∷ forms.Named 3 2 ∷ forms.Named 4 0 ∷ forms.Named 5 1 ∷ forms.Named 6 3
    ∷ forms.Named 7 4 ∷ forms.Named 8 5
    ∷ forms.Named 9 4 ∷ forms.Named 10 1 ∷ forms.Named 11 2 ∷ forms.Named 12 1 ∷ forms.Named 13 2 ∷ forms.Named 14 0
    ∷ forms.Named 16 0 ∷ forms.Named 17 2
    ∷ forms.Named 18 6 ∷ forms.Named 19 1 ∷ forms.Named 20 1 ∷ forms.Named 21 1 ∷ forms.Named 22 1 ∷ forms.Named 23 4
    ∷ forms.Ecall ∷ forms.Run ∷ forms.Tick ∷ forms.LoadWord ∷ forms.StoreWord ∷ forms.SetPc ∷ forms.SetReg
    ∷ forms.Core ∷ []

-- the form of the lines that begin with this word
abbrev pub form_named : List ℕ → Option Form
form_named word = find (λ form. bytes_eq word (form_name form)) all_forms

-- how many arguments follow at least
abbrev pub least : Form → ℕ
least (forms.Named number arity) = arity
least forms.Ecall = 1
least forms.Run = 1
least forms.Tick = 0
least forms.LoadWord = 1
least forms.StoreWord = 2
least forms.SetPc = 1
least forms.SetReg = 2
least forms.Core = 1

-- how many arguments follow at most
abbrev pub most : Form → ℕ
most (forms.Named number arity) = arity
most forms.Ecall = 7
most forms.Run = 1
most forms.Tick = 0
most forms.LoadWord = 1
most forms.StoreWord = 2
most forms.SetPc = 1
most forms.SetReg = 2
most forms.Core = 1

-- whether `os` may stand for the argument at this place, counted from 0: the second of assign, the call 3
abbrev pub takes_os : Form → ℕ → Bool
takes_os (forms.Named number arity) place = number == 3 && place == 1
takes_os forms.Ecall place = false
takes_os forms.Run place = false
takes_os forms.Tick place = false
takes_os forms.LoadWord place = false
takes_os forms.StoreWord place = false
takes_os forms.SetPc place = false
takes_os forms.SetReg place = false
takes_os forms.Core place = false

-- the line that sets the pc, which is a multiple of 4
abbrev pub pc_said : ℕ → Result Said LineKind
pc_said pc = if pc % 4 == 0 then Ok (says.Line (lines.SetPc pc)) else Err kinds.BadNumber

-- the line that sets a register, one of x1 to x31
abbrev pub reg_said : ℕ → ℕ → Result Said LineKind
reg_said x value =
    if nat_le 1 x && nat_le x 31 then Ok (says.Line (lines.SetReg x value)) else Err kinds.BadNumber

-- the line that names a core, one below this count
abbrev pub core_said : ℕ → ℕ → Result Said LineKind
core_said count core = if nat_lt core count then Ok (says.Core core) else Err kinds.BadCore

-- what a line says with these seven arguments, of which it takes as many as it has a use for, where cores are below
-- this count; what is wrong where one of them may not stand there
abbrev pub form_said : ℕ → Form → List ℕ → Result Said LineKind
form_said count (forms.Named number arity) args =
    let arg = slice_index args in
    Ok (says.Line (lines.Make (call_of number (arg 0) (arg 1) (arg 2) (arg 3) (arg 4) (arg 5))))
form_said count forms.Ecall args =
    let arg = slice_index args in
    Ok (says.Line (lines.Make (call_of (arg 0) (arg 1) (arg 2) (arg 3) (arg 4) (arg 5) (arg 6))))
form_said count forms.Run args = Ok (says.Run (slice_index args 0))
form_said count forms.Tick args = Ok (says.Line lines.Tick)
form_said count forms.LoadWord args = Ok (says.Line (lines.LoadWord (slice_index args 0)))
form_said count forms.StoreWord args = Ok (says.Line (lines.StoreWord (slice_index args 0) (slice_index args 1)))
form_said count forms.SetPc args = pc_said (slice_index args 0)
form_said count forms.SetReg args = reg_said (slice_index args 0) (slice_index args 1)
form_said count forms.Core args = core_said count (slice_index args 0)
