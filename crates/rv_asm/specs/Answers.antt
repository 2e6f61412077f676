-- What the assembler answers, beside what reading gives. All of it is this project's own.
use Rattle.std.specs.Prelude.{◌≡◌, ℕ, List, Result, Ok, Err, ⊤}
use Rattle.rv_asm.specs.declared.fault.AsmFault.{AsmFault}
use Rattle.rv_asm.specs.declared.fault.AsmError.{AsmError}
use Rattle.rv_asm.specs.declared.fault.AsmError.TheVariants as errors
use Rattle.rv_asm.specs.declared.statement.Statement.{Statement}

-- the answer is these words, unless memory ran out
abbrev pub Gives : Result (List ℕ) AsmError → List ℕ → Type 0
Gives (Ok words) made = words ≡ made
Gives (Err errors.Memory) made = ⊤
Gives (Err (errors.Fault fault)) made = ⊥

-- a fault that is answered is the one that reading gives
abbrev pub Faults : {X : Type 0} → Result X AsmError → Result (List Statement) AsmFault → Type 0
Faults (Ok words) read = ⊤
Faults (Err errors.Memory) read = ⊤
Faults (Err (errors.Fault fault)) read = read ≡ Err fault
