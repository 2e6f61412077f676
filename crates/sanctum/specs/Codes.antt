-- The exit status of each answer. This project's own.
use Rattle.std.specs.Prelude.{ℕ}
use Rattle.sanctum.specs.declared.status.Status.{Status}
use Rattle.sanctum.specs.declared.status.Status.TheVariants as answers

-- the exit status
abbrev pub status_code : Status → ℕ
status_code answers.Ok = 0
status_code answers.Usage = 2
status_code (answers.ImageRefused fault) = 3
status_code (answers.ScriptRefused fault) = 4
status_code answers.ReadFault = 5
status_code answers.WriteFault = 6
status_code answers.OutOfMemory = 7
status_code (answers.AsmRefused fault) = 9
status_code (answers.TraceRefused fault) = 11
