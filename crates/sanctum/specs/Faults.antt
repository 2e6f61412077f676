-- The line that the program prints for an answer other than Ok. This project's own.
use Rattle.std.specs.Prelude.{ℕ, List, [], ◌++◌, codes}
use Rattle.std.specs.Fmt.{decimal}
use Rattle.script_read.specs.declared.fault.LineKind.{LineKind}
use Rattle.script_read.specs.declared.fault.LineKind.TheVariants as kinds
use Rattle.script_read.specs.declared.fault.ScriptFault.{ScriptFault}
use Rattle.script_read.specs.declared.fault.ScriptFault.TheVariants as faults
use Rattle.rv_asm.specs.declared.fault.AsmKind.{AsmKind}
use Rattle.rv_asm.specs.declared.fault.AsmKind.TheVariants as asm_kinds
use Rattle.rv_asm.specs.declared.fault.AsmFault.{AsmFault}
use Rattle.image_read.specs.declared.fault.ImageFault.{ImageFault}
use Rattle.image_read.specs.declared.fault.ImageFault.TheVariants as image_faults
use Rattle.llc.specs.declared.fault.TraceFault.{TraceFault}
use Rattle.llc.specs.declared.fault.TraceFault.TheVariants as trace_faults
use Rattle.sanctum.specs.declared.status.Status.{Status}
use Rattle.sanctum.specs.declared.status.Status.TheVariants as answers

-- ---- images

-- a line that ends with a number
unfoldable pub numbered_line : List ℕ → ℕ → List ℕ
numbered_line front number = front ++ decimal number ++ codes "\n"

-- the line of a fault of an image, with its place or the number of its segment
unfoldable pub image_fault_line : ImageFault → List ℕ
image_fault_line image_faults.BadMagic = codes "refused: image bad magic\n"
image_fault_line image_faults.BadVersion = codes "refused: image bad version\n"
image_fault_line (image_faults.BadField at) = numbered_line (codes "refused: image bad field at ") at
image_fault_line (image_faults.Short at) = numbered_line (codes "refused: image short at ") at
image_fault_line (image_faults.OutOfRange segment) =
    numbered_line (codes "refused: image out of range segment ") segment
image_fault_line (image_faults.Overlap segment) = numbered_line (codes "refused: image overlap segment ") segment
image_fault_line (image_faults.BadDigest at) = numbered_line (codes "refused: image bad digest at ") at
image_fault_line (image_faults.Trailing at) = numbered_line (codes "refused: image trailing at ") at
image_fault_line image_faults.TooLong = codes "refused: image too long\n"

-- ---- scripts

-- what is wrong with a line of a script, as its fault line ends
unfoldable pub kind_text : LineKind → List ℕ
kind_text kinds.UnknownWord = codes " unknown word\n"
kind_text kinds.MissingWord = codes " missing word\n"
kind_text kinds.ExtraWord = codes " extra word\n"
kind_text kinds.BadNumber = codes " bad number\n"
kind_text kinds.BadCore = codes " bad core\n"

-- the line of the script, counted from 1, and what is wrong with it
unfoldable pub script_line_text : ℕ → List ℕ → List ℕ
script_line_text line kind = codes "refused: script line " ++ decimal line ++ kind

-- that its turns are too many
unfoldable pub turns_over_text : List ℕ
turns_over_text = codes " turns over\n"

-- that lines of its form are not carried out yet
unfoldable pub not_built_text : List ℕ
not_built_text = codes " not built\n"

-- the line of a fault of a script
unfoldable pub script_fault_line : ScriptFault → List ℕ
script_fault_line faults.TooLong = codes "refused: script too long\n"
script_fault_line (faults.BadLine line kind) = script_line_text line (kind_text kind)
script_fault_line (faults.TurnsOver line) = script_line_text line turns_over_text
script_fault_line (faults.NotBuilt line) = script_line_text line not_built_text

-- ---- assembler texts

-- what is wrong with a line of an assembler text, as its fault line ends
unfoldable pub asm_kind_text : AsmKind → List ℕ
asm_kind_text asm_kinds.UnknownWord = codes " unknown word\n"
asm_kind_text asm_kinds.BadOperand = codes " bad operand\n"
asm_kind_text asm_kinds.OutOfRange = codes " out of range\n"
asm_kind_text asm_kinds.UnknownLabel = codes " unknown label\n"
asm_kind_text asm_kinds.DoubleLabel = codes " double label\n"
asm_kind_text asm_kinds.TooLong = codes " too long\n"

-- the line of the assembler text, counted from 1, and what is wrong with it
unfoldable pub asm_line_text : ℕ → List ℕ → List ℕ
asm_line_text line kind = codes "refused: asm line " ++ decimal line ++ kind

-- the line of a fault of an assembler text
abbrev pub asm_fault_line : AsmFault → List ℕ
asm_fault_line fault = asm_line_text fault.line (asm_kind_text fault.kind)

-- ---- traces

-- the line of a fault of a trace
unfoldable pub trace_fault_line : TraceFault → List ℕ
trace_fault_line trace_faults.TooLong = codes "refused: trace too long\n"
trace_fault_line (trace_faults.BadLine line) = numbered_line (codes "refused: trace line ") line

-- ---- all answers

-- the line that an answer prints; there is none for Ok and for a write fault
unfoldable pub fault_line : Status → List ℕ
fault_line answers.Ok = []
fault_line answers.Usage = codes "refused: usage\n"
fault_line (answers.ImageRefused fault) = image_fault_line fault
fault_line (answers.ScriptRefused fault) = script_fault_line fault
fault_line answers.ReadFault = codes "refused: read fault\n"
fault_line answers.WriteFault = []
fault_line answers.OutOfMemory = codes "refused: out of memory\n"
fault_line (answers.AsmRefused fault) = asm_fault_line fault
fault_line (answers.TraceRefused fault) = trace_fault_line fault
