-- Why a command is refused. This project's own.
use Rattle.std.specs.Prelude.{◌≡◌, ◌⊎◌, ℕ, List, Some, None, IfSome, IsSome, All, Any, Result, Ok, Err, ⊤}
use Rattle.mon_types.specs.declared.image.Image.{Image}
use Rattle.mon_types.specs.declared.script.Line.{Line}
use Rattle.sm_ports.specs.Causes.{Rose}
use Rattle.image_read.specs.declared.fault.ImageFault.{ImageFault}
use Rattle.script_read.specs.declared.fault.ScriptFault.{ScriptFault}
use Rattle.rv_asm.specs.Grammar.{IsText}
use Rattle.rv_asm.specs.declared.fault.AsmFault.{AsmFault}
use Rattle.llc.specs.Grammar.{IsTrace}
use Rattle.llc.specs.declared.fault.TraceFault.{TraceFault}
use Rattle.llc.specs.declared.trace.Trace.{Trace}
use Rattle.sanctum.specs.declared.output.Output.{Output}
use Rattle.sanctum.specs.declared.status.Status.{Status}
use Rattle.sanctum.specs.declared.status.Status.TheVariants as answers
use Rattle.sanctum.specs.Commands.{Command, Run, Solo, Convert, Pack, Llc, files_of}
use Rattle.sanctum.specs.Packing.{word_limit, HasFirstAsmFault}
use Rattle.sanctum.specs.Sources.{Files, IsImageOf, IsOriginFault}
use Rattle.sanctum.specs.Runs.{IsRun, HasScriptFault, IsNotBuilt, HasOtherCores}
use Rattle.sanctum.specs.Traces.{HasFirstTraceFault}
use Rattle.sanctum.specs.Headline.{IsOutput}
use Rattle.sanctum.specs.Outputs.{text_of}

-- ---- faults of files

-- The command reads an image, and this is its first fault; or `solo` asks for one core, and the image has others.
abbrev pub IsImageFault : Command → Files → ImageFault → Type 0
IsImageFault (Run origin name) files fault = IsOriginFault files origin fault
IsImageFault (Solo origin name) files fault = IsOriginFault files origin fault ⊎ HasOtherCores files origin fault
IsImageFault (Convert origin) files fault = IsOriginFault files origin fault
IsImageFault (Pack name shape) files fault = ⊥
IsImageFault (Llc name) files fault = ⊥

-- The command reads a script behind a good image, and this is its first fault; or it is for other cores than `run` has.
abbrev pub IsScriptFault : Command → Files → ScriptFault → Type 0
IsScriptFault (Run origin name) files fault =
    HasScriptFault None files origin name fault ⊎ IsNotBuilt files origin name fault
IsScriptFault (Solo origin name) files fault = HasScriptFault (Some 1) files origin name fault
IsScriptFault (Convert origin) files fault = ⊥
IsScriptFault (Pack name shape) files fault = ⊥
IsScriptFault (Llc name) files fault = ⊥

-- The command reads an assembler text, and this is its first fault.
abbrev pub IsAsmFault : Command → Files → AsmFault → Type 0
IsAsmFault (Pack name shape) files fault =
    IfSome (files name) (λ bytes. HasFirstAsmFault (word_limit shape) bytes fault)
IsAsmFault (Run origin name) files fault = ⊥
IsAsmFault (Solo origin name) files fault = ⊥
IsAsmFault (Convert origin) files fault = ⊥
IsAsmFault (Llc name) files fault = ⊥

-- The command reads a trace, and this is its first fault.
abbrev pub IsTraceFault : Command → Files → TraceFault → Type 0
IsTraceFault (Llc name) files fault = IfSome (files name) (λ bytes. HasFirstTraceFault bytes fault)
IsTraceFault (Run origin name) files fault = ⊥
IsTraceFault (Solo origin name) files fault = ⊥
IsTraceFault (Convert origin) files fault = ⊥
IsTraceFault (Pack name shape) files fault = ⊥

-- ---- refusals

-- the count of faults of a file rose, by the counts of all files before and after
abbrev pub Rises : (List ℕ → ℕ) → (List ℕ → ℕ) → List ℕ → Type 0
Rises before after name = Rose (before name) (after name)

-- The command is refused so for its reason: a fault of what it reads; a read fault only where `rose` holds of one of
-- its files; want of memory at any time.
abbrev pub IsReason : Command → Files → (List ℕ → Type 0) → Status → Type 0
IsReason command files rose answers.Ok = ⊥
IsReason command files rose answers.Usage = ⊥
IsReason command files rose (answers.ImageRefused fault) = IsImageFault command files fault
IsReason command files rose (answers.ScriptRefused fault) = IsScriptFault command files fault
IsReason command files rose answers.ReadFault = Any rose (files_of command)
IsReason command files rose answers.WriteFault = ⊥
IsReason command files rose answers.OutOfMemory = ⊤
IsReason command files rose (answers.AsmRefused fault) = IsAsmFault command files fault
IsReason command files rose (answers.TraceRefused fault) = IsTraceFault command files fault

-- what a command made is what it is to write, and where it made nothing it has its reason
abbrev pub Serves : Command → Files → (List ℕ → Type 0) → Result Output Status → Type 0
Serves command files rose (Ok output) = IsOutput command files (text_of output)
Serves command files rose (Err status) = IsReason command files rose status

-- ---- what is no reason

-- the depot tells each file that the command reads
abbrev pub AreTold : Command → Files → Type 0
AreTold command files = All (λ name. IsSome (files name)) (files_of command)

-- the files, where they are told, are what the command reads, and what is run has one core
abbrev pub AreGood : Command → Files → Type 0
AreGood (Run origin name) files =
    (image : Image) × (script : List (List Line)) × IsRun None files origin name image script × (image.config.cores ≡ 1)
AreGood (Solo origin name) files =
    (image : Image) × (script : List (List Line)) × IsRun (Some 1) files origin name image script
AreGood (Convert origin) files = (image : Image) × IsImageOf files 1 origin image
AreGood (Pack name shape) files =
    (words : List ℕ) × IfSome (files name) (λ bytes. IsText (word_limit shape) bytes words)
AreGood (Llc name) files = (trace : Trace) × IfSome (files name) (λ bytes. IsTrace bytes trace)
