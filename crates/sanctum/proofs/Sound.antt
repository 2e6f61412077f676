-- Files that are told and good have no fault.
use Rattle.std.proofs.Common.{◌≡◌, ℕ, List, Some, None, refl, inl, inr}
use Rattle.std.specs.Prelude.{Any}
use Rattle.image_read.specs.Grammar.{IsImageText}
use Rattle.image_read.specs.declared.fault.ImageFault.{ImageFault}
use Rattle.script_read.specs.declared.fault.ScriptFault.{ScriptFault}
use Rattle.rv_asm.specs.Grammar.{IsText}
use Rattle.rv_asm.specs.declared.fault.AsmFault.{AsmFault}
use Rattle.llc.specs.Grammar.{IsTrace}
use Rattle.llc.specs.declared.fault.TraceFault.{TraceFault}
use Rattle.sanctum.specs.declared.status.Status.{Status}
use Rattle.sanctum.specs.declared.status.Status.TheVariants as answers
use Rattle.sanctum.specs.Commands.{Plain, File, Command, Run, Solo, Convert, Pack, Llc, files_of}
use Rattle.sanctum.specs.Packing.{word_limit, HasFirstAsmFault}
use Rattle.sanctum.specs.Sources.{Files, HasFirstImageFault}
use Rattle.sanctum.specs.Traces.{HasFirstTraceFault}
use Rattle.sanctum.specs.Causes.{IsImageFault, IsScriptFault, IsAsmFault, IsTraceFault, IsReason, AreTold, AreGood}
use Rattle.sanctum.proofs.Told.{only_told, refuted}
use Rattle.sanctum.proofs.Ran.{run_no_image_fault, run_no_script_fault, run_is_built, solo_has_one}

no_image_fault : (command : Command) (files : Files) (fault : ImageFault) → AreTold command files → AreGood command files → IsImageFault command files fault → ⊥
no_image_fault (Run origin name) files fault told good f = run_no_image_fault None files origin name good.0 good.1 fault told good.2 f
no_image_fault (Solo origin name) files fault told good f = elim f [
  | inl first ↦ run_no_image_fault (Some 1) files origin name good.0 good.1 fault told good.2 first
  | inr others ↦ solo_has_one files origin name good.0 good.1 fault told good.2 others
]
no_image_fault (Convert Plain) files fault told good f = f
no_image_fault (Convert (File name)) files fault told good f =
    refuted (files name) (λ bytes. HasFirstImageFault bytes fault) (λ bytes. IsImageText bytes good.0) (only_told files name told) f good.1 (λ bytes h is. h.outside good.0 is)
no_image_fault (Pack name shape) files fault told good f = f
no_image_fault (Llc name) files fault told good f = f

no_script_fault : (command : Command) (files : Files) (fault : ScriptFault) → AreTold command files → AreGood command files → IsScriptFault command files fault → ⊥
no_script_fault (Run origin name) files fault told good f = elim f [
  | inl first ↦ run_no_script_fault None files origin name good.0 good.1 fault told good.2 first
  | inr others ↦ run_is_built files origin name good.0 good.1 fault told good.2 good.3 others
]
no_script_fault (Solo origin name) files fault told good f = run_no_script_fault (Some 1) files origin name good.0 good.1 fault told good.2 f
no_script_fault (Convert source) files fault told good f = f
no_script_fault (Pack name shape) files fault told good f = f
no_script_fault (Llc name) files fault told good f = f

no_asm_fault : (command : Command) (files : Files) (fault : AsmFault) → AreTold command files → AreGood command files → IsAsmFault command files fault → ⊥
no_asm_fault (Run origin name) files fault told good f = f
no_asm_fault (Solo origin name) files fault told good f = f
no_asm_fault (Convert source) files fault told good f = f
no_asm_fault (Pack name shape) files fault told good f =
    refuted (files name) (λ bytes. HasFirstAsmFault (word_limit shape) bytes fault) (λ bytes. IsText (word_limit shape) bytes good.0) (only_told files name told) f good.1 (λ bytes h is. h.outside good.0 is)
no_asm_fault (Llc name) files fault told good f = f

no_trace_fault : (command : Command) (files : Files) (fault : TraceFault) → AreTold command files → AreGood command files → IsTraceFault command files fault → ⊥
no_trace_fault (Run origin name) files fault told good f = f
no_trace_fault (Solo origin name) files fault told good f = f
no_trace_fault (Convert source) files fault told good f = f
no_trace_fault (Pack name shape) files fault told good f = f
no_trace_fault (Llc name) files fault told good f =
    refuted (files name) (λ bytes. HasFirstTraceFault bytes fault) (λ bytes. IsTrace bytes good.0) (only_told files name told) f good.1 (λ bytes h is. h.outside good.0 is)

-- the only reason of a refusal is want of memory
pub no_reason : (command : Command) (files : Files) (rose : List ℕ → Type 0) (status : Status) → AreTold command files → AreGood command files → (Any rose (files_of command) → ⊥) → IsReason command files rose status → status ≡ answers.OutOfMemory
no_reason command files rose answers.Ok told good never r = absurd r
no_reason command files rose answers.Usage told good never r = absurd r
no_reason command files rose (answers.ImageRefused fault) told good never r = absurd (no_image_fault command files fault told good r)
no_reason command files rose (answers.ScriptRefused fault) told good never r = absurd (no_script_fault command files fault told good r)
no_reason command files rose answers.ReadFault told good never r = absurd (never r)
no_reason command files rose answers.WriteFault told good never r = absurd r
no_reason command files rose answers.OutOfMemory told good never r = refl
no_reason command files rose (answers.AsmRefused fault) told good never r = absurd (no_asm_fault command files fault told good r)
no_reason command files rose (answers.TraceRefused fault) told good never r = absurd (no_trace_fault command files fault told good r)
