-- What follows from how the program ended.
use Rattle.std.proofs.Common.{◌≡◌, ℕ, List, Option, Some, None, Result, Ok, Err, refl, sym, ap, subst, ◌∙◌, inl, inr, ◌⊎◌}
use Rattle.std.specs.Prelude.{IsSomeAnd, Any}
use Rattle.std.specs.Io.KnownBytes.{Appends}
use Rattle.sm_ports.specs.Contents.{AppendsPart}
use Rattle.image_read.specs.declared.fault.ImageFault.{ImageFault}
use Rattle.script_read.specs.declared.fault.ScriptFault.{ScriptFault}
use Rattle.rv_asm.specs.declared.fault.AsmFault.{AsmFault}
use Rattle.llc.specs.declared.fault.TraceFault.{TraceFault}
use Rattle.sanctum.specs.declared.output.Output.{Output}
use Rattle.sanctum.specs.declared.status.Status.{Status}
use Rattle.sanctum.specs.declared.status.Status.TheVariants as answers
use Rattle.sanctum.specs.Commands.{Command, files_of}
use Rattle.sanctum.specs.Sources.{Files}
use Rattle.sanctum.specs.Headline.{IsOutput}
use Rattle.sanctum.specs.Faults.{fault_line}
use Rattle.sanctum.specs.Causes.{IsImageFault, IsScriptFault, IsAsmFault, IsTraceFault, IsReason, Serves, AreTold, AreGood}
use Rattle.sanctum.specs.Answers.{IsMeant, IsRefusal, IsAnswer, Ends}
use Rattle.sanctum.proofs.Sound.{no_reason}

-- what the words ask for
abbrev Asked : Type 0
Asked = Option Command

-- an answer that is no write fault is the one that was to be given, and its text was written whole
whole : (May : Status → List ℕ → Type 0) (before after : Option (List ℕ)) (result : Status) → Ends May before after result → (result ≡ answers.WriteFault → ⊥) → (text : List ℕ) × May result text × Appends before after text
whole May before after result e no_fault =
    elim e.printed [
      | inl p ↦ (e.text, subst (λ (s : Status). May s e.text) (sym p.0) e.may, p.1)
      | inr q ↦ absurd (no_fault q.0)
    ]

no_write_fault : (result status : Status) → result ≡ status → (status ≡ answers.WriteFault → ⊥) → result ≡ answers.WriteFault → ⊥
no_write_fault result status is other h = other (sym is ∙ h)

-- the text of an answer that is known
written : (asked : Asked) (files : Files) (rose : List ℕ → Type 0) (before after : Option (List ℕ)) (result status : Status) → Ends (IsMeant asked files rose) before after result → result ≡ status → (status ≡ answers.WriteFault → ⊥) → (text : List ℕ) × IsMeant asked files rose status text × Appends before after text
written asked files rose before after result status e is other =
    let w = whole (IsMeant asked files rose) before after result e (no_write_fault result status is other) in
    (w.0, subst (λ (s : Status). IsMeant asked files rose s w.0) is w.1, w.2)

none_asked : (files : Files) (rose : List ℕ → Type 0) (before after : Option (List ℕ)) (result : Status) → Ends (IsMeant None files rose) before after result → (result ≡ answers.Usage) ⊎ (result ≡ answers.WriteFault)
none_asked files rose before after result e = elim e.printed [ inl p ↦ inl (p.0 ∙ e.may.0) | inr q ↦ inr q.0 ]

pub usage : (asked : Asked) (files : Files) (rose : List ℕ → Type 0) (before after : Option (List ℕ)) (result : Status) → Ends (IsMeant asked files rose) before after result → asked ≡ None → (result ≡ answers.Usage) ⊎ (result ≡ answers.WriteFault)
usage asked files rose before after result e none = none_asked files rose before after result (subst (λ (a : Asked). Ends (IsMeant a files rose) before after result) none e)

meant_usage : (asked : Asked) (files : Files) (rose : List ℕ → Type 0) (text : List ℕ) → IsMeant asked files rose answers.Usage text → asked ≡ None
meant_usage None files rose text m = refl
meant_usage (Some command) files rose text m = absurd m.1

pub usage_only : (asked : Asked) (files : Files) (rose : List ℕ → Type 0) (before after : Option (List ℕ)) (result : Status) → Ends (IsMeant asked files rose) before after result → result ≡ answers.Usage → asked ≡ None
usage_only asked files rose before after result e is =
    let w = written asked files rose before after result answers.Usage e is (λ h. cc) in meant_usage asked files rose w.0 w.1

meant_output : (asked : Asked) (files : Files) (rose : List ℕ → Type 0) (text : List ℕ) → IsMeant asked files rose answers.Ok text → IsSomeAnd asked (λ command. IsOutput command files text)
meant_output None files rose text m = let h : answers.Ok ≡ answers.Usage = m.0 in absurd cc
meant_output (Some command) files rose text m = m

pub output : (asked : Asked) (files : Files) (rose : List ℕ → Type 0) (before after : Option (List ℕ)) (result : Status) → Ends (IsMeant asked files rose) before after result → result ≡ answers.Ok
    → (text : List ℕ) × IsSomeAnd asked (λ command. IsOutput command files text) × Appends before after text
output asked files rose before after result e is =
    let w = written asked files rose before after result answers.Ok e is (λ h. cc) in (w.0, meant_output asked files rose w.0 w.1, w.2)

-- a command's refusal has its reason
some_reason : (command : Command) (files : Files) (rose : List ℕ → Type 0) (status : Status) (text : List ℕ) → IsRefusal status → IsMeant (Some command) files rose status text → IsReason command files rose status
some_reason command files rose answers.Ok text r m = absurd r
some_reason command files rose answers.Usage text r m = m.1
some_reason command files rose (answers.ImageRefused fault) text r m = m.1
some_reason command files rose (answers.ScriptRefused fault) text r m = m.1
some_reason command files rose answers.ReadFault text r m = m.1
some_reason command files rose answers.WriteFault text r m = absurd r
some_reason command files rose answers.OutOfMemory text r m = m.1
some_reason command files rose (answers.AsmRefused fault) text r m = m.1
some_reason command files rose (answers.TraceRefused fault) text r m = m.1

meant_reason : (asked : Asked) (files : Files) (rose : List ℕ → Type 0) (status : Status) (text : List ℕ) → IsRefusal status → (status ≡ answers.Usage → ⊥) → IsMeant asked files rose status text → IsSomeAnd asked (λ command. IsReason command files rose status)
meant_reason None files rose status text r other m = absurd (other m.0)
meant_reason (Some command) files rose status text r other m = some_reason command files rose status text r m

refused : (asked : Asked) (files : Files) (rose : List ℕ → Type 0) (before after : Option (List ℕ)) (result status : Status) → Ends (IsMeant asked files rose) before after result → result ≡ status → IsRefusal status → (status ≡ answers.Usage → ⊥) → (status ≡ answers.WriteFault → ⊥)
    → IsSomeAnd asked (λ command. IsReason command files rose status)
refused asked files rose before after result status e is r other no_write =
    let w = written asked files rose before after result status e is no_write in meant_reason asked files rose status w.0 r other w.1

pub image_refused : (asked : Asked) (files : Files) (rose : List ℕ → Type 0) (before after : Option (List ℕ)) (result : Status) (fault : ImageFault) → Ends (IsMeant asked files rose) before after result → result ≡ answers.ImageRefused fault
    → IsSomeAnd asked (λ command. IsImageFault command files fault)
image_refused asked files rose before after result fault e is = refused asked files rose before after result (answers.ImageRefused fault) e is tt (λ h. cc) (λ h. cc)

pub script_refused : (asked : Asked) (files : Files) (rose : List ℕ → Type 0) (before after : Option (List ℕ)) (result : Status) (fault : ScriptFault) → Ends (IsMeant asked files rose) before after result → result ≡ answers.ScriptRefused fault
    → IsSomeAnd asked (λ command. IsScriptFault command files fault)
script_refused asked files rose before after result fault e is = refused asked files rose before after result (answers.ScriptRefused fault) e is tt (λ h. cc) (λ h. cc)

pub asm_refused : (asked : Asked) (files : Files) (rose : List ℕ → Type 0) (before after : Option (List ℕ)) (result : Status) (fault : AsmFault) → Ends (IsMeant asked files rose) before after result → result ≡ answers.AsmRefused fault
    → IsSomeAnd asked (λ command. IsAsmFault command files fault)
asm_refused asked files rose before after result fault e is = refused asked files rose before after result (answers.AsmRefused fault) e is tt (λ h. cc) (λ h. cc)

pub trace_refused : (asked : Asked) (files : Files) (rose : List ℕ → Type 0) (before after : Option (List ℕ)) (result : Status) (fault : TraceFault) → Ends (IsMeant asked files rose) before after result → result ≡ answers.TraceRefused fault
    → IsSomeAnd asked (λ command. IsTraceFault command files fault)
trace_refused asked files rose before after result fault e is = refused asked files rose before after result (answers.TraceRefused fault) e is tt (λ h. cc) (λ h. cc)

pub read_fault : (asked : Asked) (files : Files) (rose : List ℕ → Type 0) (before after : Option (List ℕ)) (result : Status) → Ends (IsMeant asked files rose) before after result → result ≡ answers.ReadFault
    → IsSomeAnd asked (λ command. Any rose (files_of command))
read_fault asked files rose before after result e is = refused asked files rose before after result answers.ReadFault e is tt (λ h. cc) (λ h. cc)

some_text : (command : Command) (files : Files) (rose : List ℕ → Type 0) (status : Status) (text : List ℕ) → IsRefusal status → IsMeant (Some command) files rose status text → text ≡ fault_line status
some_text command files rose answers.Ok text r m = absurd r
some_text command files rose answers.Usage text r m = m.0
some_text command files rose (answers.ImageRefused fault) text r m = m.0
some_text command files rose (answers.ScriptRefused fault) text r m = m.0
some_text command files rose answers.ReadFault text r m = m.0
some_text command files rose answers.WriteFault text r m = absurd r
some_text command files rose answers.OutOfMemory text r m = m.0
some_text command files rose (answers.AsmRefused fault) text r m = m.0
some_text command files rose (answers.TraceRefused fault) text r m = m.0

meant_text : (asked : Asked) (files : Files) (rose : List ℕ → Type 0) (status : Status) (text : List ℕ) → IsRefusal status → IsMeant asked files rose status text → text ≡ fault_line status
meant_text None files rose status text r m = m.1 ∙ ap fault_line (sym m.0)
meant_text (Some command) files rose status text r m = some_text command files rose status text r m

pub one_line : (asked : Asked) (files : Files) (rose : List ℕ → Type 0) (before after : Option (List ℕ)) (result : Status) → Ends (IsMeant asked files rose) before after result → IsRefusal result → Appends before after (fault_line result)
one_line asked files rose before after result e r =
    let w = whole (IsMeant asked files rose) before after result e (λ h. subst IsRefusal h r) in
    subst (λ (text : List ℕ). Appends before after text) (meant_text asked files rose result w.0 r w.1) w.2

meant_nothing : (asked : Asked) (files : Files) (rose : List ℕ → Type 0) (text : List ℕ) → IsMeant asked files rose answers.WriteFault text → ⊥
meant_nothing None files rose text m = let h : answers.WriteFault ≡ answers.Usage = m.0 in cc
meant_nothing (Some command) files rose text m = m.1

pub prefix : (asked : Asked) (files : Files) (rose : List ℕ → Type 0) (before after : Option (List ℕ)) (result : Status) → Ends (IsMeant asked files rose) before after result → result ≡ answers.WriteFault
    → (intended : Status) × (text : List ℕ) × IsMeant asked files rose intended text × AppendsPart before after text
prefix asked files rose before after result e is =
    elim e.printed [
      | inl p ↦ absurd (meant_nothing asked files rose e.text (subst (λ (s : Status). IsMeant asked files rose s e.text) (sym p.0 ∙ is) e.may))
      | inr q ↦ (e.intended, e.text, e.may, q.1)
    ]

-- ---- completeness

good : (command : Command) (files : Files) (rose : List ℕ → Type 0) (status : Status) (text : List ℕ) → IsMeant (Some command) files rose status text → AreTold command files → AreGood command files → (Any rose (files_of command) → ⊥) → (status ≡ answers.Ok) ⊎ (status ≡ answers.OutOfMemory)
good command files rose answers.Ok text m told g never = inl refl
good command files rose answers.Usage text m told g never = absurd m.1
good command files rose (answers.ImageRefused fault) text m told g never = inr (no_reason command files rose (answers.ImageRefused fault) told g never m.1)
good command files rose (answers.ScriptRefused fault) text m told g never = inr (no_reason command files rose (answers.ScriptRefused fault) told g never m.1)
good command files rose answers.ReadFault text m told g never = absurd (never m.1)
good command files rose answers.WriteFault text m told g never = absurd m.1
good command files rose answers.OutOfMemory text m told g never = inr refl
good command files rose (answers.AsmRefused fault) text m told g never = inr (no_reason command files rose (answers.AsmRefused fault) told g never m.1)
good command files rose (answers.TraceRefused fault) text m told g never = inr (no_reason command files rose (answers.TraceRefused fault) told g never m.1)

pub complete : (asked : Asked) (files : Files) (rose : List ℕ → Type 0) (before after : Option (List ℕ)) (result : Status) (Write : Type 0)
    → Ends (IsMeant asked files rose) before after result → (result ≡ answers.WriteFault → Write)
    → (command : Command) → asked ≡ Some command → AreTold command files → AreGood command files → (Any rose (files_of command) → ⊥) → (Write → ⊥) → (result ≡ answers.Ok) ⊎ (result ≡ answers.OutOfMemory)
complete asked files rose before after result Write e write command is told g no_read no_write =
    let w = whole (IsMeant asked files rose) before after result e (λ h. no_write (write h)) in
    good command files rose result w.0 (subst (λ (a : Asked). IsMeant a files rose result w.0) is w.1) told g no_read

-- ---- from what a command made to the answer

served : (command : Command) (files : Files) (rose : List ℕ → Type 0) (status : Status) → IsReason command files rose status → IsRefusal status × IsMeant (Some command) files rose status (fault_line status)
served command files rose answers.Ok r = absurd r
served command files rose answers.Usage r = absurd r
served command files rose (answers.ImageRefused fault) r = (tt, (refl, r))
served command files rose (answers.ScriptRefused fault) r = (tt, (refl, r))
served command files rose answers.ReadFault r = (tt, (refl, r))
served command files rose answers.WriteFault r = absurd r
served command files rose answers.OutOfMemory r = (tt, (refl, r))
served command files rose (answers.AsmRefused fault) r = (tt, (refl, r))
served command files rose (answers.TraceRefused fault) r = (tt, (refl, r))

some_answer : (command : Command) (files : Files) (rose : List ℕ → Type 0) (result : Result Output Status) → Serves command files rose result → IsAnswer (Some command) files rose result
some_answer command files rose (Ok made) s = s
some_answer command files rose (Err status) s = served command files rose status s

pub answered : (asked : Asked) (command : Command) (files : Files) (rose : List ℕ → Type 0) (result : Result Output Status) → Some command ≡ asked → Serves command files rose result → IsAnswer asked files rose result
answered asked command files rose result is s = subst (λ (a : Asked). IsAnswer a files rose result) is (some_answer command files rose result s)

pub none_answered : (asked : Asked) (files : Files) (rose : List ℕ → Type 0) → None ≡ asked → IsAnswer asked files rose (Err answers.Usage)
none_answered asked files rose is = subst (λ (a : Asked). IsAnswer a files rose (Err answers.Usage)) is (tt, (refl, refl))
