-- What each answer of the program says of the bytes that the sink has got. This project's own.
use Rattle.std.specs.Prelude.{◌≡◌, ℕ, List, Option, Some, None, Result, Ok, Err, ◌⊎◌, ⊤}
use Rattle.std.specs.Io.KnownBytes.{Appends}
use Rattle.sm_ports.specs.Contents.{AppendsPart}
use Rattle.sanctum.specs.declared.output.Output.{Output}
use Rattle.sanctum.specs.declared.status.Status.{Status}
use Rattle.sanctum.specs.declared.status.Status.TheVariants as answers
use Rattle.sanctum.specs.Commands.{Command}
use Rattle.sanctum.specs.Sources.{Files}
use Rattle.sanctum.specs.Headline.{IsOutput}
use Rattle.sanctum.specs.Outputs.{text_of}
use Rattle.sanctum.specs.Faults.{fault_line}
use Rattle.sanctum.specs.Causes.{IsReason}

-- What is to be written for an answer, by what the words ask for: the command's output for Ok, and else the one line of
-- a refusal that has its reason. Words that ask for nothing give Usage.
abbrev pub IsMeant : Option Command → Files → (List ℕ → Type 0) → Status → List ℕ → Type 0
IsMeant None files rose status text = (status ≡ answers.Usage) × (text ≡ fault_line answers.Usage)
IsMeant (Some command) files rose answers.Ok text = IsOutput command files text
IsMeant (Some command) files rose status text = (text ≡ fault_line status) × IsReason command files rose status

-- the answers that print one fault line
abbrev pub IsRefusal : Status → Type 0
IsRefusal answers.Ok = ⊥
IsRefusal answers.WriteFault = ⊥
IsRefusal status = ⊤

-- what was made or refused is what is to be written for the answer
abbrev pub IsAnswer : Option Command → Files → (List ℕ → Type 0) → Result Output Status → Type 0
IsAnswer asked files rose (Ok output) = IsMeant asked files rose answers.Ok (text_of output)
IsAnswer asked files rose (Err status) = IsRefusal status × IsMeant asked files rose status (fault_line status)

-- The text was written whole, with the intended answer, or a proper prefix of it, with WriteFault.
abbrev pub Prints : Option (List ℕ) → Option (List ℕ) → List ℕ → Status → Status → Type 0
Prints before after text intended result =
    ((result ≡ intended) × Appends before after text)
    ⊎ ((result ≡ answers.WriteFault) × AppendsPart before after text)

-- What was to be answered, the text that was to be written for it, which is one that may be, and what
-- came of it.
pub record Ends (May : Status → List ℕ → Type 0) (before after : Option (List ℕ)) (result : Status) : Type 0 where
  pub intended : Status
  pub text : List ℕ
  pub may : May intended text
  pub printed : Prints before after text intended result
