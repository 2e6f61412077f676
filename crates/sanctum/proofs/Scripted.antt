-- From the answers of the reader of scripts to those of the program.
use Rattle.std.proofs.Common.{◌≡◌, ℕ, List, [], ◌∷◌, length, Option, Some, None, Result, Ok, Err, refl, sym, ap, subst, ◌∙◌, inl, arith}
use Rattle.std.specs.Prelude.{◌≢◌, IfSome, IfOk, IsOkUnless}
use Rattle.mon_types.specs.declared.image.Image.{Image}
use Rattle.mon_types.specs.declared.script.Line.{Line}
use Rattle.mon_types.specs.declared.script.Script.{Script}
use Rattle.sm_ports.specs.declared.failed.Failed.{Failed}
use Rattle.reader_answers.specs.declared.errors.FileError.{FileError}
use Rattle.reader_answers.specs.declared.errors.FileError.TheVariants as errors
use Rattle.reader_answers.specs.Answers.{FileOnly, FileExact}
use Rattle.script_read.specs.Grammar.{IsScript}
use Rattle.script_read.specs.Reading.{script_of}
use Rattle.script_read.specs.Answers.{HasCount, AreFew}
use Rattle.script_read.specs.declared.fault.ScriptFault.{ScriptFault}
use Rattle.script_read.specs.declared.fault.ScriptFault.TheVariants as faults
use Rattle.solo.specs.Given.{IsOneScript}
use Rattle.sanctum.specs.declared.output.Output.{Output}
use Rattle.sanctum.specs.declared.status.Status.{Status}
use Rattle.sanctum.specs.declared.status.Status.TheVariants as answers
use Rattle.sanctum.specs.Commands.{Origin, Plain, File, Run, Solo}
use Rattle.sanctum.specs.Sources.{Files, IsImageOf, plain_image}
use Rattle.sanctum.specs.Runs.{cores_given, IsRun, IsRunReport, HasFirstFault, HasScriptFault, IsNotBuilt}
use Rattle.sanctum.specs.Outputs.{text_of}
use Rattle.sanctum.specs.Refused.{refused_script}
use Rattle.sanctum.specs.Causes.{IsReason, Serves}
use Rattle.sanctum.proofs.Told.{named_last}

-- ---- results of reading

abbrev no_script : FileError ScriptFault → Result Script (FileError ScriptFault)
no_script error = Err error

abbrev faulty : ScriptFault → Result (List (List Line)) ScriptFault
faulty fault = Err fault

abbrev good : List (List Line) → Result (List (List Line)) ScriptFault
good script = Ok script

not_both : (script : List (List Line)) (fault : ScriptFault) → good script ≡ faulty fault → ⊥
not_both script fault e = cc

first_fault : (told : Option (List ℕ)) (cores : Option ℕ) (fault : ScriptFault) → FileOnly (IsScript cores) (λ s. s.cores) told (no_script (errors.Fault fault)) → FileExact (script_of cores) (λ s. s.cores) told (no_script (errors.Fault fault)) → IfSome told (λ bytes. HasFirstFault cores bytes fault)
first_fault None cores fault only exact = tt
first_fault (Some bytes) cores fault only exact = record { first = exact; outside = λ script is. not_both script fault (only script is) }

-- what the error of reading a script says, where this is what the depot tells of it
pub record IsUnread (told : Option (List ℕ)) (cores : Option ℕ) (rose : Type 0) (error : FileError ScriptFault) : Type 0 where
  pub only : FileOnly (IsScript cores) (λ s. s.cores) told (no_script error)
  pub exact : FileExact (script_of cores) (λ s. s.cores) told (no_script error)
  pub read : (failed : Failed) → no_script error ≡ no_script (errors.Read failed) → rose

-- the same of the files as they were before, and of the count that is given
pub moved : (between files : Files) (name : List ℕ) (cores given : Option ℕ) (rose : Type 0) (error : FileError ScriptFault) → between ≡ files → cores ≡ given → IsUnread (between name) cores rose error → IsUnread (files name) given rose error
moved between files name cores given rose error same is u =
    subst (λ (f : Files). IsUnread (f name) given rose error) same (subst (λ (n : Option ℕ). IsUnread (between name) n rose error) is u)

pub found_there : (between files : Files) (name : List ℕ) (cores given : Option ℕ) (script : List (List Line)) → between ≡ files → cores ≡ given → IfSome (between name) (λ bytes. IsScript cores bytes script) → IfSome (files name) (λ bytes. IsScript given bytes script)
found_there between files name cores given script same is found =
    subst (λ (f : Files). IfSome (f name) (λ bytes. IsScript given bytes script)) same (subst (λ (n : Option ℕ). IfSome (between name) (λ bytes. IsScript n bytes script)) is found)

-- ---- an image for one core, or for as many as the script has

-- the plain machine that was taken has one core
counted : (files : Files) (origin : Origin) (image : Image) → IsImageOf files 1 origin image → IsImageOf files image.config.cores origin image
counted files Plain image is = is ∙ ap (λ (i : Image). plain_image i.config.cores) (sym is)
counted files (File name) image is = is

-- ---- a script that was not read is a reason

script_fault : (asked : Option ℕ) (files : Files) (origin : Origin) (name : List ℕ) (image : Image) (rose : Type 0) (fault : ScriptFault) → IsImageOf files 1 origin image → IfSome asked (λ count. image.config.cores ≡ count)
    → IsUnread (files name) (cores_given asked origin image) rose (errors.Fault fault) → HasScriptFault asked files origin name fault
script_fault asked files origin name image rose fault is count u = record {
  image = image;
  image_is = counted files origin image is;
  asked_is = count;
  first = first_fault (files name) (cores_given asked origin image) fault u.only u.exact;
}

pub run_without_script : (files : Files) (rose : List ℕ → Type 0) (origin : Origin) (name : List ℕ) (image : Image) (error : FileError ScriptFault) → IsImageOf files 1 origin image → IsUnread (files name) (cores_given None origin image) (rose name) error
    → IsReason (Run origin name) files rose (refused_script error)
run_without_script files rose origin name image (errors.Fault fault) is u = inl (script_fault None files origin name image (rose name) fault is tt u)
run_without_script files rose origin name image (errors.Read failed) is u = named_last rose origin name (u.read failed refl)
run_without_script files rose origin name image errors.Memory is u = tt

-- where the image has one core, the count of one is that of the image
pub given_one : (origin : Origin) (image : Image) → image.config.cores ≡ 1 → cores_given (Some 1) origin image ≡ Some 1
given_one Plain image one = refl
given_one (File name) image one = ap (λ (n : ℕ). Some n) one

pub solo_without_script : (files : Files) (rose : List ℕ → Type 0) (origin : Origin) (name : List ℕ) (image : Image) (error : FileError ScriptFault) → IsImageOf files 1 origin image → image.config.cores ≡ 1 → IsUnread (files name) (Some 1) (rose name) error
    → IsReason (Solo origin name) files rose (refused_script error)
solo_without_script files rose origin name image (errors.Fault fault) is one u =
    script_fault (Some 1) files origin name image (rose name) fault is one (subst (λ (cores : Option ℕ). IsUnread (files name) cores (rose name) (errors.Fault fault)) (sym (given_one origin image one)) u)
solo_without_script files rose origin name image (errors.Read failed) is one u = named_last rose origin name (u.read failed refl)
solo_without_script files rose origin name image errors.Memory is one u = tt

-- ---- what was read

-- a script that was read for one core can be carried out
pub carried : (cores : List (List Line)) → length cores ≡ 1 → AreFew cores → IsOneScript cores
carried [] one few = absurd (omega (arith, one))
carried (script ∷ others) one few = record { one = one; few = few.0 }

-- a script that was read has as many lists of lines as the image of a file has cores
pub one_core : (files : Files) (origin : Origin) (image : Image) (script : List (List Line)) → IsImageOf files 1 origin image → HasCount (cores_given None origin image) script → length script ≡ 1 → image.config.cores ≡ 1
one_core files Plain image script is count one = ap (λ (i : Image). i.config.cores) is
one_core files (File name) image script is count one = sym count ∙ one

-- the run of one core
pub one_run : (asked : Option ℕ) (files : Files) (origin : Origin) (name : List ℕ) (image : Image) (script : List (List Line)) → IsImageOf files 1 origin image → IfSome asked (λ count. image.config.cores ≡ count) → length script ≡ 1
    → IfSome (files name) (λ bytes. IsScript (cores_given asked origin image) bytes script) → IsRun asked files origin name image script
one_run asked files origin name image script is count one read = record {
  image_is = subst (λ (n : ℕ). IsImageOf files n origin image) (sym one) is;
  asked_is = count;
  script_is = read;
}

-- a run of other cores: of the image of a file, or of the plain machine with as many as the script has
pub other_run : (files : Files) (origin : Origin) (name : List ℕ) (image : Image) (script : List (List Line)) → IsImageOf files 1 origin image → HasCount (cores_given None origin image) script → length script ≢ 1
    → IfSome (files name) (λ bytes. IsScript (cores_given None origin image) bytes script) → IsNotBuilt files origin name (faults.NotBuilt 0)
other_run files Plain name image script is count others read = record {
  image = plain_image (length script);
  script = script;
  read = record { image_is = refl; asked_is = tt; script_is = read };
  others = others;
  fault_is = refl;
}
other_run files (File origin) name image script is count others read = record {
  image = image;
  script = script;
  read = record { image_is = is; asked_is = tt; script_is = read };
  others = λ one. others (count ∙ one);
  fault_is = refl;
}

-- ---- what was run

pub run_served : (files : Files) (rose : List ℕ → Type 0) (origin : Origin) (name : List ℕ) (image : Image) (script : List (List Line)) (result : Result Output Status) → IsRun None files origin name image script
    → IfOk result (λ output. IsRunReport image script (text_of output)) → IsOkUnless result answers.OutOfMemory → Serves (Run origin name) files rose result
run_served files rose origin name image script (Ok output) read run memory = record { image = image; script = script; read = read; run = run }
run_served files rose origin name image script (Err status) read run memory = subst (λ (s : Status). IsReason (Run origin name) files rose s) (sym memory) tt

pub solo_served : (files : Files) (rose : List ℕ → Type 0) (origin : Origin) (name : List ℕ) (image : Image) (script : List (List Line)) (result : Result Output Status) → IsRun (Some 1) files origin name image script
    → IfOk result (λ output. IsRunReport image script (text_of output)) → IsOkUnless result answers.OutOfMemory → Serves (Solo origin name) files rose result
solo_served files rose origin name image script (Ok output) read run memory = record { image = image; script = script; read = read; run = run }
solo_served files rose origin name image script (Err status) read run memory = subst (λ (s : Status). IsReason (Solo origin name) files rose s) (sym memory) tt
