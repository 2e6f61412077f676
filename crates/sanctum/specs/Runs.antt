-- What a run reads and prints, and what is wrong with the bytes of a script. This project's own.
use Rattle.std.specs.Prelude.{◌≡◌, ◌≢◌, ℕ, List, length, Option, Some, None, Err, IfSome}
use Rattle.mon_types.specs.declared.image.Image.{Image}
use Rattle.mon_types.specs.declared.script.Line.{Line}
use Rattle.hist.specs.declared.finished.Finished.{Finished}
use Rattle.hist.specs.Logged.{events_of}
use Rattle.hist.specs.Legal.{Legal, HasLastTables}
use Rattle.script_read.specs.Grammar.{IsScript}
use Rattle.script_read.specs.Reading.{script_of}
use Rattle.script_read.specs.declared.fault.ScriptFault.{ScriptFault}
use Rattle.script_read.specs.declared.fault.ScriptFault.TheVariants as faults
use Rattle.image_read.specs.declared.fault.ImageFault.{ImageFault}
use Rattle.image_read.specs.declared.fault.ImageFault.TheVariants as image_faults
use Rattle.solo.specs.Given.{lines_of_core_0}
use Rattle.solo.specs.Solo.{solo_run, solo_report}
use Rattle.sanctum.specs.Commands.{Origin, Plain, File}
use Rattle.sanctum.specs.Sources.{Files, IsImageOf}

-- ---- what is read

-- A command asks for a count of cores: `solo` for one, and `run` for none, so that any will do. A script may name the
-- cores of an image in a file; of the plain machine those that are asked for, and where none is, any below 16.
abbrev pub cores_given : Option ℕ → Origin → Image → Option ℕ
cores_given asked Plain image = asked
cores_given asked (File name) image = Some image.config.cores

-- The image is the one that is named, with as many cores as are asked for, and the script is the one that the file's
-- bytes are, where the depot tells them. The plain machine has a core for each of its lists of lines.
pub record IsRun (asked : Option ℕ) (files : Files) (origin : Origin) (name : List ℕ) (image : Image)
    (script : List (List Line)) : Type 0 where
  pub image_is : IsImageOf files (length script) origin image
  pub asked_is : IfSome asked (λ count. image.config.cores ≡ count)
  pub script_is : IfSome (files name) (λ bytes. IsScript (cores_given asked origin image) bytes script)

-- ---- what is printed

-- the finished run of a script for one core
abbrev pub finished_of : Image → List (List Line) → Finished
finished_of image script = solo_run image (lines_of_core_0 script)

-- The machine of the image has one core; the text is the report of the script's run on it, whose log is a legal history
-- of the sequential monitor, and whose tables are those that the history leaves.
pub record IsRunReport (image : Image) (script : List (List Line)) (text : List ℕ) : Type 0 where
  pub one : image.config.cores ≡ 1
  pub report : text ≡ solo_report image (lines_of_core_0 script)
  pub legal : Legal (finished_of image script).config (events_of (finished_of image script).logs)
  pub tables : HasLastTables (finished_of image script)

-- The text is that report of the image that is named and of the script that the bytes are.
pub record IsReport (asked : Option ℕ) (files : Files) (origin : Origin) (name text : List ℕ) : Type 0 where
  pub image : Image
  pub script : List (List Line)
  pub read : IsRun asked files origin name image script
  pub run : IsRunReport image script text

-- ---- what is wrong

-- the bytes are outside the grammar of scripts or pass a limit, and this is their first fault
pub record HasFirstFault (cores : Option ℕ) (bytes : List ℕ) (fault : ScriptFault) : Type 0 where
  pub first : script_of cores bytes ≡ Err fault
  pub outside : (script : List (List Line)) → IsScript cores bytes script → ⊥

-- the image is the one that is named, with as many cores as are asked for, and this is the first fault of the script's
-- bytes, where the depot tells them
pub record HasScriptFault (asked : Option ℕ) (files : Files) (origin : Origin) (name : List ℕ) (fault : ScriptFault)
    : Type 0 where
  pub image : Image
  pub image_is : IsImageOf files image.config.cores origin image
  pub asked_is : IfSome asked (λ count. image.config.cores ≡ count)
  pub first : IfSome (files name) (λ bytes. HasFirstFault (cores_given asked origin image) bytes fault)

-- image and script are in their grammars and have another count of cores than one, which no run has yet: not built, at
-- line 0
pub record IsNotBuilt (files : Files) (origin : Origin) (name : List ℕ) (fault : ScriptFault) : Type 0 where
  pub image : Image
  pub script : List (List Line)
  pub read : IsRun None files origin name image script
  pub others : image.config.cores ≢ 1
  pub fault_is : fault ≡ faults.NotBuilt 0

-- the image that is named is in its grammar and has another count of cores than one: a bad field at the count's place
pub record HasOtherCores (files : Files) (origin : Origin) (fault : ImageFault) : Type 0 where
  pub image : Image
  pub image_is : IsImageOf files 1 origin image
  pub others : image.config.cores ≢ 1
  pub fault_is : fault ≡ image_faults.BadField 8
