-- What the program writes with Ok, command by command. This project's own.
use Rattle.std.specs.Prelude.{◌≡◌, ℕ, List, Some, None}
use Rattle.mon_types.specs.declared.image.Image.{Image}
use Rattle.image_read.specs.Image.{image_text}
use Rattle.sanctum.specs.Commands.{Origin, Command, Run, Solo, Convert, Pack, Llc}
use Rattle.sanctum.specs.Packing.{IsPacked}
use Rattle.sanctum.specs.Sources.{Files, IsImageOf}
use Rattle.sanctum.specs.Runs.{IsReport}
use Rattle.sanctum.specs.Traces.{IsCounted}

-- The text is that of version 2 of the image that is named; the plain machine has one core.
pub record IsConverted (files : Files) (origin : Origin) (text : List ℕ) : Type 0 where
  pub image : Image
  pub read : IsImageOf files 1 origin image
  pub converted : text ≡ image_text 2 image

-- what a command writes with Ok, by what the depot tells of its files
abbrev pub IsOutput : Command → Files → List ℕ → Type 0
IsOutput (Run origin name) files text = IsReport None files origin name text
IsOutput (Solo origin name) files text = IsReport (Some 1) files origin name text
IsOutput (Convert origin) files text = IsConverted files origin text
IsOutput (Pack name shape) files text = IsPacked shape (files name) text
IsOutput (Llc name) files text = IsCounted (files name) text
