-- What a command made that is to be printed. This project's own.
use Rattle.std.specs.Prelude.{ℕ, List, ⊤}
use Rattle.hist.specs.Logged.{events_of}
use Rattle.hist.specs.Legal.{Legal}
use Rattle.report.specs.Report.{report_text, HasAllCores}
use Rattle.image_read.specs.Image.{image_text, IsImage}
use Rattle.llc.specs.Tallies.{tallies_text}
use Rattle.sanctum.specs.declared.output.Output.{Output}
use Rattle.sanctum.specs.declared.output.Output.TheVariants as outputs

-- the text that is printed
abbrev pub text_of : Output → List ℕ
text_of (outputs.Report finished) = report_text finished
text_of (outputs.Image1 image) = image_text 1 image
text_of (outputs.Image2 image) = image_text 2 image
text_of (outputs.Tallies tallies) = tallies_text tallies.items

-- it has such a text: a run has a log for each core, and they are legal; an image is one of its version
abbrev pub IsPrintable : Output → Type 0
IsPrintable (outputs.Report finished) = HasAllCores finished × Legal finished.config (events_of finished.logs)
IsPrintable (outputs.Image1 image) = IsImage 1 image
IsPrintable (outputs.Image2 image) = IsImage 2 image
IsPrintable (outputs.Tallies tallies) = ⊤
