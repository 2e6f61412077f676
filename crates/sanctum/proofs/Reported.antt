-- From a finished run to its report.
use Rattle.std.proofs.Common.{◌≡◌, List, ap, subst, ◌∙◌}
use Rattle.mon_types.specs.declared.image.Image.{Image}
use Rattle.mon_types.specs.declared.script.Line.{Line}
use Rattle.hist.specs.declared.finished.Finished.{Finished}
use Rattle.hist.specs.Logged.{events_of}
use Rattle.hist.specs.Legal.{Legal, HasLastTables}
use Rattle.image_read.specs.Image.{IsImage}
use Rattle.report.specs.Report.{report_text}
use Rattle.solo.specs.Given.{IsOneImage}
use Rattle.sanctum.specs.Runs.{finished_of, IsRunReport}

-- an image with one core can be run
pub one_image : (image : Image) → IsImage 2 image → image.config.cores ≡ 1 → IsOneImage image
one_image image is one = record { one = one; starts = is.starts ∙ one; segments = is.segments }

-- what was run is reported
pub reported : (image : Image) (script : List (List Line)) (f : Finished) → image.config.cores ≡ 1 → f ≡ finished_of image script → Legal f.config (events_of f.logs) → HasLastTables f → IsRunReport image script (report_text f)
reported image script f one is legal tables = record {
  one = one;
  report = ap report_text is;
  legal = subst (λ (x : Finished). Legal x.config (events_of x.logs)) is legal;
  tables = subst HasLastTables is tables;
}
