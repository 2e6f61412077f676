use Rattle.reader_answers.proofs.Files.{file_exact, file_only, file_keeps}
use Rattle.image_read.specs.declared.fault.ImageFault.TheVariants as faults
use Rattle.image_read.specs.Image.{IsImage}
use Rattle.image_read.specs.Grammar.{IsImageText}
use Rattle.image_read.specs.Reading.{limit, image_of}
use Rattle.image_read.proofs.Again.{image_again}
use Rattle.image_read.proofs.ImageFiles.{long_image, file_found, parsed_valid}
use Rattle.image_read.proofs.read.read_image.Goals as goal

pub returns-in-Ok-clause-exact : goal.returns-in-Ok-clause-exact
returns-in-Ok-clause-exact g c =
    file_exact image_of (λ i. i) faults.TooLong limit long_image (g.D.Depot.contents c.args.depot.now c.args.name.now) c.in-Ok.bytes.items c.parse_image.result
    c.widen.result c.in-Ok.ensures.bytes (rw (← c.deref.ensures.value) c.parse_image.ensures.exact) c.widen.ensures

pub returns-in-Ok-clause-found : goal.returns-in-Ok-clause-found
returns-in-Ok-clause-found g c =
    file_found (g.D.Depot.contents c.args.depot.now c.args.name.now) c.in-Ok.bytes.items c.parse_image.result c.widen.result c.in-Ok.ensures.bytes (rw (← c.deref.ensures.value) c.parse_image.ensures.exact) (rw (← c.deref.ensures.value) c.parse_image.ensures.found) c.widen.ensures

pub returns-in-Ok-clause-only : goal.returns-in-Ok-clause-only
returns-in-Ok-clause-only g c =
    file_only IsImageText image_of (λ i. i) image_again (g.D.Depot.contents c.args.depot.now c.args.name.now) c.widen.result
    (file_exact image_of (λ i. i) faults.TooLong limit long_image (g.D.Depot.contents c.args.depot.now c.args.name.now) c.in-Ok.bytes.items c.parse_image.result
    c.widen.result c.in-Ok.ensures.bytes (rw (← c.deref.ensures.value) c.parse_image.ensures.exact) c.widen.ensures)

pub returns-in-Ok-clause-valid : goal.returns-in-Ok-clause-valid
returns-in-Ok-clause-valid g c =
    file_keeps (IsImage 2) c.parse_image.result c.widen.result (parsed_valid c.deref.result.now c.parse_image.result c.parse_image.ensures.found) c.widen.ensures
