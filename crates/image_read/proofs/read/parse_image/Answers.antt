use Rattle.std.proofs.Common.{arith}
use Rattle.reader_answers.proofs.Parsed.{found_if, only_if}
use Rattle.image_read.specs.Grammar.{IsImageText}
use Rattle.image_read.specs.Reading.{image_of}
use Rattle.image_read.proofs.FoundParts.{image_found}
use Rattle.image_read.proofs.Again.{image_again}
use Rattle.image_read.proofs.read.parse_image.Goals as goal

pub returns-clause-found : goal.returns-clause-found
returns-clause-found c =
    let bytes = c.args.bytes.now in
    found_if (IsImageText bytes) (λ i. i) (image_of bytes) (λ image. image_found bytes image (λ i. omega (arith, c.type_inv.bytes i))) c.parse.result
    c.parse.ensures

pub returns-clause-only : goal.returns-clause-only
returns-clause-only c =
    let bytes = c.args.bytes.now in
    only_if (IsImageText bytes) (λ i. i) (image_of bytes) (image_again bytes) c.parse.result c.parse.ensures
