-- A file is read up to one byte past the limit, which tells as much of an image as the whole file.
use Rattle.std.proofs.Common.{◌≡◌, ℕ, ◌+◌, ◌<◌, List, length, take, Option, Some, None, Result, Ok, Err, refl, sym, ap, subst, ◌∙◌, arith, inl, inr}
use Rattle.std.specs.Prelude.{IfOk}
use Rattle.std.proofs.lemmas.Bool.{cases_lt, lt-ltb}
use Rattle.std.proofs.lemmas.List.{take_all, length-take}
use Rattle.mon_types.specs.declared.image.Image.{Image}
use Rattle.sm_ports.specs.Contents.{IsFile}
use Rattle.reader_answers.specs.declared.errors.ParseError.{ParseError}
use Rattle.reader_answers.specs.declared.errors.ParseError.TheVariants as errors
use Rattle.reader_answers.specs.declared.errors.FileError.{FileError}
use Rattle.reader_answers.specs.Answers.{Gives, FileFound, widened}
use Rattle.reader_answers.proofs.Steps.{not_ok}
use Rattle.image_read.specs.declared.fault.ImageFault.{ImageFault}
use Rattle.image_read.specs.declared.fault.ImageFault.TheVariants as faults
use Rattle.image_read.specs.Image.{IsImage}
use Rattle.image_read.specs.Grammar.{IsImageText}
use Rattle.image_read.specs.Reading.{limit, image_of}
use Rattle.image_read.proofs.Shapes.{few_cores}

pub long_image : (bytes : List ℕ) → limit < length bytes → image_of bytes ≡ Err faults.TooLong
unfolding image_of
long_image bytes lt = rw (lt-ltb limit (length bytes) lt) refl

found_of : (bytes read : List ℕ) (parsed : Result Image (ParseError ImageFault)) → read ≡ take (limit + 1) bytes → Gives (λ i. i) parsed (image_of read) → IfOk parsed (λ image. IsImageText read image) → IfOk (widened parsed) (λ image. IsImageText bytes image)
found_of bytes read (Err errors.Memory) f h found = tt
found_of bytes read (Err (errors.Fault fault)) f h found = tt
found_of bytes read (Ok image) f h found =
    elim (cases_lt limit (length bytes)) [
      | inl lt ↦ not_ok faults.TooLong image (IsImageText bytes image) (sym (long_image read (omega (arith, lt, ap length f, length-take (limit + 1) bytes))) ∙ h)
      | inr le ↦ subst (λ (t : List ℕ). IsImageText t image) (f ∙ take_all (limit + 1) bytes (omega (arith, le))) found
    ]

pub file_found : (told : Option (List ℕ)) (read : List ℕ) (parsed : Result Image (ParseError ImageFault)) (r : Result Image (FileError ImageFault)) → IsFile told (limit + 1) read → Gives (λ i. i) parsed (image_of read) → IfOk parsed (λ image. IsImageText read image)
    → r ≡ widened parsed → FileFound IsImageText (λ i. i) told r
file_found None read parsed r f h found e = tt
file_found (Some bytes) read parsed r f h found e = subst (λ (x : Result Image (FileError ImageFault)). IfOk x (λ image. IsImageText bytes image)) (sym e) (found_of bytes read parsed f h found)

-- an image of either version has a text in version 2
pub newer : (version : ℕ) (image : Image) → IsImage version image → IsImage 2 image
newer version image is = record {
  shape = is.shape;
  cores = omega (arith, is.cores, few_cores version);
  starts = is.starts;
  aligned = is.aligned;
  few = is.few;
  segments = is.segments;
}

pub parsed_valid : (read : List ℕ) (parsed : Result Image (ParseError ImageFault)) → IfOk parsed (λ image. IsImageText read image) → IfOk parsed (IsImage 2)
parsed_valid read (Ok image) found = newer found.version image found.is_image
parsed_valid read (Err error) found = tt
