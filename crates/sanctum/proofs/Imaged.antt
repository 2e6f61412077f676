-- From the answers of the reader of images to those of the program.
use Rattle.std.proofs.Common.{◌≡◌, ℕ, List, Option, Some, None, Result, Ok, Err, refl, subst, inl}
use Rattle.std.specs.Prelude.{IfSome}
use Rattle.sm_ports.specs.declared.failed.Failed.{Failed}
use Rattle.mon_types.specs.declared.image.Image.{Image}
use Rattle.reader_answers.specs.declared.errors.FileError.{FileError}
use Rattle.reader_answers.specs.declared.errors.FileError.TheVariants as errors
use Rattle.reader_answers.specs.Answers.{FileOnly, FileExact}
use Rattle.image_read.specs.declared.fault.ImageFault.{ImageFault}
use Rattle.image_read.specs.Grammar.{IsImageText}
use Rattle.image_read.specs.Reading.{image_of}
use Rattle.sanctum.specs.Commands.{Origin, Run, Solo, Convert, IsNamed}
use Rattle.sanctum.specs.Sources.{Files, HasFirstImageFault, IsOriginFault}
use Rattle.sanctum.specs.Refused.{refused_image}
use Rattle.sanctum.specs.Causes.{IsReason}
use Rattle.sanctum.proofs.Told.{named_one, named_first}

-- results of reading
abbrev no_image : FileError ImageFault → Result Image (FileError ImageFault)
no_image error = Err error

abbrev faulty : ImageFault → Result Image ImageFault
faulty fault = Err fault

abbrev good : Image → Result Image ImageFault
good image = Ok image

not_both : (image : Image) (fault : ImageFault) → good image ≡ faulty fault → ⊥
not_both image fault e = cc

first_fault : (told : Option (List ℕ)) (fault : ImageFault) → FileOnly IsImageText (λ i. i) told (no_image (errors.Fault fault)) → FileExact image_of (λ i. i) told (no_image (errors.Fault fault)) → IfSome told (λ bytes. HasFirstImageFault bytes fault)
first_fault None fault only exact = tt
first_fault (Some bytes) fault only exact = record { first = exact; outside = λ image is. not_both image fault (only image is) }

-- a fault that was answered is the first one
pub image_fault : (told : Option (List ℕ)) (r : Result Image (FileError ImageFault)) (fault : ImageFault) → FileOnly IsImageText (λ i. i) told r → FileExact image_of (λ i. i) told r → r ≡ no_image (errors.Fault fault) → IfSome told (λ bytes. HasFirstImageFault bytes fault)
image_fault told r fault only exact is =
    first_fault told fault (subst (λ (x : Result Image (FileError ImageFault)). FileOnly IsImageText (λ i. i) told x) is only) (subst (λ (x : Result Image (FileError ImageFault)). FileExact image_of (λ i. i) told x) is exact)

-- ---- an image that was not read is a reason

-- what the error of reading an image says: its fault is that of the image, and a failure is the file's
pub record IsUnread (files : Files) (rose : List ℕ → Type 0) (origin : Origin) (error : FileError ImageFault) : Type 0 where
  pub fault : (fault : ImageFault) → no_image error ≡ no_image (errors.Fault fault) → IsOriginFault files origin fault
  pub read : (failed : Failed) → no_image error ≡ no_image (errors.Read failed) → IsNamed rose origin

pub convert_refused : (files : Files) (rose : List ℕ → Type 0) (origin : Origin) (error : FileError ImageFault) → IsUnread files rose origin error → IsReason (Convert origin) files rose (refused_image error)
convert_refused files rose origin (errors.Fault fault) u = u.fault fault refl
convert_refused files rose origin (errors.Read failed) u = named_one rose origin (u.read failed refl)
convert_refused files rose origin errors.Memory u = tt

pub run_without_image : (files : Files) (rose : List ℕ → Type 0) (origin : Origin) (name : List ℕ) (error : FileError ImageFault) → IsUnread files rose origin error → IsReason (Run origin name) files rose (refused_image error)
run_without_image files rose origin name (errors.Fault fault) u = u.fault fault refl
run_without_image files rose origin name (errors.Read failed) u = named_first rose origin name (u.read failed refl)
run_without_image files rose origin name errors.Memory u = tt

pub solo_without_image : (files : Files) (rose : List ℕ → Type 0) (origin : Origin) (name : List ℕ) (error : FileError ImageFault) → IsUnread files rose origin error → IsReason (Solo origin name) files rose (refused_image error)
solo_without_image files rose origin name (errors.Fault fault) u = inl (u.fault fault refl)
solo_without_image files rose origin name (errors.Read failed) u = named_first rose origin name (u.read failed refl)
solo_without_image files rose origin name errors.Memory u = tt
