-- Bytes that are told are one image, and one script.
use Rattle.std.proofs.Common.{◌≡◌, ℕ, List, Option, Some, None, Result, Ok, sym, ◌∙◌}
use Rattle.std.specs.Prelude.{IfSome, IsSome}
use Rattle.mon_types.specs.declared.image.Image.{Image}
use Rattle.mon_types.specs.declared.script.Line.{Line}
use Rattle.image_read.specs.Grammar.{IsImageText}
use Rattle.image_read.specs.declared.fault.ImageFault.{ImageFault}
use Rattle.image_read.proofs.Again.{image_again}
use Rattle.script_read.specs.Grammar.{IsScript}
use Rattle.script_read.specs.declared.fault.ScriptFault.{ScriptFault}
use Rattle.script_read.proofs.ScriptLaws.{script_is}

abbrev read_image : Image → Result Image ImageFault
read_image image = Ok image

one_image : (first second : Image) → read_image first ≡ read_image second → first ≡ second
one_image first second e = cc

pub same_image : (told : Option (List ℕ)) (first second : Image) → IsSome told → IfSome told (λ bytes. IsImageText bytes first) → IfSome told (λ bytes. IsImageText bytes second) → first ≡ second
same_image None first second some f s = absurd cc
same_image (Some bytes) first second some f s = one_image first second (sym (image_again bytes first f) ∙ image_again bytes second s)

abbrev read_script : List (List Line) → Result (List (List Line)) ScriptFault
read_script script = Ok script

one_script : (first second : List (List Line)) → read_script first ≡ read_script second → first ≡ second
one_script first second e = cc

pub same_script : (told : Option (List ℕ)) (cores : Option ℕ) (first second : List (List Line)) → IsSome told → IfSome told (λ bytes. IsScript cores bytes first) → IfSome told (λ bytes. IsScript cores bytes second) → first ≡ second
same_script None cores first second some f s = absurd cc
same_script (Some bytes) cores first second some f s = one_script first second (sym (script_is cores bytes first f) ∙ script_is cores bytes second s)
