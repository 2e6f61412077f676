-- Files that are told and good have no fault under `run` and `solo`.
use Rattle.std.proofs.Common.{◌≡◌, ℕ, List, [], ◌∷◌, ◌++◌, length, Option, Some, None, refl, sym, ap, subst, ◌∙◌}
use Rattle.std.specs.Prelude.{IfSome, IsSome, All}
use Rattle.mon_types.specs.declared.image.Image.{Image}
use Rattle.mon_types.specs.declared.script.Line.{Line}
use Rattle.image_read.specs.Grammar.{IsImageText}
use Rattle.image_read.specs.declared.fault.ImageFault.{ImageFault}
use Rattle.script_read.specs.Grammar.{IsScript}
use Rattle.script_read.specs.declared.fault.ScriptFault.{ScriptFault}
use Rattle.sanctum.specs.Commands.{Origin, Plain, File, named_by}
use Rattle.sanctum.specs.Sources.{Files, IsImageOf, IsOriginFault, HasFirstImageFault, plain_image}
use Rattle.sanctum.specs.Runs.{cores_given, IsRun, HasFirstFault, HasScriptFault, IsNotBuilt, HasOtherCores}
use Rattle.sanctum.proofs.Told.{only_told, first_told, second_told, refuted}
use Rattle.sanctum.proofs.Same.{same_image, same_script}

-- the files of both commands
abbrev AreBothTold : Files → Origin → List ℕ → Type 0
AreBothTold files origin name = All (λ n. IsSome (files n)) (named_by origin ++ name ∷ [])

script_told : (files : Files) (origin : Origin) (name : List ℕ) → AreBothTold files origin name → IsSome (files name)
script_told files Plain name told = only_told files name told
script_told files (File image) name told = second_told files image name told

pub run_no_image_fault : (asked : Option ℕ) (files : Files) (origin : Origin) (name : List ℕ) (image : Image) (script : List (List Line)) (fault : ImageFault) → AreBothTold files origin name → IsRun asked files origin name image script
    → IsOriginFault files origin fault → ⊥
run_no_image_fault asked files Plain name image script fault told run f = f
run_no_image_fault asked files (File origin) name image script fault told run f =
    refuted (files origin) (λ bytes. HasFirstImageFault bytes fault) (λ bytes. IsImageText bytes image) (first_told files origin name told) f run.image_is (λ bytes h is. h.outside image is)

-- images that are named with a count of cores are of one count of cores in the script
same_given : (asked : Option ℕ) (files : Files) (origin : Origin) (name : List ℕ) (first second : Image) (one two : ℕ) → AreBothTold files origin name → IsImageOf files one origin first → IsImageOf files two origin second
    → cores_given asked origin first ≡ cores_given asked origin second
same_given asked files Plain name first second one two told f s = refl
same_given asked files (File origin) name first second one two told f s = ap (λ (i : Image). Some i.config.cores) (same_image (files origin) first second (first_told files origin name told) f s)

pub run_no_script_fault : (asked : Option ℕ) (files : Files) (origin : Origin) (name : List ℕ) (image : Image) (script : List (List Line)) (fault : ScriptFault) → AreBothTold files origin name → IsRun asked files origin name image script
    → HasScriptFault asked files origin name fault → ⊥
run_no_script_fault asked files origin name image script fault told run f =
    let same = same_given asked files origin name f.image image f.image.config.cores (length script) told f.image_is run.image_is in
    refuted (files name) (λ bytes. HasFirstFault (cores_given asked origin image) bytes fault) (λ bytes. IsScript (cores_given asked origin image) bytes script) (script_told files origin name told)
    (subst (λ (cores : Option ℕ). IfSome (files name) (λ bytes. HasFirstFault cores bytes fault)) same f.first) run.script_is (λ bytes h is. h.outside script is)

-- the images of two runs are one
same_run : (files : Files) (origin : Origin) (name : List ℕ) (first second : Image) (one two : List (List Line)) → AreBothTold files origin name → IsRun None files origin name first one → IsRun None files origin name second two → first ≡ second
same_run files Plain name first second one two told f s =
    f.image_is ∙ ap (λ (script : List (List Line)). plain_image (length script)) (same_script (files name) None one two (only_told files name told) f.script_is s.script_is) ∙ sym s.image_is
same_run files (File origin) name first second one two told f s = same_image (files origin) first second (first_told files origin name told) f.image_is s.image_is

pub run_is_built : (files : Files) (origin : Origin) (name : List ℕ) (image : Image) (script : List (List Line)) (fault : ScriptFault) → AreBothTold files origin name → IsRun None files origin name image script → image.config.cores ≡ 1
    → IsNotBuilt files origin name fault → ⊥
run_is_built files origin name image script fault told run one f =
    f.others (ap (λ (i : Image). i.config.cores) (same_run files origin name f.image image f.script script told f.read run) ∙ one)

plain_has_one : (image : Image) → image ≡ plain_image 1 → image.config.cores ≡ 1
plain_has_one image e = ap (λ (i : Image). i.config.cores) e

pub solo_has_one : (files : Files) (origin : Origin) (name : List ℕ) (image : Image) (script : List (List Line)) (fault : ImageFault) → AreBothTold files origin name → IsRun (Some 1) files origin name image script → HasOtherCores files origin fault → ⊥
solo_has_one files Plain name image script fault told run f = f.others (plain_has_one f.image f.image_is)
solo_has_one files (File origin) name image script fault told run f =
    f.others (ap (λ (i : Image). i.config.cores) (same_image (files origin) f.image image (first_told files origin name told) f.image_is run.image_is) ∙ run.asked_is)
