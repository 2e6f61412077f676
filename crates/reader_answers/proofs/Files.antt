-- What a reader of files answers: it reads one byte past the limit, which tells as much as the whole file.
use Rattle.std.proofs.Common.{◌≡◌, ℕ, ◌+◌, ◌<◌, List, length, Option, Some, None, Result, Ok, Err, sym, ap, subst, ◌∙◌}
use Rattle.std.specs.Prelude.{IfOk}
use Rattle.sm_ports.specs.Contents.{IsFile}
use Rattle.reader_answers.specs.declared.errors.ParseError.{ParseError}
use Rattle.reader_answers.specs.declared.errors.ParseError.TheVariants as errors
use Rattle.reader_answers.specs.declared.errors.FileError.{FileError}
use Rattle.reader_answers.specs.Answers.{Gives, FileGives, FileFound, FileOnly, FileExact, widened}
use Rattle.reader_answers.proofs.Cut.{cut_same}

widened_gives : {X Y F : Type 0} (view : X → Y) (parsed : Result X (ParseError F)) (read : Result Y F) → Gives view parsed read
    → FileGives view (widened parsed) read
widened_gives view (Ok x) read gives = gives
widened_gives view (Err errors.Memory) read gives = tt
widened_gives view (Err (errors.Fault fault)) read gives = gives

-- every text over the limit is read as the same fault
pub file_exact : {X Y F : Type 0} (reading : List ℕ → Result Y F) (view : X → Y) (long : F) (limit : ℕ)
    → ((text : List ℕ) → limit < length text → reading text ≡ Err long)
    → (told : Option (List ℕ)) (read : List ℕ) (parsed : Result X (ParseError F)) (r : Result X (FileError F)) → IsFile told (limit + 1) read
    → Gives view parsed (reading read) → r ≡ widened parsed → FileExact reading view told r
file_exact reading view long limit too_long None read parsed r file gives is = tt
file_exact {X} {Y} {F} reading view long limit too_long (Some bytes) read parsed r file gives is =
    let same : reading read ≡ reading bytes = ap reading file ∙ cut_same reading (Err long) limit bytes too_long in
    subst (λ (x : Result X (FileError F)). FileGives view x (reading bytes)) (sym is)
    (widened_gives view parsed (reading bytes) (subst (λ (x : Result Y F). Gives view parsed x) same gives))

ok_found : {X Y F : Type 0} (IsText : Y → Type 0) (view : X → Y) (read : Result Y F) → ((y : Y) → read ≡ Ok y → IsText y)
    → (r : Result X (FileError F)) → FileGives view r read → IfOk r (λ x. IsText (view x))
ok_found IsText view read found (Ok x) gives = found (view x) gives
ok_found IsText view read found (Err error) gives = tt

pub file_found : {X Y F : Type 0} (IsText : List ℕ → Y → Type 0) (reading : List ℕ → Result Y F) (view : X → Y)
    → ((bytes : List ℕ) (y : Y) → reading bytes ≡ Ok y → IsText bytes y)
    → (told : Option (List ℕ)) (r : Result X (FileError F)) → FileExact reading view told r → FileFound IsText view told r
file_found IsText reading view found None r exact = tt
file_found IsText reading view found (Some bytes) r exact = ok_found (IsText bytes) view (reading bytes) (found bytes) r exact

pub file_only : {X Y F : Type 0} (IsText : List ℕ → Y → Type 0) (reading : List ℕ → Result Y F) (view : X → Y)
    → ((bytes : List ℕ) (y : Y) → IsText bytes y → reading bytes ≡ Ok y)
    → (told : Option (List ℕ)) (r : Result X (FileError F)) → FileExact reading view told r → FileOnly IsText view told r
file_only IsText reading view only None r exact = tt
file_only {X} {Y} {F} IsText reading view only (Some bytes) r exact = λ y is.
    subst (λ (x : Result Y F). FileGives view r x) (only bytes y is) exact

-- ---- what the reader of bytes keeps

kept : {X F : Type 0} (P : X → Type 0) (parsed : Result X (ParseError F)) → IfOk parsed P → IfOk (widened parsed) P
kept P (Ok x) holds = holds
kept P (Err errors.Memory) holds = tt
kept P (Err (errors.Fault fault)) holds = tt

-- what holds of each value that the reader of bytes gives holds of those of the reader of files
pub file_keeps : {X F : Type 0} (P : X → Type 0) (parsed : Result X (ParseError F)) (r : Result X (FileError F)) → IfOk parsed P → r ≡ widened parsed
    → IfOk r P
file_keeps {X} {F} P parsed r holds is = subst (λ (x : Result X (FileError F)). IfOk x P) (sym is) (kept P parsed holds)
