-- What a reader answers, beside what reading gives: F says what may be wrong with the bytes, X is what the reader makes
-- of them, and view what of that the definition speaks of. All of it is this project's own.
use Rattle.std.specs.Prelude.{◌≡◌, ℕ, List, Option, Result, Ok, Err, IfSome, IfOk, ⊤}
use Rattle.reader_answers.specs.declared.errors.ParseError.{ParseError}
use Rattle.reader_answers.specs.declared.errors.ParseError.TheVariants as errors
use Rattle.reader_answers.specs.declared.errors.FileError.{FileError}
use Rattle.reader_answers.specs.declared.errors.FileError.TheVariants as outer

-- ---- a reader of bytes

-- the error is the fault that reading gives, unless memory ran out
abbrev pub Fails : {Y F : Type 0} → ParseError F → Result Y F → Type 0
Fails errors.Memory read = ⊤
Fails (errors.Fault fault) read = read ≡ Err fault

-- the answer, seen by view, is what reading gives, unless memory ran out
abbrev pub Gives : {X Y F : Type 0} → (X → Y) → Result X (ParseError F) → Result Y F → Type 0
Gives view (Ok x) read = read ≡ Ok (view x)
Gives view (Err error) read = Fails error read

-- ---- a reader of files

-- the error is the fault that reading the file gives, unless memory ran out or the depot failed
abbrev pub FileFails : {Y F : Type 0} → FileError F → Result Y F → Type 0
FileFails outer.Memory read = ⊤
FileFails (outer.Read failed) read = ⊤
FileFails (outer.Fault fault) read = read ≡ Err fault

-- the answer, seen by view, is what reading the file gives, unless memory ran out or the depot failed
abbrev pub FileGives : {X Y F : Type 0} → (X → Y) → Result X (FileError F) → Result Y F → Type 0
FileGives view (Ok x) read = read ≡ Ok (view x)
FileGives view (Err error) read = FileFails error read

-- the error of a reader of bytes, as that of a reader of files
abbrev pub widened_error : {F : Type 0} → ParseError F → FileError F
widened_error errors.Memory = outer.Memory
widened_error (errors.Fault fault) = outer.Fault fault

-- the same answer of a reader of bytes, as that of a reader of files
abbrev pub widened : {X F : Type 0} → Result X (ParseError F) → Result X (FileError F)
widened (Ok x) = Ok x
widened (Err error) = Err (widened_error error)

-- what is read of a file, seen by view, is in the grammar, where its bytes are told
abbrev pub FileFound : {X Y F : Type 0} → (List ℕ → Y → Type 0) → (X → Y) → Option (List ℕ) → Result X (FileError F) → Type 0
FileFound IsText view told result = IfSome told (λ bytes. IfOk result (λ x. IsText bytes (view x)))

-- a file that is in the grammar is read as what it is, unless memory ran out or the depot failed
abbrev pub FileOnly : {X Y F : Type 0} → (List ℕ → Y → Type 0) → (X → Y) → Option (List ℕ) → Result X (FileError F) → Type 0
FileOnly {X} {Y} IsText view told result = IfSome told (λ bytes. (y : Y) → IsText bytes y → FileGives view result (Ok y))

-- the answer is what reading the file's bytes gives, with its first fault, unless memory ran out or the depot failed
abbrev pub FileExact : {X Y F : Type 0} → (List ℕ → Result Y F) → (X → Y) → Option (List ℕ) → Result X (FileError F) → Type 0
FileExact reading view told result = IfSome told (λ bytes. FileGives view result (reading bytes))
