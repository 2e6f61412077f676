-- What a reader of bytes answers, where reading gives exactly what is in the grammar.
use Rattle.std.proofs.Common.{◌≡◌, Result, Ok, Err, subst}
use Rattle.std.specs.Prelude.{IfOk}
use Rattle.reader_answers.specs.declared.errors.ParseError.{ParseError}
use Rattle.reader_answers.specs.Answers.{Gives}

pub found_if : {X Y F : Type 0} (IsText : Y → Type 0) (view : X → Y) (read : Result Y F) → ((y : Y) → read ≡ Ok y → IsText y)
    → (r : Result X (ParseError F)) → Gives view r read → IfOk r (λ x. IsText (view x))
found_if IsText view read found (Ok x) gives = found (view x) gives
found_if IsText view read found (Err error) gives = tt

pub only_if : {X Y F : Type 0} (IsText : Y → Type 0) (view : X → Y) (read : Result Y F) → ((y : Y) → IsText y → read ≡ Ok y)
    → (r : Result X (ParseError F)) → Gives view r read → (y : Y) → IsText y → Gives view r (Ok y)
only_if {X} {Y} {F} IsText view read only r gives y is = subst (λ (other : Result Y F). Gives view r other) (only y is) gives
