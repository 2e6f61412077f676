-- Reading one thing after the other, up to the first fault. This project's own.
use Rattle.std.specs.Prelude.{Result, Ok, Err}

-- goes on with what was read, or keeps the fault
infixl 10 ◌>>=◌
abbrev pub ◌>>=◌ : {A B F : Type 0} → Result A F → (A → Result B F) → Result B F
(Ok x) >>= f = f x
(Err fault) >>= f = Err fault
