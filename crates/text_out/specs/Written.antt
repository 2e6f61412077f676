-- What was done to a sink by a function that puts a text. All of it is this project's own.
use Rattle.std.specs.Prelude.{ℕ, List, Option, Result, OnOk, OnErr}
use Rattle.std.specs.Io.KnownBytes.{Appends}
use Rattle.sm_ports.specs.Contents.{AppendsPart}

-- the sink took the whole text, or, where the function failed, a proper prefix of it
pub record Writes {T E : Type 0} (before after : Option (List ℕ)) (result : Result T E) (text : List ℕ) : Type 0 where
  pub ok : OnOk result (Appends before after text)
  pub err : OnErr result (AppendsPart before after text)
