-- What a depot's files hold and what a sink has taken, where that is told. All of it is this project's own.
use Rattle.std.specs.Prelude.{◌≡◌, ℕ, ◌<◌, ◌≤◌, List, [], length, take, drop, Option, Some, None, Result, IfOk, MatchResult, ⊤}
use Rattle.std.specs.Io.KnownBytes.{Appends, Keeps}

-- the first n bytes of `into` are the file's bytes from the place `at`; none only at or past the file's
-- end, or where there was no room
pub record IsPieceOf (bytes : List ℕ) (at n : ℕ) (into : List ℕ) : Type 0 where
  pub same : take n into ≡ take n (drop at bytes)
  pub there : n ≤ length (drop at bytes)
  pub end : n ≡ 0 → 0 < length into → drop at bytes ≡ []

-- a read at the place `at` that answers Ok(n) gave n bytes of the file, where the file is told
abbrev pub ReadsAt : {E : Type 0} → Option (List ℕ) → ℕ → Result ℕ E → List ℕ → Type 0
ReadsAt None at result into = ⊤
ReadsAt (Some bytes) at result into = IfOk result (λ n. IsPieceOf bytes at n into)

-- a list of bytes is how the file begins, where the file is told
abbrev pub IsPrefix : Option (List ℕ) → List ℕ → Type 0
IsPrefix None prefix = ⊤
IsPrefix (Some bytes) prefix = prefix ≡ take (length prefix) bytes

-- a list of bytes is the whole file, cut off after `limit` bytes, where the file is told
abbrev pub IsFile : Option (List ℕ) → ℕ → List ℕ → Type 0
IsFile None limit read = ⊤
IsFile (Some bytes) limit read = read ≡ take limit bytes

-- a sink took the first n bytes of a piece, and at least one where the piece has any
pub record TakesSome (before after : Option (List ℕ)) (n : ℕ) (piece : List ℕ) : Type 0 where
  pub bytes : Appends before after (take n piece)
  pub within : n ≤ length piece
  pub some : 0 < length piece → 0 < n

-- a put that answers Ok(n) took n bytes of the piece, and one that fails took nothing
abbrev pub Puts : {E : Type 0} → Option (List ℕ) → Option (List ℕ) → Result ℕ E → List ℕ → Type 0
Puts before after result piece = MatchResult result (λ n. TakesSome before after n piece) (λ _. Keeps before after)

-- a sink took the beginning of a text, and not all of it
abbrev pub AppendsPart : Option (List ℕ) → Option (List ℕ) → List ℕ → Type 0
AppendsPart before after text = (n : ℕ) × (n < length text) × Appends before after (take n text)
