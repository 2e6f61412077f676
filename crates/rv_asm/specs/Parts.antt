-- What the parts of the assembler's code say of bytes and maps, this project's own.
use Rattle.std.specs.Prelude.{◌≡◌, ◌≤◌, ℕ, ◌+◌, Bool, List, [], ◌∷◌, ◌++◌, Option, Some, None, Result, Ok, Err, ⊤}
use Rattle.std.specs.Borrow.{Bor}
use Rattle.std.specs.Option.{option_or}
use Rattle.std.specs.Ordering.{nat_cmp}
use Rattle.std.specs.Cmp.Lexicographic.{slice_cmp}
use Rattle.std.specs.BTreeMap.{BTreeMap, get_by}
use Rattle.rv_asm.specs.declared.label.Spot.{Spot}
use Rattle.rv_asm.specs.Text.{parts_of}
use Rattle.rv_asm.specs.declared.statement.Statement.{Statement}
use Rattle.rv_asm.specs.Statements.{Spots, FitsStatement}
use Rattle.rv_asm.specs.Reading.{size_of, AreWordsOf, spot_in}

-- the parts that are left behind a comma, where there was one
abbrev pub parts_behind : Option (Bor (List ℕ)) → List (List ℕ)
parts_behind None = []
parts_behind (Some text) = parts_of text.now

-- where a map has labels
abbrev pub spots_in : BTreeMap (Bor (List ℕ)) Spot → Spots
spots_in labels name = get_by (λ k. slice_cmp nat_cmp name k.now) labels

-- each label stands where it stood, and where it stood nowhere, where this one does if it is this one
abbrev pub IsKept : Spots → Spots → List ℕ → Spot → Type 0
IsKept old new name spot = (other : List ℕ) → new other ≡ option_or (old other) (spot_in ((name, spot) ∷ []) other)

-- a line whose statement, where it has one, has words, behind so many words of at most limit
abbrev pub IsLine : ℕ → ℕ → Option Statement → Type 0
IsLine limit words None = ⊤
IsLine limit words (Some statement) = FitsStatement statement × (words + size_of statement ≤ limit)

-- the words of the statement stand behind those that were there
abbrev pub IsPushed : Statement → List ℕ → List ℕ → Type 0
IsPushed statement old new = (words : List ℕ) × AreWordsOf statement words × (new ≡ old ++ words)

-- what was read, seen by view, or the same error
abbrev pub viewed : {X Y E : Type 0} → (X → Y) → Result X E → Result Y E
viewed view (Ok x) = Ok (view x)
viewed view (Err error) = Err error
