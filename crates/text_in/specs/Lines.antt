-- Lines and comments of a text: which ones it has, as a function of its bytes and as a relation that knows nothing of
-- reading. All of it is this project's own.
use Rattle.std.specs.Prelude.{◌≡◌, ℕ, ◌<◌, ◌⊎◌, Bool, false, ◌&&◌, if◌then◌else◌, List, [], ◌∷◌, ◌++◌, length, ⊤}
use Rattle.text_in.specs.Bytes.{is_line_feed, is_return, is_in_line, Are}

-- ---- as a function

-- the byte is put before the first piece
abbrev pub onto : ℕ → List (List ℕ) → List (List ℕ)
onto b [] = (b ∷ []) ∷ []
onto b (piece ∷ pieces) = (b ∷ piece) ∷ pieces

-- a line feed comes next
abbrev pub begins_line_feed : List ℕ → Bool
begins_line_feed [] = false
begins_line_feed (b ∷ bs) = is_line_feed b

-- the lines of a text: a line feed ends each, and a return right before it is dropped; at the end of the text the line
-- feed may be missing
unfoldable pub lines_of : List ℕ → List (List ℕ)
lines_of [] = []
lines_of (b ∷ bs) =
    if is_line_feed b then [] ∷ lines_of bs
    else if is_return b && begins_line_feed bs then lines_of bs
    else onto b (lines_of bs)

-- a line without the return at its end
abbrev pub without_return : List ℕ → List ℕ
without_return [] = []
without_return (b ∷ []) = if is_return b then [] else b ∷ []
without_return (b ∷ c ∷ bs) = b ∷ without_return (c ∷ bs)

-- ---- as a relation

-- the last byte is a return
abbrev pub ends_in_return : List ℕ → Bool
ends_in_return [] = false
ends_in_return (b ∷ []) = is_return b
ends_in_return (b ∷ c ∷ bs) = ends_in_return (c ∷ bs)

-- the text is the line, which has no line feed, then its end, and then the rest; a return right before the line feed is
-- part of the end, and not of the line
pub record IsFirstLine (text line rest : List ℕ) : Type 0 where
  pub end : List ℕ
  pub in_line : Are is_in_line line
  pub is_end : ((end ≡ 10 ∷ []) × (ends_in_return line ≡ false)) ⊎ (end ≡ 13 ∷ 10 ∷ [])
  pub text_is : text ≡ line ++ (end ++ rest)

-- the text is one line that no line feed ends, the last one
pub record IsLastLine (text line : List ℕ) (lines : List (List ℕ)) : Type 0 where
  pub in_line : Are is_in_line line
  pub some : 0 < length line
  pub text_is : text ≡ line
  pub last : lines ≡ []

-- the text is these lines
abbrev pub AreTextLines : List ℕ → List (List ℕ) → Type 0
AreTextLines text [] = text ≡ []
AreTextLines text (line ∷ lines) =
    ((rest : List ℕ) × IsFirstLine text line rest × AreTextLines rest lines) ⊎ IsLastLine text line lines

-- nothing, or a number sign and whatever follows
abbrev pub IsComment : List ℕ → Type 0
IsComment [] = ⊤
IsComment (b ∷ bs) = b ≡ 35
