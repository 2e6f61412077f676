-- Words of a text, with blanks between them: which ones it has, as a function of its bytes and as a relation that knows
-- nothing of reading. All of it is this project's own.
use Rattle.std.specs.Prelude.{◌≡◌, ℕ, ◌<◌, Bool, true, false, filter, List, [], ◌∷◌, ◌++◌, length, Option, Some, None}
use Rattle.std.specs.List.{slice_split}
use Rattle.std.specs.Borrow.{Bor}
use Rattle.text_in.specs.Bytes.{is_blank, is_solid, Are, begins}

-- ---- as a function

-- there are bytes in the piece
abbrev pub is_word : List ℕ → Bool
is_word [] = false
is_word (b ∷ bs) = true

-- the words: what stands between one blank and the next, where that is something
unfoldable pub words_of : List ℕ → List (List ℕ)
words_of text = filter is_word (slice_split is_blank text)

-- the first word of the text and what stands behind it, which is shorter, or that there is no word
abbrev pub IsNextWord : List ℕ → Option (Bor (List ℕ) × Bor (List ℕ)) → Type 0
IsNextWord text None = words_of text ≡ []
IsNextWord text (Some found) =
    (words_of text ≡ found.0.now ∷ words_of found.1.now) × (length found.1.now < length text)

-- ---- as a relation

-- the text is blanks, then the word, which has bytes and no blank among them, and then the rest, which begins with a
-- blank where there is any
pub record IsFirstWord (text word rest : List ℕ) : Type 0 where
  pub blanks : List ℕ
  pub are_blank : Are is_blank blanks
  pub some : 0 < length word
  pub solid : Are is_solid word
  pub apart : begins is_blank rest ≡ true
  pub text_is : text ≡ blanks ++ (word ++ rest)

-- the text is these words, with blanks between them, and round them where there are any
abbrev pub AreWords : List ℕ → List (List ℕ) → Type 0
AreWords text [] = Are is_blank text
AreWords text (word ∷ words) = (rest : List ℕ) × IsFirstWord text word rest × AreWords rest words
