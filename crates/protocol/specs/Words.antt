-- The moves on the one list of words, which behaves as the places do. This project's own.
use Rattle.std.specs.Prelude.{◌≡◌, ℕ, ⊤, List, slice_index, slice_set, Option, Some, None}
use Rattle.mon_types.specs.Shape.{Shape}
use Rattle.protocol.specs.declared.action.Move.{Move}
use Rattle.protocol.specs.Places.{Place, HasWord, Memory}
use Rattle.protocol.specs.Moves.{place_of, word_found, leaves, memory_after_move}
use Rattle.protocol.specs.Layout.{place_index, words_of_memory, Holds}

-- a move that acts on a word acts on one of the machine
abbrev pub IsPlaced : Shape → Option Place → Type 0
IsPlaced shape None = ⊤
IsPlaced shape (Some p) = HasWord shape p

-- the word of the list that a move finds; 0 stands for none
unfoldable pub listed_word : Shape → List ℕ → Option Place → ℕ
listed_word shape words None = 0
listed_word shape words (Some p) = slice_index words (place_index shape p)

-- one word of the list may be another, at that place, if there is one
unfoldable pub list_with : Shape → List ℕ → Option Place → ℕ → List ℕ
list_with shape words None word = words
list_with shape words (Some p) word = slice_set words (place_index shape p) word

-- the list after a move
unfoldable pub words_after_move : Shape → ℕ → List ℕ → Move → List ℕ
words_after_move shape mine words move =
    list_with shape words (place_of move) (leaves mine move (listed_word shape words (place_of move)))

-- ---- that the list behaves as the places do

-- whatever stands at the places, there is a list that holds it
abbrev pub ListIsThere : Type 0
ListIsThere = (shape : Shape) (memory : Memory) → Holds shape (words_of_memory shape memory) memory

-- the word that a move finds is the list's
abbrev pub FoundIsListed : Type 0
FoundIsListed =
    (shape : Shape) (words : List ℕ) (memory : Memory) (move : Move)
    → Holds shape words memory → IsPlaced shape (place_of move)
    → listed_word shape words (place_of move) ≡ word_found memory (place_of move)

-- and a move on the list is the move on the places
abbrev pub MoveIsListed : Type 0
MoveIsListed =
    (shape : Shape) (mine : ℕ) (words : List ℕ) (memory : Memory) (move : Move)
    → Holds shape words memory → IsPlaced shape (place_of move)
    → Holds shape (words_after_move shape mine words move) (memory_after_move mine memory move)
