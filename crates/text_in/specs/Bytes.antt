-- Bytes of a text, and tests of them. All of it is this project's own.
use Rattle.std.specs.Prelude.{◌≡◌, ℕ, Bool, true, ◌==◌, ◌||◌, ◌&&◌, not, nat_le, List, [], ◌∷◌}
use Rattle.std.specs.List.{list_all}

-- ---- one byte

-- the byte that ends a line
abbrev pub is_line_feed : ℕ → Bool
is_line_feed b = b == 10

-- the byte that may stand before a line feed, and is then no part of the line
abbrev pub is_return : ℕ → Bool
is_return b = b == 13

-- a byte that does not end the line
abbrev pub is_in_line : ℕ → Bool
is_in_line b = not (is_line_feed b)

-- the byte that begins a comment
abbrev pub is_number_sign : ℕ → Bool
is_number_sign b = b == 35

-- a byte that begins no comment
abbrev pub is_no_sign : ℕ → Bool
is_no_sign b = not (is_number_sign b)

-- a space or a tab
abbrev pub is_blank : ℕ → Bool
is_blank b = b == 32 || b == 9

-- a byte that is no blank
abbrev pub is_solid : ℕ → Bool
is_solid b = not (is_blank b)

-- a space
abbrev pub is_space : ℕ → Bool
is_space b = b == 32

-- a byte that is no space
abbrev pub is_no_space : ℕ → Bool
is_no_space b = not (is_space b)

-- a space, a tab, a return or a line feed
abbrev pub is_gap : ℕ → Bool
is_gap b = is_blank b || is_return b || is_line_feed b

-- a byte that is no gap
abbrev pub is_no_gap : ℕ → Bool
is_no_gap b = not (is_gap b)

-- a star
abbrev pub is_star : ℕ → Bool
is_star b = b == 42

-- a comma
abbrev pub is_comma : ℕ → Bool
is_comma b = b == 44

-- a byte that is no comma
abbrev pub is_no_comma : ℕ → Bool
is_no_comma b = not (is_comma b)

-- an opening parenthesis
abbrev pub is_open : ℕ → Bool
is_open b = b == 40

-- a letter or an underscore, which may begin a name
abbrev pub is_name_start : ℕ → Bool
is_name_start b = (nat_le 65 b && nat_le b 90) || (nat_le 97 b && nat_le b 122) || b == 95

-- a byte of a name: one that may begin it, or a decimal digit
abbrev pub is_name_byte : ℕ → Bool
is_name_byte b = is_name_start b || (nat_le 48 b && nat_le b 57)

-- a byte that no name has
abbrev pub ends_name : ℕ → Bool
ends_name b = not (is_name_byte b)

-- ---- the bytes of a text

-- each byte passes
abbrev pub Are : (ℕ → Bool) → List ℕ → Type 0
Are test bytes = list_all test bytes ≡ true

-- the first byte passes, where there is one
abbrev pub begins : (ℕ → Bool) → List ℕ → Bool
begins test [] = true
begins test (b ∷ bs) = test b

-- the last byte passes, where there is one
abbrev pub ends : (ℕ → Bool) → List ℕ → Bool
ends test [] = true
ends test (b ∷ []) = test b
ends test (b ∷ c ∷ bs) = ends test (c ∷ bs)
