-- Labels, names and operands of a line, as functions of its bytes. All of it is this project's own.
use Rattle.std.specs.Prelude.{ℕ, Bool, true, false, ◌==◌, ◌||◌, ◌&&◌, not, nat_le, if◌then◌else◌, List, [], ◌∷◌, map, drop, Option, Some, None}
use Rattle.std.specs.List.{list_all, position_or_len, before_first, slice_split}
use Rattle.std.specs.Option.{is_none}
use Rattle.text_in.specs.Bytes.{is_blank, is_solid, is_no_space, is_comma, is_name_start, is_name_byte, ends_name}
use Rattle.text_in.specs.Cuts.{from_first, trimmed, before_comment}
use Rattle.rv_asm.specs.Names.{named}

-- ---- parts of a line

-- the byte behind a label
abbrev pub is_colon : ℕ → Bool
is_colon b = b == 58

-- what a line says: without its comment, and without blanks at its start and at its end
abbrev pub body_of : List ℕ → List ℕ
body_of line = trimmed is_solid (before_comment line)

-- a letter or an underscore comes next
abbrev pub begins_label : List ℕ → Bool
begins_label [] = false
begins_label (b ∷ bs) = is_name_start b

-- the word has the form of a label, and is no name of a statement
abbrev pub is_label : List ℕ → Bool
is_label word = begins_label word && list_all is_name_byte word && is_none (named word)

-- a colon comes next
abbrev pub begins_colon : List ℕ → Bool
begins_colon [] = false
begins_colon (b ∷ bs) = is_colon b

-- the bytes at the start that a label may have
abbrev pub label_bytes : List ℕ → List ℕ
label_bytes body = before_first ends_name body

-- the text from the first byte on that no label has
abbrev pub behind_label_bytes : List ℕ → List ℕ
behind_label_bytes body = from_first ends_name body

-- the line begins with a label, right behind which a colon stands
abbrev pub has_label : List ℕ → Bool
has_label body = is_label (label_bytes body) && begins_colon (behind_label_bytes body)

-- the label of a line
abbrev pub label_of : List ℕ → Option (List ℕ)
label_of body = if has_label body then Some (label_bytes body) else None

-- the statement of a line, which stands behind the colon and blanks; without a label it is all that the line says
abbrev pub statement_text : List ℕ → List ℕ
statement_text body = if has_label body then from_first is_solid (drop 1 (behind_label_bytes body)) else body

-- ---- parts of a statement

-- the first word of a statement
abbrev pub name_word : List ℕ → List ℕ
name_word statement = before_first is_blank statement

-- what stands behind the first word and blanks
abbrev pub operands_text : List ℕ → List ℕ
operands_text statement = from_first is_solid (from_first is_blank statement)

-- what commas part, without the spaces round it
unfoldable pub parts_of : List ℕ → List (List ℕ)
parts_of text = map (trimmed is_no_space) (slice_split is_comma text)

-- the operands, which commas part; none where there is nothing
abbrev pub operands_of : List ℕ → List (List ℕ)
operands_of [] = []
operands_of (b ∷ bs) = parts_of (b ∷ bs)
