-- A text of one line in the grammar: a name, and behind a space operands with commas between them.
use Rattle.std.proofs.Common.{◌≡◌, ℕ, ◌≤◌, List, [], ◌∷◌, ◌++◌, length, refl, sym, ap, subst, ◌∙◌, arith, inl, inr, append-nil, append_assoc, lit<, lit≤}
use Rattle.std.specs.Prelude.{None}
use Rattle.std.specs.List.{list_all}
use Rattle.std.proofs.lemmas.List.{length-append}
use Rattle.text_in.specs.Bytes.{is_space, is_no_space}
use Rattle.rv_asm.specs.Reading.{most_bytes}
use Rattle.rv_asm.specs.Grammar.{Label, IsStatement, IsPadded, ArePadded, AreBehind, IsLine, IsText}
use Rattle.text_in.specs.Bytes.{Are}
use Rattle.rv_asm.specs.Printing.{joined, behind}
use Rattle.rv_asm.proofs.Plain.{is_printed, IsPlain, ArePlain, all_begins, all_ends, text_printed, word_has_no_comma, word_has_no_space, text_is_ascii, text_is_in_line, text_has_no_sign, words_begin, text_ends}

-- a word with spaces before it
padded : (before word : List ℕ) → Are is_space before → IsPlain word → IsPadded (before ++ word) word
padded before word spaces h = record {
  before = before;
  after = [];
  are_before = spaces;
  are_after = refl;
  no_comma = word_has_no_comma word h;
  no_first = all_begins is_no_space word (word_has_no_space word h);
  no_last = all_ends is_no_space word (word_has_no_space word h);
  text_is = ap (λ (x : List ℕ). before ++ x) (sym (append-nil word));
}

-- words with commas and spaces between them
operands_padded : (before word : List ℕ) (more : List (List ℕ)) → Are is_space before → ArePlain (word ∷ more) → ArePadded (before ++ joined (word ∷ more)) (word ∷ more)
operands_padded before word [] spaces h = padded before word spaces h.0
operands_padded before word (next ∷ more) spaces h = (
  before ++ word,
  32 ∷ joined (next ∷ more),
  sym (append_assoc before word (44 ∷ 32 ∷ joined (next ∷ more))),
  padded before word spaces h.0,
  operands_padded (32 ∷ []) next more refl h.1,
)

-- nothing, or words behind a space
operands_behind : (words : List (List ℕ)) → ArePlain words → AreBehind (behind words) words
operands_behind [] h = inl (refl, refl)
operands_behind (word ∷ more) h = inr (32 ∷ [], joined (word ∷ more), lit< tt, refl, words_begin word more h.0, refl, operands_padded [] word more refl h)

-- a name and operands as they are printed
pub record IsPrinted (name : List ℕ) (operands : List (List ℕ)) : Type 0 where
  pub name_plain : IsPlain name
  pub operands_plain : ArePlain operands

-- a name and its operands are a line, which is the statement
line_is : (labels : List Label) (words : ℕ) (name : List ℕ) (operands : List (List ℕ)) (made : List ℕ) → IsPrinted name operands → IsStatement labels words name operands made → IsLine labels words (name ++ behind operands) None made
line_is labels words name operands made h statement =
    let bytes : Are is_printed (name ++ behind operands) = text_printed name operands h.name_plain h.operands_plain in
    record {
      before = [];
      body = name ++ behind operands;
      after = [];
      comment = [];
      are_before = refl;
      are_after = refl;
      is_comment = tt;
      ascii = text_is_ascii (name ++ behind operands) bytes;
      no_sign = text_has_no_sign (name ++ behind operands) bytes;
      no_end = text_ends name operands h.name_plain h.operands_plain;
      is_body = inr (name, behind operands, operands, refl, operands_behind operands h.operands_plain, statement);
      line_is = sym (append-nil (name ++ behind operands));
    }

-- an empty list has no label
empty_inside : (front : List Label) (label : Label) (back : List Label) → [] ≡ front ++ label ∷ back → ⊥
empty_inside [] label back e = cc
empty_inside (first ∷ front) label back e = cc

-- a text that is such a line alone
pub text_is : (name : List ℕ) (operands : List (List ℕ)) (text : List ℕ) (word : ℕ) → IsPrinted name operands → IsStatement [] 0 name operands (word ∷ []) → text ≡ name ++ behind operands → length text ≤ most_bytes → IsText 1 text (word ∷ [])
text_is name operands text word h statement is within = record {
  within = within;
  few = lit≤ tt;
  lines = text ∷ [];
  labels = [];
  are_text_lines = inr (record {
    in_line = ap (list_all _) is ∙ text_is_in_line (name ++ behind operands) (text_printed name operands h.name_plain h.operands_plain);
    some = omega (arith, ap length is, length-append name (behind operands), h.name_plain.some);
    text_is = refl;
    last = refl;
  });
  are_lines = (None, word ∷ [], [], [], subst (λ (x : List ℕ). IsLine [] 0 x None (word ∷ [])) (sym is) (line_is [] 0 name operands (word ∷ []) h statement), (refl, refl), refl, refl);
  apart = λ before between after name m n. empty_inside (before ++ (name, m) ∷ between) (name, n) after;
}
