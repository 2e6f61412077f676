-- A text has the words of the grammar, and no others; the first one.
use Rattle.std.proofs.Common.{◌≡◌, ℕ, ◌+◌, ◌<◌, eqb, true, false, List, [], ◌∷◌, ◌++◌, length, refl, sym, ap, ◌∙◌, arith}
use Rattle.std.specs.Prelude.{filter}
use Rattle.std.specs.List.{list_all, onto_first, slice_split, before_first}
use Rattle.std.proofs.lemmas.Bool.{and_parts, not-true, eqb-true, false≢true}
use Rattle.std.proofs.lemmas.List.{append-nil, nil_from_length, length-append}
use Rattle.text_in.specs.Bytes.{is_blank, is_solid, begins}
use Rattle.text_in.specs.Cuts.{from_first}
use Rattle.text_in.specs.Words.{is_word, words_of, IsFirstWord, AreWords}
use Rattle.text_in.proofs.Cuts.{all_other, cut_joins, cut_found}

-- ---- blanks, and a word

pub no_words : words_of [] ≡ []
unfolding words_of
no_words = refl

blanks_then : (blanks rest : List ℕ) → list_all is_blank blanks ≡ true → words_of (blanks ++ rest) ≡ words_of rest
unfolding words_of
blanks_then [] rest h = refl
blanks_then (b ∷ bs) rest h = let p = and_parts (is_blank b) (list_all is_blank bs) h in rw p.0 (blanks_then bs rest p.1)

only_blanks : (text : List ℕ) → list_all is_blank text ≡ true → words_of text ≡ []
only_blanks text all = ap words_of (sym (append-nil text)) ∙ blanks_then text [] all ∙ no_words

-- the pieces of what stands behind a word: an empty one, and those of the further words
record IsBehind (rest : List ℕ) : Type 0 where
  pieces : List (List ℕ)
  is : slice_split is_blank rest ≡ [] ∷ pieces
  words : filter is_word pieces ≡ words_of rest

behind : (rest : List ℕ) → begins is_blank rest ≡ true → IsBehind rest
unfolding words_of
behind [] h = record { pieces = []; is = refl; words = refl }
behind (b ∷ bs) h = record { pieces = slice_split is_blank bs; is = rw h refl; words = rw h refl }

pieces_word : (word rest : List ℕ) (pieces : List (List ℕ)) → list_all is_solid word ≡ true → slice_split is_blank rest ≡ [] ∷ pieces → slice_split is_blank (word ++ rest) ≡ word ∷ pieces
pieces_word [] rest pieces h e = e
pieces_word (b ∷ bs) rest pieces h e =
    let p = and_parts (is_solid b) (list_all is_solid bs) h in
    rw (not-true (is_blank b) p.0) (ap (onto_first b) (pieces_word bs rest pieces p.1 e))

word_then : (word rest : List ℕ) → 0 < length word → list_all is_solid word ≡ true → begins is_blank rest ≡ true → words_of (word ++ rest) ≡ word ∷ words_of rest
unfolding words_of
word_then [] rest lt h k = absurd (omega arith)
word_then (b ∷ bs) rest lt h k =
    let behind_it = behind rest k in
    ap (filter is_word) (pieces_word (b ∷ bs) rest behind_it.pieces h behind_it.is) ∙ ap (λ (ws : List (List ℕ)). (b ∷ bs) ∷ ws) behind_it.words

-- ---- the first word, where a text is cut

-- the blanks before the first word
skipped : (text : List ℕ) → list_all is_blank (before_first is_solid text) ≡ true
skipped text = all_other is_blank (before_first is_solid text) (cut_found is_solid text).0

pub blanks_skipped : (text : List ℕ) → words_of text ≡ words_of (from_first is_solid text)
blanks_skipped text = ap words_of (cut_joins is_solid text) ∙ blanks_then (before_first is_solid text) (from_first is_solid text) (skipped text)

-- no word begins with a blank
some_word : (rest word behind : List ℕ) → 0 < length rest → begins is_solid rest ≡ true → begins is_blank behind ≡ true → rest ≡ word ++ behind → 0 < length word
some_word rest (c ∷ word) behind some solid blank e = omega arith
some_word [] [] behind some solid blank e = absurd (omega arith)
some_word (b ∷ bs) [] [] some solid blank e = absurd cc
some_word (b ∷ bs) [] (c ∷ cs) some solid blank e =
    let same : b ≡ c = cc in
    absurd (false≢true (sym (not-true (is_blank b) solid) ∙ ap is_blank same ∙ blank))

-- the first word of a text that no blank begins
record IsCut (rest word behind : List ℕ) : Type 0 where
  joined : rest ≡ word ++ behind
  some : 0 < length word
  solid : list_all is_solid word ≡ true
  apart : begins is_blank behind ≡ true

word_cut : (rest : List ℕ) → 0 < length rest → begins is_solid rest ≡ true → IsCut rest (before_first is_blank rest) (from_first is_blank rest)
word_cut rest some solid =
    let found = cut_found is_blank rest in
    let joined = cut_joins is_blank rest in
    record {
      joined = joined;
      some = some_word rest (before_first is_blank rest) (from_first is_blank rest) some solid found.1 joined;
      solid = found.0;
      apart = found.1;
    }

word_first : (rest : List ℕ) → 0 < length rest → begins is_solid rest ≡ true → words_of rest ≡ before_first is_blank rest ∷ words_of (from_first is_blank rest)
word_first rest some solid =
    let c = word_cut rest some solid in
    ap words_of c.joined ∙ word_then (before_first is_blank rest) (from_first is_blank rest) c.some c.solid c.apart

-- what is found at the start of a text
pub first_there : (text rest word behind : List ℕ) → rest ≡ from_first is_solid text → eqb (length rest) 0 ≡ false → word ≡ before_first is_blank rest → behind ≡ from_first is_blank rest → words_of text ≡ word ∷ words_of behind
first_there text rest word behind r some w b =
    let there : words_of rest ≡ before_first is_blank rest ∷ words_of (from_first is_blank rest) = word_first rest (grind arith) (rw r (cut_found is_solid text).1) in
    blanks_skipped text ∙ ap words_of (sym r) ∙ there ∙ rw (w, b) refl

pub first_shorter : (text rest word behind : List ℕ) → rest ≡ from_first is_solid text → eqb (length rest) 0 ≡ false → word ≡ before_first is_blank rest → behind ≡ from_first is_blank rest → length behind < length text
first_shorter text rest word behind r some w b =
    let c = word_cut rest (grind arith) (rw r (cut_found is_solid text).1) in
    let whole : length text ≡ length (before_first is_solid text) + length rest = ap length (cut_joins is_solid text) ∙ length-append (before_first is_solid text) (from_first is_solid text) ∙ ap (λ (x : List ℕ). length (before_first is_solid text) + length x) (sym r) in
    let parts : length rest ≡ length (before_first is_blank rest) + length behind = ap length c.joined ∙ length-append (before_first is_blank rest) (from_first is_blank rest) ∙ ap (λ (x : List ℕ). length (before_first is_blank rest) + length x) (sym b) in
    omega (arith, whole, parts, c.some)

pub none_there : (text rest : List ℕ) → rest ≡ from_first is_solid text → eqb (length rest) 0 ≡ true → words_of text ≡ []
none_there text rest r none = blanks_skipped text ∙ ap words_of (sym r ∙ nil_from_length rest (eqb-true _ _ none)) ∙ no_words

-- ---- what is in the grammar

-- a text with these words is read so
pub words_are : (text : List ℕ) (words : List (List ℕ)) → AreWords text words → words_of text ≡ words
words_are text [] h = only_blanks text h
words_are text (word ∷ words) h =
    let first : IsFirstWord text word h.0 = h.1 in
    ap words_of first.text_is ∙ blanks_then first.blanks (word ++ h.0) first.are_blank ∙ word_then word h.0 first.some first.solid first.apart
    ∙ ap (λ (ws : List (List ℕ)). word ∷ ws) (words_are h.0 words h.2)

-- ---- what is read

none_found : (text blanks rest : List ℕ) → list_all is_blank blanks ≡ true → begins is_solid rest ≡ true → text ≡ blanks ++ rest → words_of text ≡ [] → list_all is_blank text ≡ true
none_found text blanks [] all solid t e = ap (list_all is_blank) (t ∙ append-nil blanks) ∙ all
none_found text blanks (b ∷ bs) all solid t e =
    let some : before_first is_blank (b ∷ bs) ∷ words_of (from_first is_blank (b ∷ bs)) ≡ [] = sym (word_first (b ∷ bs) (omega arith) solid) ∙ sym (blanks_then blanks (b ∷ bs) all) ∙ ap words_of (sym t) ∙ e in
    absurd cc

record HasFirst (text word : List ℕ) (words : List (List ℕ)) : Type 0 where
  rest : List ℕ
  first : IsFirstWord text word rest
  others : words_of rest ≡ words

first_found : (text blanks rest word : List ℕ) (words : List (List ℕ)) → list_all is_blank blanks ≡ true → begins is_solid rest ≡ true → text ≡ blanks ++ rest → words_of text ≡ word ∷ words → HasFirst text word words
first_found text blanks [] word words all solid t e =
    let none : [] ≡ word ∷ words = sym (ap words_of (t ∙ append-nil blanks) ∙ only_blanks blanks all) ∙ e in
    absurd cc
first_found text blanks (b ∷ bs) word words all solid t e =
    let rest : List ℕ = b ∷ bs in
    let c = word_cut rest (omega arith) solid in
    let both : before_first is_blank rest ∷ words_of (from_first is_blank rest) ≡ word ∷ words = sym (word_first rest (omega arith) solid) ∙ sym (blanks_then blanks rest all) ∙ ap words_of (sym t) ∙ e in
    let is : before_first is_blank rest ≡ word = cc in
    let others : words_of (from_first is_blank rest) ≡ words = cc in
    record {
      rest = from_first is_blank rest;
      first = record {
        blanks = blanks;
        are_blank = all;
        some = omega (arith, c.some, ap length is);
        solid = ap (list_all is_solid) (sym is) ∙ c.solid;
        apart = c.apart;
        text_is = t ∙ ap (λ (x : List ℕ). blanks ++ x) (c.joined ∙ ap (λ (x : List ℕ). x ++ from_first is_blank rest) is);
      };
      others = others;
    }

-- a text has the words that are read
pub words_found : (text : List ℕ) (words : List (List ℕ)) → words_of text ≡ words → AreWords text words
words_found text [] e = none_found text (before_first is_solid text) (from_first is_solid text) (skipped text) (cut_found is_solid text).1 (cut_joins is_solid text) e
words_found text (word ∷ words) e =
    let n = first_found text (before_first is_solid text) (from_first is_solid text) word words (skipped text) (cut_found is_solid text).1 (cut_joins is_solid text) e in
    (n.rest, n.first, words_found n.rest words n.others)
