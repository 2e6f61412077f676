-- A schedule is read as what it is in the grammar, and as nothing else.
use Rattle.std.proofs.Common.{◌≡◌, ℕ, ◌+◌, ◌<◌, ltb, Bool, true, false, not, List, [], ◌∷◌, ◌++◌, length, Option, Some, None, Result, Ok, Err, refl, sym, ap, ◌∙◌, arith, inl, inr}
use Rattle.std.specs.List.{list_all, before_first, slice_split}
use Rattle.std.specs.Option.{ok_or}
use Rattle.std.proofs.lemmas.Bool.{cases_Bool, and_parts, ltb-false, le-ltb, lt-ltb}
use Rattle.std.proofs.lemmas.List.{append-nil}
use Rattle.mon_types.specs.declared.script.StepItem.{StepItem}
use Rattle.text_in.specs.Bytes.{is_gap, is_no_gap, Are, begins}
use Rattle.text_in.specs.Cuts.{from_first}
use Rattle.text_in.proofs.Places.{NonePass}
use Rattle.text_in.proofs.Cuts.{all_other, cut_joins, cut_found, one_part, more_parts}
use Rattle.script_read.specs.declared.fault.ScheduleFault.{ScheduleFault}
use Rattle.script_read.specs.Schedule.{schedule_limit, IsFirstItem, AreItems, IsSchedule, item_of, items_from, items_of, schedule_of}
use Rattle.reader_answers.specs.Steps.{◌>>=◌}
use Rattle.reader_answers.proofs.Steps.{bind_ok, not_ok}
use Rattle.script_read.proofs.ItemLaws.{IsPiece, item_piece, item_read, item_found}

-- ---- gaps, and an item

-- the fault of an item at this offset
abbrev pub fault_at : ℕ → ScheduleFault
fault_at offset = record { at = offset }

-- the item, and those of the text behind it, which stands at this offset
abbrev pub item_then : ℕ → ℕ → List ℕ → Result StepItem ScheduleFault → Result (List StepItem) ScheduleFault
item_then cores offset rest first = first >>= λ item. items_of cores offset rest >>= λ items. Ok (item ∷ items)

nothing : (cores offset : ℕ) → items_of cores offset [] ≡ Ok []
unfolding items_from
nothing cores offset = refl

gap_skipped : (cores offset b : ℕ) (bs : List ℕ) → is_gap b ≡ true → items_of cores offset (b ∷ bs) ≡ items_of cores (offset + 1) bs
unfolding items_from
gap_skipped cores offset b bs gap = rw gap refl

pub gaps_skipped : (cores offset : ℕ) (gaps rest : List ℕ) → Are is_gap gaps → items_of cores offset (gaps ++ rest) ≡ items_of cores (offset + length gaps) rest
gaps_skipped cores offset [] rest h = let same : offset ≡ offset + 0 = omega arith in ap (λ (n : ℕ). items_of cores n rest) same
gaps_skipped cores offset (b ∷ bs) rest h =
    let p = and_parts (is_gap b) (list_all is_gap bs) h in
    let further : offset + 1 + length bs ≡ offset + length (b ∷ bs) = omega arith in
    gap_skipped cores offset b (bs ++ rest) p.0 ∙ gaps_skipped cores (offset + 1) bs rest p.1 ∙ ap (λ (n : ℕ). items_of cores n rest) further

pub only_gaps : (cores offset : ℕ) (text : List ℕ) → Are is_gap text → items_of cores offset text ≡ Ok []
only_gaps cores offset text h = ap (items_of cores offset) (sym (append-nil text)) ∙ gaps_skipped cores offset text [] h ∙ nothing cores (offset + length text)

-- the pieces that begin with a word
piece_then : (cores offset : ℕ) (word : List ℕ) (pieces : List (List ℕ)) → 0 < length word
    → items_from cores offset (word ∷ pieces) ≡ (ok_or (item_of cores word) (fault_at offset) >>= λ item. items_from cores (offset + length word + 1) pieces >>= λ items. Ok (item ∷ items))
unfolding items_from
piece_then cores offset [] pieces some = absurd (omega arith)
piece_then cores offset (b ∷ bs) pieces some = refl

pieces_end : (cores offset : ℕ) → items_from cores offset [] ≡ items_of cores offset []
unfolding items_from
pieces_end cores offset = refl

pub word_read : (cores offset : ℕ) (word rest : List ℕ) → IsPiece word → begins is_gap rest ≡ true → items_of cores offset (word ++ rest) ≡ item_then cores (offset + length word) rest (ok_or (item_of cores word) (fault_at offset))
word_read cores offset word [] w gap =
    let none : NonePass is_gap word = w.whole in
    let parts : slice_split is_gap (word ++ []) ≡ word ∷ [] = ap (slice_split is_gap) (append-nil word) ∙ one_part is_gap word none in
    ap (items_from cores offset) parts ∙ piece_then cores offset word [] w.some ∙ rw (pieces_end cores (offset + length word + 1), nothing cores (offset + length word + 1)) (rw (nothing cores (offset + length word)) refl)
word_read cores offset word (c ∷ cs) w gap =
    ap (items_from cores offset) (more_parts is_gap word c cs w.whole gap) ∙ piece_then cores offset word (slice_split is_gap cs) w.some
    ∙ ap (λ (r : Result (List StepItem) ScheduleFault). ok_or (item_of cores word) (fault_at offset) >>= λ item. r >>= λ items. Ok (item ∷ items)) (sym (gap_skipped cores (offset + length word) c cs gap))

-- ---- what is in the grammar is read so

pub items_are : (cores offset : ℕ) (text : List ℕ) (items : List StepItem) → AreItems cores text items → items_of cores offset text ≡ Ok items
items_are cores offset text [] h = only_gaps cores offset text h
items_are cores offset text (item ∷ items) h =
    let first : IsFirstItem cores text item h.0 = h.1 in
    let place : ℕ = offset + length first.gaps in
    ap (items_of cores offset) first.text_is ∙ gaps_skipped cores offset first.gaps (first.word ++ h.0) first.are_gaps
    ∙ word_read cores place first.word h.0 (item_piece cores first.word item first.is_item) first.apart
    ∙ rw (item_read cores first.word item first.is_item, items_are cores (place + length first.word) h.0 items h.2) refl

pub schedule_is : (cores : ℕ) (bytes : List ℕ) (items : List StepItem) → IsSchedule cores bytes items → schedule_of cores bytes ≡ Ok items
unfolding schedule_of
schedule_is cores bytes items h = rw (le-ltb schedule_limit (length bytes) h.within) (items_are cores 0 bytes items h.are_items)

-- ---- what is read is in the grammar

some_from_ok : {A : Type 0} (o : Option A) (fault : ScheduleFault) (x : A) → ok_or o fault ≡ Ok x → o ≡ Some x
some_from_ok None fault x h = absurd cc
some_from_ok (Some y) fault x h = let is : y ≡ x = cc in ap (λ (z : _). Some z) is

-- the word at the start of a text that no gap begins, and what stands behind it
pub record IsCut (rest word behind : List ℕ) : Type 0 where
  pub piece : IsPiece word
  pub apart : begins is_gap behind ≡ true
  pub joined : rest ≡ word ++ behind

some_there : (rest word behind : List ℕ) → 0 < length rest → begins is_no_gap rest ≡ true → begins is_gap behind ≡ true → rest ≡ word ++ behind → 0 < length word
some_there rest (c ∷ cs) behind some solid gap e = omega arith
some_there [] [] behind some solid gap e = absurd (omega arith)
some_there (b ∷ bs) [] [] some solid gap e = absurd cc
some_there (b ∷ bs) [] (c ∷ cs) some solid gap e =
    let same : b ≡ c = cc in
    absurd (both (is_gap b) solid (ap is_gap same ∙ gap))
  where
    both : (x : Bool) → not x ≡ true → x ≡ true → ⊥
    both true h g = absurd cc
    both false h g = absurd cc

pub word_cut : (rest word behind : List ℕ) → 0 < length rest → begins is_no_gap rest ≡ true → word ≡ before_first is_gap rest → behind ≡ from_first is_gap rest → IsCut rest word behind
word_cut rest word behind some solid w b =
    let found = cut_found is_gap rest in
    let joined : rest ≡ word ++ behind = rw (w, b) (cut_joins is_gap rest) in
    let apart : begins is_gap behind ≡ true = rw b found.1 in
    record {
      piece = record { some = some_there rest word behind some solid apart joined; whole = rw w found.0 };
      apart = apart;
      joined = joined;
    }

-- the gaps at the start of a text
pub gaps_before : (text : List ℕ) → Are is_gap (before_first is_no_gap text)
gaps_before text = all_other is_gap (before_first is_no_gap text) (cut_found is_no_gap text).0

pub skipped : (cores offset : ℕ) (text : List ℕ) → items_of cores offset text ≡ items_of cores (offset + length (before_first is_no_gap text)) (from_first is_no_gap text)
skipped cores offset text = ap (items_of cores offset) (cut_joins is_no_gap text) ∙ gaps_skipped cores offset (before_first is_no_gap text) (from_first is_no_gap text) (gaps_before text)

-- the items of a text that no gap begins, if it has bytes
pub cut_read : (cores offset : ℕ) (rest word behind : List ℕ) → IsCut rest word behind → items_of cores offset rest ≡ item_then cores (offset + length word) behind (ok_or (item_of cores word) (fault_at offset))
cut_read cores offset rest word behind c = ap (items_of cores offset) c.joined ∙ word_read cores offset word behind c.piece c.apart

no_item : (item : StepItem) (items : List StepItem) (P : Type 0) → ◌≡◌ {A = Result (List StepItem) ScheduleFault} (Ok (item ∷ items)) (Ok []) → P
no_item item items P h = absurd cc

none_found : (cores offset : ℕ) (text gaps rest : List ℕ) → Are is_gap gaps → begins is_no_gap rest ≡ true → text ≡ gaps ++ rest → items_of cores offset rest ≡ Ok [] → Are is_gap text
none_found cores offset text gaps [] all solid t e = ap (list_all is_gap) (t ∙ append-nil gaps) ∙ all
none_found cores offset text gaps (b ∷ bs) all solid t e =
    let rest : List ℕ = b ∷ bs in
    let c = word_cut rest (before_first is_gap rest) (from_first is_gap rest) (omega arith) solid refl refl in
    let read = sym (cut_read cores offset rest (before_first is_gap rest) (from_first is_gap rest) c) ∙ e in
    let first = bind_ok (ok_or (item_of cores (before_first is_gap rest)) (fault_at offset)) (λ item. items_of cores (offset + length (before_first is_gap rest)) (from_first is_gap rest) >>= λ items. Ok (item ∷ items)) [] read in
    let more = bind_ok (items_of cores (offset + length (before_first is_gap rest)) (from_first is_gap rest)) (λ items. Ok (first.0 ∷ items)) [] first.2 in
    no_item first.0 more.0 (Are is_gap text) more.2

record HasFirst (cores offset : ℕ) (text : List ℕ) (item : StepItem) (items : List StepItem) : Type 0 where
  rest : List ℕ
  place : ℕ
  first : IsFirstItem cores text item rest
  others : items_of cores place rest ≡ Ok items

first_found : (cores offset : ℕ) (text gaps rest : List ℕ) (item : StepItem) (items : List StepItem) → Are is_gap gaps → begins is_no_gap rest ≡ true → text ≡ gaps ++ rest → items_of cores offset rest ≡ Ok (item ∷ items) → HasFirst cores offset text item items
first_found cores offset text gaps [] item items all solid t e =
    let none : Ok [] ≡ Ok (item ∷ items) = sym (nothing cores offset) ∙ e in
    no_item item items (HasFirst cores offset text item items) (sym none)
first_found cores offset text gaps (b ∷ bs) item items all solid t e =
    let rest : List ℕ = b ∷ bs in
    let word : List ℕ = before_first is_gap rest in
    let behind : List ℕ = from_first is_gap rest in
    let c = word_cut rest word behind (omega arith) solid refl refl in
    let read = sym (cut_read cores offset rest word behind c) ∙ e in
    let first = bind_ok (ok_or (item_of cores word) (fault_at offset)) (λ item. items_of cores (offset + length word) behind >>= λ items. Ok (item ∷ items)) (item ∷ items) read in
    let more = bind_ok (items_of cores (offset + length word) behind) (λ items. Ok (first.0 ∷ items)) (item ∷ items) first.2 in
    let both : ◌≡◌ {A = Result (List StepItem) ScheduleFault} (Ok (first.0 ∷ more.0)) (Ok (item ∷ items)) = more.2 in
    let head : first.0 ≡ item = cc in
    let tail : more.0 ≡ items = cc in
    record {
      rest = behind;
      place = offset + length word;
      first = record {
        gaps = gaps;
        word = word;
        are_gaps = all;
        is_item = item_found cores word item (some_from_ok (item_of cores word) (fault_at offset) first.0 first.1 ∙ ap (λ (i : StepItem). Some i) head);
        apart = c.apart;
        text_is = t ∙ ap (λ (x : List ℕ). gaps ++ x) c.joined;
      };
      others = more.1 ∙ ap (λ (x : List StepItem). Ok x) tail;
    }

pub items_found : (cores offset : ℕ) (text : List ℕ) (items : List StepItem) → items_of cores offset text ≡ Ok items → AreItems cores text items
items_found cores offset text [] e =
    none_found cores (offset + length (before_first is_no_gap text)) text (before_first is_no_gap text) (from_first is_no_gap text) (gaps_before text) (cut_found is_no_gap text).1 (cut_joins is_no_gap text) (sym (skipped cores offset text) ∙ e)
items_found cores offset text (item ∷ items) e =
    let f = first_found cores (offset + length (before_first is_no_gap text)) text (before_first is_no_gap text) (from_first is_no_gap text) item items (gaps_before text) (cut_found is_no_gap text).1 (cut_joins is_no_gap text) (sym (skipped cores offset text) ∙ e) in
    (f.rest, f.first, items_found cores f.place f.rest items f.others)

pub schedule_found : (cores : ℕ) (bytes : List ℕ) (items : List StepItem) → schedule_of cores bytes ≡ Ok items → IsSchedule cores bytes items
unfolding schedule_of
schedule_found cores bytes items h =
    elim (cases_Bool (ltb schedule_limit (length bytes))) [
      | inl t ↦ not_ok (fault_at schedule_limit) items (IsSchedule cores bytes items) (rw t at h)
      | inr f ↦ record { within = ltb-false schedule_limit (length bytes) f; are_items = items_found cores 0 bytes items (rw f at h) }
    ]

-- ---- files

-- every text over the limit is read alike
pub long_schedule : (cores : ℕ) (bytes : List ℕ) → schedule_limit < length bytes → schedule_of cores bytes ≡ Err (fault_at schedule_limit)
unfolding schedule_of
long_schedule cores bytes lt = rw (lt-ltb schedule_limit (length bytes) lt) refl
