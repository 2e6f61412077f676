-- The calls of a report as a history: their tickets and serials.
use Rattle.std.proofs.Common.{◌≡◌, ℕ, zero, suc, ◌+◌, ◌<◌, ◌≤◌, ◌==◌, ◌&&◌, Bool, true, false, cond, if◌then◌else◌, List, [], ◌∷◌, ◌++◌, length, map, take, find, slice_get, Option, Some, None, refl, sym, ap, subst, ◌∙◌, arith, append_assoc, append-nil, inl, inr}
use Rattle.std.specs.Option.{option_map}
use Rattle.std.proofs.lemmas.Bool.{eqb-true, eq-eqb, cases_Bool}
use Rattle.std.proofs.lemmas.List.{length-append, map-append}
use Rattle.std.proofs.lemmas.List.Elements.{filter-append}
use Rattle.hist.specs.declared.event.Entry.{Entry}
use Rattle.hist.specs.Busy.{own, call_with_serial, call_before}
use Rattle.legal_report.specs.Counted.{counted, counted_behind, counted_from, tickets_of}
use Rattle.legal_report.specs.Kept.{ticket_before}

-- ---- one more call

pub counted_split : (before xs ys : List Entry) → counted_from before (xs ++ ys) ≡ counted_from before xs ++ counted_from (before ++ xs) ys
counted_split before [] ys = ap (λ (b : List Entry). counted_from b ys) (sym (append-nil before))
counted_split before (x ∷ xs) ys =
    ap (λ (es : List Entry). counted_behind before x ∷ es)
    (counted_split (before ++ x ∷ []) xs ys ∙ ap (λ (b : List Entry). counted_from (before ++ x ∷ []) xs ++ counted_from b ys) (append_assoc before (x ∷ []) xs))

pub counted_more : (xs : List Entry) (e : Entry) → counted (xs ++ e ∷ []) ≡ counted xs ++ counted_behind xs e ∷ []
counted_more xs e = counted_split [] xs (e ∷ [])

-- so many calls as lines
own_count : (core : ℕ) (before es : List Entry) → length (own core (counted_from before es)) ≡ length (own core es)
own_count core before [] = refl
own_count core before (e ∷ es) =
    let later : length (own core (counted_from (before ++ e ∷ []) es)) ≡ length (own core es) = own_count core (before ++ e ∷ []) es in
    elim (e.core == core) as (λ b. length (if b then counted_behind before e ∷ own core (counted_from (before ++ e ∷ []) es) else own core (counted_from (before ++ e ∷ []) es)) ≡ length (if b then e ∷ own core es else own core es)) [
      | true ↦ ap suc later
      | false ↦ later
    ]

-- the ticket of a call of this core
abbrev pub ticket_if : Bool → ℕ → List ℕ
ticket_if b ticket = if b then ticket ∷ [] else []

one_ticket : (core : ℕ) (xs : List Entry) (e : Entry) → map (λ x. x.ticket) (own core (counted_behind xs e ∷ [])) ≡ ticket_if (e.core == core) (length xs + 1)
one_ticket core xs e =
    elim (e.core == core) as (λ b. map (λ x. x.ticket) (if b then counted_behind xs e ∷ [] else []) ≡ ticket_if b (length xs + 1)) [ true ↦ refl | false ↦ refl ]

pub tickets_more : (core : ℕ) (xs : List Entry) (e : Entry) → tickets_of (xs ++ e ∷ []) core ≡ tickets_of xs core ++ ticket_if (e.core == core) (length xs + 1)
tickets_more core xs e =
    ap (λ (h : List Entry). map (λ x. x.ticket) (own core h)) (counted_more xs e)
    ∙ ap (map (λ x. x.ticket)) (filter-append (λ (x : Entry). x.core == core) (counted xs) (counted_behind xs e ∷ []))
    ∙ map-append (λ (x : Entry). x.ticket) (own core (counted xs)) (own core (counted_behind xs e ∷ []))
    ∙ ap (λ (ts : List ℕ). tickets_of xs core ++ ts) (one_ticket core xs e)

-- ---- serials

own_push : (core : ℕ) (before : List Entry) (e : Entry) → length (own core (before ++ e ∷ [])) ≡ length (own core before) + (if e.core == core then 1 else 0)
own_push core before e =
    ap length (filter-append (λ (x : Entry). x.core == core) before (e ∷ [])) ∙ length-append (own core before) (own core (e ∷ []))
    ∙ ap (λ (n : ℕ). length (own core before) + n)
    (elim (e.core == core) as (λ b. length (if b then e ∷ [] else []) ≡ (if b then 1 else 0)) [ true ↦ refl | false ↦ refl ])

-- the call at a place among a core's calls has that serial
own_at : (core : ℕ) (before es : List Entry) (i : ℕ) → slice_get (own core (counted_from before es)) i ≡ call_with_serial (counted_from before es) core (i + length (own core before))
own_at core before [] i = refl
own_at core before (e ∷ es) i = by (e.core == core) refl i (own_at core (before ++ e ∷ []) es) (own_push core before e)
  where
    x : Entry
    x = counted_behind before e

    more : List Entry
    more = counted_from (before ++ e ∷ []) es

    by : (b : Bool) → e.core == core ≡ b → (i : ℕ)
        → ((j : ℕ) → slice_get (own core more) j ≡ call_with_serial more core (j + length (own core (before ++ e ∷ []))))
        → length (own core (before ++ e ∷ [])) ≡ length (own core before) + (if e.core == core then 1 else 0)
        → slice_get (if b then x ∷ own core more else own core more) i
        ≡ (if b && (length (own e.core before) == i + length (own core before)) then Some x else call_with_serial more core (i + length (own core before)))
    by false is i later push =
        later i ∙ ap (λ (n : ℕ). call_with_serial more core n)
        (ap (λ (n : ℕ). i + n) (push ∙ ap (λ (b : Bool). length (own core before) + (if b then 1 else 0)) is ∙ omega arith))
    by true is zero later push =
        let same : length (own e.core before) ≡ 0 + length (own core before) = ap (λ (c : ℕ). length (own c before)) (eqb-true e.core core is) ∙ omega arith in
        ap (λ (b : Bool). if b then Some x else call_with_serial more core (0 + length (own core before))) (sym (eq-eqb (length (own e.core before)) (0 + length (own core before)) same))
    by true is (suc j) later push =
        let n : ℕ = length (own core before) in
        let same : length (own e.core before) ≡ n = ap (λ (c : ℕ). length (own c before)) (eqb-true e.core core is) in
        let now : length (own core (before ++ e ∷ [])) ≡ n + 1 = push ∙ ap (λ (b : Bool). n + (if b then 1 else 0)) is in
        let at : j + length (own core (before ++ e ∷ [])) ≡ suc j + n = omega (arith, now) in
        elim (cases_Bool (length (own e.core before) == suc j + n)) [
          | inl t ↦ absurd (omega (arith, same, eqb-true (length (own e.core before)) (suc j + n) t))
          | inr f ↦ later j ∙ ap (λ (k : ℕ). call_with_serial more core k) at ∙ ap (λ (b : Bool). if b then Some x else call_with_serial more core (suc j + n)) (sym f)
        ]

mapped_at : {A B : Type 0} (f : A → B) (xs : List A) (i : ℕ) → slice_get (map f xs) i ≡ option_map f (slice_get xs i)
mapped_at f [] i = refl
mapped_at f (x ∷ xs) zero = refl
mapped_at f (x ∷ xs) (suc i) = mapped_at f xs i

-- the tickets of a core tell its calls by their serials
pub tickets_tell : (calls : List Entry) (core serial : ℕ) → slice_get (tickets_of calls core) serial ≡ option_map (λ x. x.ticket) (call_with_serial (counted calls) core serial)
tickets_tell calls core serial =
    mapped_at (λ (x : Entry). x.ticket) (own core (counted calls)) serial
    ∙ ap (option_map (λ (x : Entry). x.ticket)) (own_at core [] calls serial ∙ ap (λ (n : ℕ). call_with_serial (counted calls) core n) {x = serial + 0} {y = serial} (omega arith))

pub before_tells : (calls : List Entry) (core serial : ℕ) → ticket_before (tickets_of calls core) serial ≡ option_map (λ x. x.ticket) (call_before (counted calls) core serial)
before_tells calls core zero = refl
before_tells calls core (suc serial) = tickets_tell calls core serial

-- ---- where a call stands

counted_at : (before es : List Entry) (j : ℕ) → slice_get (counted_from before es) j ≡ option_map (counted_behind (before ++ take j es)) (slice_get es j)
counted_at before [] j = refl
counted_at before (e ∷ es) zero = ap (λ (b : List Entry). Some (counted_behind b e)) (sym (append-nil before))
counted_at before (e ∷ es) (suc j) =
    counted_at (before ++ e ∷ []) es j ∙ ap (λ (b : List Entry). option_map (counted_behind b) (slice_get es j)) (append_assoc before (e ∷ []) (take j es))

found_at : (test : Entry → Bool) (es : List Entry) (x : Entry) → find test es ≡ Some x → (j : ℕ) × (slice_get es j ≡ Some x)
found_at test [] x is = absurd cc
found_at test (e ∷ es) x is = by (test e) is (found_at test es x)
  where
    by : (b : Bool) → (if b then Some e else find test es) ≡ Some x → (find test es ≡ Some x → (j : ℕ) × (slice_get es j ≡ Some x)) → (j : ℕ) × (slice_get (e ∷ es) j ≡ Some x)
    by true found later = (0, found)
    by false found later = let more = later found in (suc more.0, more.1)

some_mapped : {A B : Type 0} (f : A → B) (o : Option A) (y : B) → option_map f o ≡ Some y → (x : A) × (o ≡ Some x) × (f x ≡ y)
some_mapped f None y e = absurd cc
some_mapped f (Some x) y e = (x, refl, the_same (f x) y e)
  where
    the_same : {B : Type 0} (a b : B) → Some a ≡ Some b → a ≡ b
    the_same a b e = cc

none_mapped : {A B : Type 0} (f : A → B) (o : Option A) → option_map f o ≡ None → o ≡ None
none_mapped f None e = refl
none_mapped f (Some x) e = absurd cc

within : {A : Type 0} (xs : List A) (j : ℕ) (x : A) → slice_get xs j ≡ Some x → j < length xs
within [] j x e = absurd cc
within (y ∷ ys) zero x e = omega arith
within (y ∷ ys) (suc j) x e = omega (arith, within ys j x e)

taken : {A : Type 0} (j : ℕ) (xs : List A) → j ≤ length xs → length (take j xs) ≡ j
taken zero xs le = refl
taken (suc j) [] le = absurd (omega arith)
taken (suc j) (x ∷ xs) le = ap suc (taken j xs (omega arith))

-- a call of a core with a serial, and its line
pub record CalledAt (calls : List Entry) (core serial ticket : ℕ) : Type 0 where
  pub place : ℕ
  pub entry : Entry
  pub is_place : ticket ≡ place + 1
  pub there : slice_get calls place ≡ Some entry
  pub inside : place < length calls
  pub call : call_with_serial (counted calls) core serial ≡ Some (counted_behind (take place calls) entry)

pub called_at : (calls : List Entry) (core serial ticket : ℕ) → slice_get (tickets_of calls core) serial ≡ Some ticket → CalledAt calls core serial ticket
called_at calls core serial ticket is =
    let told = some_mapped (λ (x : Entry). x.ticket) (call_with_serial (counted calls) core serial) ticket (sym (tickets_tell calls core serial) ∙ is) in
    let at = found_at (λ e. e.core == core && e.serial == serial) (counted calls) told.0 told.1 in
    let line = some_mapped (counted_behind (take at.0 calls)) (slice_get calls at.0) told.0 (sym (counted_at [] calls at.0) ∙ at.1) in
    let inside : at.0 < length calls = within calls at.0 line.0 line.1 in record {
      place = at.0;
      entry = line.0;
      is_place = sym told.2 ∙ ap (λ (x : Entry). x.ticket) (sym line.2) ∙ ap (λ (n : ℕ). n + 1) (taken at.0 calls (omega arith));
      there = line.1;
      inside = inside;
      call = told.1 ∙ ap (λ (x : Entry). Some x) (sym line.2);
    }

pub not_called : (calls : List Entry) (core serial : ℕ) → slice_get (tickets_of calls core) serial ≡ None → call_with_serial (counted calls) core serial ≡ None
not_called calls core serial is = none_mapped (λ (x : Entry). x.ticket) (call_with_serial (counted calls) core serial) (sym (tickets_tell calls core serial) ∙ is)

-- ---- tickets ascend

abbrev pub Ascends : ℕ → List ℕ → Type 0
Ascends t [] = Unit {0}
Ascends t (x ∷ xs) = (t < x) × Ascends x xs

ascends_lower : (s t : ℕ) (xs : List ℕ) → s ≤ t → Ascends t xs → Ascends s xs
ascends_lower s t [] le a = tt
ascends_lower s t (x ∷ xs) le a = (omega (arith, a.0), a.1)

tickets_ascend_from : (core : ℕ) (before es : List Entry) → Ascends (length before) (map (λ x. x.ticket) (own core (counted_from before es)))
tickets_ascend_from core before [] = tt
tickets_ascend_from core before (e ∷ es) =
    let more : List Entry = counted_from (before ++ e ∷ []) es in
    let longer : length (before ++ e ∷ []) ≡ length before + 1 = length-append before (e ∷ []) in
    let later : Ascends (length before + 1) (map (λ (x : Entry). x.ticket) (own core more)) =
    subst (λ (n : ℕ). Ascends n (map (λ (x : Entry). x.ticket) (own core more))) longer (tickets_ascend_from core (before ++ e ∷ []) es) in
    elim (e.core == core) as (λ b. Ascends (length before) (map (λ (x : Entry). x.ticket) (if b then counted_behind before e ∷ own core more else own core more))) [
      | true ↦ (omega arith, later)
      | false ↦ ascends_lower (length before) (length before + 1) (map (λ (x : Entry). x.ticket) (own core more)) (omega arith) later
    ]

pub tickets_ascend : (calls : List Entry) (core : ℕ) → Ascends 0 (tickets_of calls core)
tickets_ascend calls core = tickets_ascend_from core [] calls

pub above : (t : ℕ) (xs : List ℕ) (i v : ℕ) → Ascends t xs → slice_get xs i ≡ Some v → t < v
above t [] i v a e = absurd cc
above t (x ∷ xs) zero v a e = let same : x ≡ v = cc in omega (arith, a.0)
above t (x ∷ xs) (suc i) v a e = omega (arith, a.0, above x xs i v a.1 e)

-- a ticket stands at one place
pub one_place : (t : ℕ) (xs : List ℕ) (i j v : ℕ) → Ascends t xs → slice_get xs i ≡ Some v → slice_get xs j ≡ Some v → i ≡ j
one_place t [] i j v a e f = absurd cc
one_place t (x ∷ xs) zero zero v a e f = refl
one_place t (x ∷ xs) zero (suc j) v a e f = let same : x ≡ v = cc in absurd (omega (arith, above x xs j v a.1 f))
one_place t (x ∷ xs) (suc i) zero v a e f = let same : x ≡ v = cc in absurd (omega (arith, above x xs i v a.1 e))
one_place t (x ∷ xs) (suc i) (suc j) v a e f = ap suc (one_place x xs i j v a.1 e f)

-- ---- the call behind others

behind_these : {A : Type 0} (xs : List A) (y : A) (ys : List A) → slice_get (xs ++ y ∷ ys) (length xs) ≡ Some y
behind_these [] y ys = refl
behind_these (x ∷ xs) y ys = behind_these xs y ys

first_own : (core : ℕ) (before : List Entry) (e : Entry) (more : List Entry) → e.core == core ≡ true → own core (counted_from before (e ∷ more)) ≡ counted_behind before e ∷ own core (counted_from (before ++ e ∷ []) more)
first_own core before e more is = ap (λ (b : Bool). if b then counted_behind before e ∷ own core (counted_from (before ++ e ∷ []) more) else own core (counted_from (before ++ e ∷ []) more)) is

pub ticket_there : (before : List Entry) (e : Entry) (more : List Entry) → slice_get (tickets_of (before ++ e ∷ more) e.core) (length (own e.core before)) ≡ Some (length before + 1)
ticket_there before e more =
    let x : Entry = counted_behind before e in
    let later : List Entry = own e.core (counted_from (before ++ e ∷ []) more) in
    let parts : own e.core (counted (before ++ e ∷ more)) ≡ own e.core (counted before) ++ x ∷ later =
    ap (own e.core) (counted_split [] before (e ∷ more)) ∙ filter-append (λ (y : Entry). y.core == e.core) (counted before) (counted_from before (e ∷ more))
    ∙ ap (λ (es : List Entry). own e.core (counted before) ++ es) (first_own e.core before e more (eq-eqb e.core e.core refl)) in
    mapped_at (λ (y : Entry). y.ticket) (own e.core (counted (before ++ e ∷ more))) (length (own e.core before))
    ∙ ap (option_map (λ (y : Entry). y.ticket))
    (ap (λ (es : List Entry). slice_get es (length (own e.core before))) parts
    ∙ ap (λ (n : ℕ). slice_get (own e.core (counted before) ++ x ∷ later) n) (sym (own_count e.core [] before))
    ∙ behind_these (own e.core (counted before)) x later)

-- a call with its place as its ticket, and the number of its core's earlier calls as its serial
pub is_counted : (before : List Entry) (e : Entry) → e.ticket ≡ length before + 1 → e.serial ≡ length (own e.core before) → counted_behind before e ≡ e
is_counted before e ticket serial = λ i. record e { ticket = sym ticket i; serial = sym serial i }
