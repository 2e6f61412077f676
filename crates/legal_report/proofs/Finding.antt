-- The call of a core with a ticket.
use Rattle.std.proofs.Common.{◌≡◌, ℕ, zero, suc, ◌+◌, ◌-◌, ◌<◌, ◌≤◌, ◌==◌, ◌&&◌, Bool, true, false, if◌then◌else◌, List, [], ◌∷◌, ◌++◌, length, take, find, slice_get, Option, Some, None, refl, sym, ap, subst, ◌∙◌, arith, append_assoc, append-nil, inl, inr}
use Rattle.std.specs.Option.{unwrap_or}
use Rattle.std.proofs.lemmas.Bool.{eq-eqb, ne_eqb, cases_Bool}
use Rattle.std.proofs.lemmas.List.{length-append}
use Rattle.mon_types.specs.Replies.{is_done}
use Rattle.mon_model.specs.OnCore.{is_flush}
use Rattle.hist.specs.declared.event.Entry.{Entry}
use Rattle.legal_report.specs.Counted.{counted, counted_behind, counted_from, nothing_done, entry_named}
use Rattle.legal_report.specs.Drawn.{call_with_ticket, IsCallWithTicket, is_flush_named}

-- the call of this core with this ticket among some
abbrev found : ℕ → ℕ → List Entry → Option Entry
found core t es = find (λ e. e.core == core && e.ticket == t) es

and_false : (a : Bool) → (a && false) ≡ false
and_false true = refl
and_false false = refl

and_true : (a : Bool) → (a && true) ≡ a
and_true true = refl
and_true false = refl

-- a call with another ticket is passed over
passed_over : (core t : ℕ) (before : List Entry) (e : Entry) (es : List Entry) → (length before + 1 ≡ t → ⊥) → found core t (counted_from before (e ∷ es)) ≡ found core t (counted_from (before ++ e ∷ []) es)
passed_over core t before e es other =
    let no : (e.core == core && (length before + 1 == t)) ≡ false = ap (λ (b : Bool). e.core == core && b) (ne_eqb (length before + 1) t other) ∙ and_false (e.core == core) in
    ap (λ (b : Bool). if b then Some (counted_behind before e) else found core t (counted_from (before ++ e ∷ []) es)) no

longer : (before : List Entry) (e : Entry) → length (before ++ e ∷ []) ≡ length before + 1
longer before e = length-append before (e ∷ [])

none_so_low : (core t : ℕ) (before es : List Entry) → t ≤ length before → found core t (counted_from before es) ≡ None
none_so_low core t before [] le = refl
none_so_low core t before (e ∷ es) le =
    passed_over core t before e es (λ same. omega (arith, same)) ∙ none_so_low core t (before ++ e ∷ []) es (omega (arith, longer before e))

none_so_high : (core t : ℕ) (before es : List Entry) → length before + length es < t → found core t (counted_from before es) ≡ None
none_so_high core t before [] lt = refl
none_so_high core t before (e ∷ es) lt =
    passed_over core t before e es (λ same. omega (arith, same)) ∙ none_so_high core t (before ++ e ∷ []) es (omega (arith, longer before e))

there_at : (core t : ℕ) (before es : List Entry) (j : ℕ) (e : Entry) → slice_get es j ≡ Some e → t ≡ length before + j + 1 → found core t (counted_from before es) ≡ (if e.core == core then Some (counted_behind (before ++ take j es) e) else None)
there_at core t before [] j e is at = absurd cc
there_at core t before (x ∷ es) zero e is at =
    let same : x ≡ e = cc in
    let ticket : (length before + 1 == t) ≡ true = eq-eqb (length before + 1) t (omega (arith, at)) in
    ap (λ (b : Bool). if x.core == core && b then Some (counted_behind before x) else found core t (counted_from (before ++ x ∷ []) es)) ticket
    ∙ ap (λ (b : Bool). if b then Some (counted_behind before x) else found core t (counted_from (before ++ x ∷ []) es)) (and_true (x.core == core))
    ∙ ap (λ (o : Option Entry). if x.core == core then Some (counted_behind before x) else o) (none_so_low core t (before ++ x ∷ []) es (omega (arith, at, longer before x)))
    ∙ ap (λ (y : Entry). if y.core == core then Some (counted_behind before y) else None) same
    ∙ ap (λ (b : List Entry). if e.core == core then Some (counted_behind b e) else None) (sym (append-nil before))
there_at core t before (x ∷ es) (suc j) e is at =
    passed_over core t before x es (λ same. omega (arith, same, at))
    ∙ there_at core t (before ++ x ∷ []) es j e is (omega (arith, at, longer before x))
    ∙ ap (λ (b : List Entry). if e.core == core then Some (counted_behind b e) else None) (append_assoc before (x ∷ []) (take j es))

-- ---- from its place

pub no_such_ticket : (calls : List Entry) (core ticket : ℕ) → length calls < ticket → call_with_ticket calls core ticket ≡ None
no_such_ticket calls core ticket lt = none_so_high core ticket [] calls (omega arith)

pub no_ticket_zero : (calls : List Entry) (core : ℕ) → call_with_ticket calls core 0 ≡ None
no_ticket_zero calls core = none_so_low core 0 [] calls (omega arith)

pub call_there : (calls : List Entry) (core ticket place : ℕ) (e : Entry) → ticket ≡ place + 1 → slice_get calls place ≡ Some e → e.core == core ≡ true → IsCallWithTicket calls core ticket (Some e)
call_there calls core ticket place e at is mine =
    there_at core ticket [] calls place e is (omega (arith, at))
    ∙ ap (λ (b : Bool). if b then Some (counted_behind (take place calls) e) else None) mine
    ∙ ap (λ (n : ℕ). Some (counted_behind (take n calls) e)) {x = place} {y = ticket - 1} (omega (arith, at))

pub anothers_call : (calls : List Entry) (core ticket place : ℕ) (e : Entry) → ticket ≡ place + 1 → slice_get calls place ≡ Some e → e.core == core ≡ false → IsCallWithTicket calls core ticket None
anothers_call calls core ticket place e at is other =
    there_at core ticket [] calls place e is (omega (arith, at))
    ∙ ap (λ (b : Bool). if b then Some (counted_behind (take place calls) e) else None) other

-- ---- whether it is an Ok flush

pub named_is : (calls : List Entry) (core ticket : ℕ) (e : Entry) → IsCallWithTicket calls core ticket (Some e) → is_flush_named calls core ticket ≡ (is_done e.reply && is_flush e.call)
named_is calls core ticket e is =
    ap (λ (o : Option Entry). is_done (unwrap_or o (nothing_done core ticket)).reply && is_flush (unwrap_or o (nothing_done core ticket)).call) is

pub none_named : (calls : List Entry) (core ticket : ℕ) → IsCallWithTicket calls core ticket None → is_flush_named calls core ticket ≡ false
none_named calls core ticket is =
    ap (λ (o : Option Entry). is_done (unwrap_or o (nothing_done core ticket)).reply && is_flush (unwrap_or o (nothing_done core ticket)).call) is
