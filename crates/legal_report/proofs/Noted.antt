-- What is kept of the periods of all regions, call by call.
use Rattle.std.proofs.Common.{◌≡◌, ℕ, zero, suc, ◌+◌, ◌<◌, ◌≤◌, ◌==◌, nat_lt, Bool, true, false, cond, if◌then◌else◌, List, [], ◌∷◌, ◌++◌, length, take, get_or, replicate, fold, slice_get, Option, Some, None, refl, sym, ap, subst, ◌∙◌, arith, inl, inr}
use Rattle.std.specs.List.{AllByRecursion}
use Rattle.std.proofs.lemmas.Bool.{eqb-true, eqb-false, ltb-true, ltb-false, cases_Bool}
use Rattle.std.proofs.lemmas.List.{get_or-replicate, get_or_append_left, get_or_push, length-append, take_all}
use Rattle.std.proofs.lemmas.List.Sums.{fold-append}
use Rattle.mon_types.specs.Shape.{Shape}
use Rattle.mon_types.specs.Replies.{is_done}
use Rattle.mon_types.specs.declared.region.Owner.{Owner}
use Rattle.hist.specs.declared.event.Entry.{Entry}
use Rattle.hist.specs.Period.{NamesOwner, NameOwners, owner_by, was_initialized, initialized_after}
use Rattle.hist.proofs.Walked.{owner_same}
use Rattle.hist.specs.Walk.{flag_of, FlagsGoOn}
use Rattle.hist.proofs.Ordered.{all_weaker}
use Rattle.hist.proofs.Periods.{AreBelow}
use Rattle.legal_report.specs.declared.marks.Marks.{Marks}
use Rattle.legal_report.specs.Counted.{counted, counted_behind, counted_from}
use Rattle.legal_report.specs.Marks.{IsNoted, AreNoted, MarksTell, PeriodsTell}
use Rattle.legal_report.proofs.Counting.{counted_more}
use Rattle.legal_report.proofs.Firsts.{taken_more, as_long}
use Rattle.legal_report.proofs.Marked.{tell_more}

-- ---- tickets

below_from : (n : ℕ) (before es : List Entry) → length before + length es < n → AllByRecursion (λ x. x.ticket < n) (counted_from before es)
below_from n before [] lt = tt
below_from n before (e ∷ es) lt = (omega arith, below_from n (before ++ e ∷ []) es (omega (arith, length-append before (e ∷ []))))

pub names_at : (es : List Entry) (k : ℕ) (e : Entry) → NameOwners es → slice_get es k ≡ Some e → is_done e.reply ≡ true → NamesOwner e.call
names_at [] k e names is = absurd cc
names_at (x ∷ es) zero e names is = let same : x ≡ e = cc in subst (λ (y : Entry). is_done y.reply ≡ true → NamesOwner y.call) same names.0
names_at (x ∷ es) (suc k) e names is = names_at es k e names.1 is

-- ---- call by call

-- what is kept when k calls were noted
pub record NotedUpTo (shape : Shape) (es : List Entry) (k : ℕ) (marks : List Marks) (flags : List Bool) : Type 0 where
  pub periods : PeriodsTell (counted (take k es)) (k + 1) shape.regions marks
  pub slots : (slot : ℕ) → slot < 8 → flag_of flags slot ≡ was_initialized (counted (take k es)) slot

pub noted_none : (shape : Shape) (es : List Entry) (marks : List Marks) (flags : List Bool) → flags ≡ replicate 8 false → PeriodsTell [] 1 shape.regions marks → NotedUpTo shape es 0 marks flags
noted_none shape es marks flags f periods = record {
  periods = periods;
  slots = λ slot lt. ap (λ (fs : List Bool). flag_of fs slot) f ∙ get_or-replicate 8 slot false false lt;
}

pub noted_more : (shape : Shape) (es : List Entry) (k : ℕ) (e : Entry) (marks after : List Marks) (flags now : List Bool) → NameOwners es → slice_get es k ≡ Some e → NotedUpTo shape es k marks flags
    → AreNoted (flag_of flags) (k + 1) e marks after → FlagsGoOn flags now e → NotedUpTo shape es (k + 1) after now
noted_more shape es k e marks after flags now names there upto noted goes = record {
  periods = record { count = noted.count ∙ upto.periods.count; each = each };
  slots = λ slot lt.
      goes slot lt ∙ ap (λ b. initialized_after slot b e) (upto.slots slot lt) ∙ sym (fold-append (initialized_after slot) false h (x ∷ []))
      ∙ ap (λ (xs : List Entry). was_initialized xs slot) (sym grown);
}
  where
    h : List Entry
    h = counted (take k es)

    x : Entry
    x = counted_behind (take k es) e

    ticket : x.ticket ≡ k + 1
    ticket = ap (λ (n : ℕ). n + 1) (as_long es k e there)

    grown : counted (take (k + 1) es) ≡ h ++ x ∷ []
    grown = ap counted (taken_more es k e there) ∙ counted_more (take k es) e

    below : AreBelow x h
    below = below_from x.ticket [] (take k es) (omega (arith, ticket, as_long es k e there))

    same : (r : ℕ) → owner_by r (flag_of flags) x ≡ owner_by r (was_initialized h) x
    same r = owner_same r (flag_of flags) (was_initialized h) upto.slots x (names_at es k e names there)

    each : (r : ℕ) (d : Marks) → r < shape.regions → MarksTell (counted (take (k + 1) es)) (k + 1 + 1) r (get_or after r d)
    each r d lt =
        let one : IsNoted r (flag_of flags) (k + 1) e (get_or marks r d) (get_or after r d) = noted.each r d (omega (arith, upto.periods.count)) in
        let so : IsNoted r (flag_of flags) x.ticket x (get_or marks r d) (get_or after r d) =
        subst (λ (n : ℕ). IsNoted r (flag_of flags) n x (get_or marks r d) (get_or after r d)) (sym ticket) (record { begins = one.begins; ends = one.ends; frees = one.frees }) in
        subst (λ (n : ℕ). MarksTell (counted (take (k + 1) es)) (n + 1) r (get_or after r d)) ticket
        (subst (λ (xs : List Entry). MarksTell xs (x.ticket + 1) r (get_or after r d)) (sym grown)
        (tell_more h x r (k + 1) (flag_of flags) (get_or marks r d) (get_or after r d) below (omega (arith, ticket)) (same r) so (upto.periods.each r d lt)))

pub noted_all : (shape : Shape) (es : List Entry) (k n : ℕ) (marks : List Marks) (flags : List Bool) → length es ≤ k → k ≡ n → NotedUpTo shape es k marks flags → PeriodsTell (counted es) (n + 1) shape.regions marks
noted_all shape es k n marks flags le is upto =
    subst (λ (m : ℕ). PeriodsTell (counted es) (m + 1) shape.regions marks) is
    (subst (λ (xs : List Entry). PeriodsTell (counted xs) (k + 1) shape.regions marks) (take_all k es le) upto.periods)

-- ---- region by region

pub periods_push : (n : ℕ) (marks now : List Marks) (m : Marks) → PeriodsTell [] 1 n marks → ((r : ℕ) → MarksTell [] 1 r m) → now ≡ marks ++ m ∷ [] → PeriodsTell [] 1 (n + 1) now
periods_push n marks now m tell start is = record {
  count = ap length is ∙ length-append marks (m ∷ []) ∙ ap (λ (k : ℕ). k + 1) tell.count;
  each = λ r d lt. elim (cases_Bool (nat_lt r n)) [
    | inl t ↦
        let under : r < n = ltb-true r n t in
        subst (λ (x : Marks). MarksTell [] 1 r x) (sym (ap (λ (ms : List Marks). get_or ms r d) is ∙ get_or_append_left marks (m ∷ []) d r (omega (arith, tell.count)))) (tell.each r d under)
    | inr f ↦
        let over : n ≤ r = ltb-false r n f in
        subst (λ (x : Marks). MarksTell [] 1 r x) (sym (ap (λ (ms : List Marks). get_or ms r d) is ∙ get_or_push marks m d r (omega (arith, tell.count)))) (start r)
  ];
}
