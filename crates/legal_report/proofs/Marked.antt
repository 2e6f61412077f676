-- What one more entry adds to what is kept of the periods of a region.
use Rattle.std.proofs.Common.{◌≡◌, ℕ, zero, suc, ◌+◌, ◌<◌, ◌≤◌, ◌==◌, ◌&&◌, nat_lt, Bool, true, false, if◌then◌else◌, List, [], ◌∷◌, ◌++◌, length, map, find, option_and_then, Option, Some, None, refl, sym, ap, subst, ◌∙◌, arith, append-nil, inl, inr}
use Rattle.std.specs.Option.{option_map, option_or}
use Rattle.std.specs.List.{AllByRecursion}
use Rattle.std.proofs.lemmas.Bool.{cases_Bool, eqb-true, eqb-false, ne_eqb}
use Rattle.std.proofs.lemmas.List.{map-append}
use Rattle.std.proofs.lemmas.List.Folds.{find-append}
use Rattle.mon_types.specs.declared.region.Owner.{Owner}
use Rattle.mon_types.specs.declared.region.Owner.TheVariants as owners
use Rattle.hist.specs.declared.event.Entry.{Entry}
use Rattle.hist.specs.declared.period.Period.{Period}
use Rattle.hist.specs.Period.{owner_by, owner_of_period, is_end, is_freeing, ticket_after, was_initialized, period_with, period_in}
use Rattle.hist.proofs.Ordered.{all_weaker, all_joined}
use Rattle.hist.proofs.Periods.{AreBelow, or_this, ticket_after_more, owner_more}
use Rattle.legal_report.specs.declared.marks.Begin.{Begin}
use Rattle.legal_report.specs.declared.marks.Marks.{Marks}
use Rattle.legal_report.specs.Marks.{Rise, RiseBelow, first_above, begun_at, owner_since, MarksTell, ticket_where, begin_with, IsNoted, period_by}

-- ---- lists that ascend

rise_push : (low n t : ℕ) (xs : List ℕ) → Rise low xs → AllByRecursion (λ x. x < n) xs → low ≤ t → n ≤ t → Rise low (xs ++ t ∷ [])
rise_push low n t [] rise below le under = (le, tt)
rise_push low n t (x ∷ xs) rise below le under = (rise.0, rise_push (x + 1) n t xs rise.1 below.1 (omega (arith, below.0)) under)

pub rise_where : (n t : ℕ) (xs : List ℕ) (b : Bool) → RiseBelow n xs → n ≤ t → RiseBelow (t + 1) (xs ++ ticket_where b t)
rise_where n t xs true r le = record {
  rise = rise_push 0 n t xs r.rise r.below (omega arith) le;
  below = all_joined (λ x. x < t + 1) xs (t ∷ []) (all_weaker (λ x. x < n) (λ x. x < t + 1) (λ x lt. omega arith) xs r.below) (omega arith, tt);
}
rise_where n t xs false r le =
    subst (RiseBelow (t + 1)) (sym (append-nil xs))
    (record { rise = r.rise; below = all_weaker (λ x. x < n) (λ x. x < t + 1) (λ x lt. omega arith) xs r.below })

pub begins_rise : (n t : ℕ) (begins : List Begin) (o : Option Owner) → RiseBelow n (begun_at begins) → n ≤ t → RiseBelow (t + 1) (begun_at (begins ++ begin_with o t))
begins_rise n t begins None r le =
    subst (RiseBelow (t + 1)) (sym (map-append (λ (b : Begin). b.since) begins []))
    (rise_where n t (begun_at begins) false r le)
begins_rise n t begins (Some owner) r le =
    subst (RiseBelow (t + 1)) (sym (map-append (λ (b : Begin). b.since) begins (record { since = t; owner = owner } ∷ [])))
    (rise_where n t (begun_at begins) true r le)

-- ---- what is found in them

one_above : (b : Bool) (n t : ℕ) → first_above (ticket_where b t) n ≡ (if nat_lt n t && b then Some t else None)
one_above true n t = elim (nat_lt n t) as (λ c. (if c then Some t else None) ≡ (if c && true then Some t else None)) [ true ↦ refl | false ↦ refl ]
one_above false n t = elim (nat_lt n t) as (λ c. None ≡ (if c && false then Some t else None)) [ true ↦ refl | false ↦ refl ]

pub above_more : (xs : List ℕ) (b : Bool) (n t : ℕ) → first_above (xs ++ ticket_where b t) n ≡ or_this (first_above xs n) (nat_lt n t && b) t
above_more xs b n t = find-append (λ x. nat_lt n x) xs (ticket_where b t) ∙ ap (option_or (first_above xs n)) (one_above b n t)

map_or : (x y : Option Begin) → option_map (λ b. b.owner) (option_or x y) ≡ option_or (option_map (λ b. b.owner) x) (option_map (λ b. b.owner) y)
map_or None y = refl
map_or (Some x) y = refl

one_owner : (o : Option Owner) (t a : ℕ) → owner_since (begin_with o t) a ≡ (if t == a then o else None)
one_owner None t a = elim (t == a) as (λ c. ◌≡◌ {A = Option Owner} None (if c then None else None)) [ true ↦ refl | false ↦ refl ]
one_owner (Some owner) t a =
    elim (t == a) as (λ c. option_map (λ (b : Begin). b.owner) (if c then Some (record { since = t; owner = owner }) else None) ≡ (if c then Some owner else None)) [ true ↦ refl | false ↦ refl ]

pub owner_since_more : (begins : List Begin) (o : Option Owner) (t a : ℕ) → owner_since (begins ++ begin_with o t) a ≡ option_or (owner_since begins a) (if t == a then o else None)
owner_since_more begins o t a =
    ap (option_map (λ (b : Begin). b.owner)) (find-append (λ b. b.since == a) begins (begin_with o t))
    ∙ map_or (find (λ b. b.since == a) begins) (find (λ b. b.since == a) (begin_with o t))
    ∙ ap (option_or (owner_since begins a)) (one_owner o t a)

-- ---- one more entry

-- with other flags that make the same owner
pub tell_more : (h : List Entry) (e : Entry) (r n : ℕ) (initialized : ℕ → Bool) (before after : Marks) → AreBelow e h → n ≤ e.ticket → owner_by r initialized e ≡ owner_by r (was_initialized h) e
    → IsNoted r initialized e.ticket e before after → MarksTell h n r before → MarksTell (h ++ e ∷ []) (e.ticket + 1) r after
tell_more h e r n initialized before after below le same noted tell = record {
  owner = λ a.
      owner_more h e r a below
      ∙ ap (λ (o : Option Owner). option_or o (if e.ticket == a then owner_by r (was_initialized h) e else None)) (tell.owner a)
      ∙ ap (λ (o : Option Owner). option_or (owner_since before.begins a) (if e.ticket == a then o else None)) (sym same)
      ∙ sym (owner_since_more before.begins (owner_by r initialized e) e.ticket a)
      ∙ ap (λ (bs : List Begin). owner_since bs a) (sym noted.begins);
  ended = λ a.
      ticket_after_more h e a (is_end r) ∙ ap (λ (o : Option ℕ). or_this o (nat_lt a e.ticket && is_end r e) e.ticket) (tell.ended a)
      ∙ sym (above_more before.ends (is_end r e) a e.ticket) ∙ ap (λ (xs : List ℕ). first_above xs a) (sym noted.ends);
  freed = λ a.
      ticket_after_more h e a (is_freeing r) ∙ ap (λ (o : Option ℕ). or_this o (nat_lt a e.ticket && is_freeing r e) e.ticket) (tell.freed a)
      ∙ sym (above_more before.frees (is_freeing r e) a e.ticket) ∙ ap (λ (xs : List ℕ). first_above xs a) (sym noted.frees);
  begins_rise = subst (λ (bs : List Begin). RiseBelow (e.ticket + 1) (begun_at bs)) (sym noted.begins) (begins_rise n e.ticket before.begins (owner_by r initialized e) tell.begins_rise le);
  ends_rise = subst (RiseBelow (e.ticket + 1)) (sym noted.ends) (rise_where n e.ticket before.ends (is_end r e) tell.ends_rise le);
  frees_rise = subst (RiseBelow (e.ticket + 1)) (sym noted.frees) (rise_where n e.ticket before.frees (is_freeing r e) tell.frees_rise le);
}

-- before any entry
pub tell_at_start : (r : ℕ) (m : Marks) → m.begins ≡ record { since = 0; owner = owners.Os } ∷ [] → m.ends ≡ [] → m.frees ≡ [] → MarksTell [] 1 r m
tell_at_start r m b e f = record {
  owner = λ a. ap (λ (o : Option Owner). o) (start_owner a) ∙ ap (λ (bs : List Begin). owner_since bs a) (sym b);
  ended = λ a. ap (λ (xs : List ℕ). first_above xs a) (sym e);
  freed = λ a. ap (λ (xs : List ℕ). first_above xs a) (sym f);
  begins_rise = subst (λ (bs : List Begin). RiseBelow 1 (begun_at bs)) (sym b) (record { rise = (omega arith, tt); below = (omega arith, tt) });
  ends_rise = subst (RiseBelow 1) (sym e) (record { rise = tt; below = tt });
  frees_rise = subst (RiseBelow 1) (sym f) (record { rise = tt; below = tt });
}
  where
    start_owner : (a : ℕ) → owner_of_period [] r a ≡ owner_since (record { since = 0; owner = owners.Os } ∷ []) a
    start_owner a = elim (cases_Bool (a == 0)) [
      | inl t ↦ subst (λ (n : ℕ). owner_of_period [] r n ≡ owner_since (record { since = 0; owner = owners.Os } ∷ []) n) (sym (eqb-true a 0 t)) refl
      | inr f ↦
          ap (λ (b : Bool). if b then Some owners.Os else None) f
          ∙ sym (ap (λ (b : Bool). option_map (λ (x : Begin). x.owner) (if b then Some (record { since = 0; owner = owners.Os }) else None)) (ne_eqb 0 a (λ e. eqb-false a 0 f (sym e))))
    ]

-- ---- a period

freed_same : (h : List Entry) (n r : ℕ) (m : Marks) → MarksTell h n r m → (b : Option ℕ) → option_and_then (λ at. ticket_after h at (is_freeing r)) b ≡ option_and_then (first_above m.frees) b
freed_same h n r m tell None = refl
freed_same h n r m tell (Some at) = tell.freed at

with_ends : ℕ → ℕ → Owner → Option ℕ → Option ℕ → Period
with_ends r a owner b z = record { region = r; owner = owner; since = a; blocked = b; freed = z }

ends_so : (h : List Entry) (n r a : ℕ) (m : Marks) → MarksTell h n r m → (owner : Owner) → period_with h r a owner ≡ period_by m r a owner
unfolding with_ends
ends_so h n r a m tell owner =
    ap (λ (b : Option ℕ). with_ends r a owner b (option_and_then (λ at. ticket_after h at (is_freeing r)) b)) (tell.ended a)
    ∙ ap (with_ends r a owner (first_above m.ends a)) (freed_same h n r m tell (first_above m.ends a))

owners_so : (h : List Entry) (n r a : ℕ) (m : Marks) → MarksTell h n r m → (o : Option Owner) → option_map (period_with h r a) o ≡ option_map (period_by m r a) o
owners_so h n r a m tell None = refl
owners_so h n r a m tell (Some owner) = ap Some (ends_so h n r a m tell owner)

-- what is kept tells each period of the region
pub period_told : (h : List Entry) (n r a : ℕ) (m : Marks) → MarksTell h n r m → period_in h r a ≡ option_map (period_by m r a) (owner_since m.begins a)
period_told h n r a m tell = owners_so h n r a m tell (owner_of_period h r a) ∙ ap (option_map (period_by m r a)) (tell.owner a)
