-- For each core the list of its tickets, call by call.
use Rattle.std.proofs.Common.{◌≡◌, ◌≢◌, ℕ, zero, suc, ◌+◌, ◌<◌, ◌≤◌, ◌==◌, Bool, true, false, if◌then◌else◌, List, [], ◌∷◌, ◌++◌, length, take, get_or, set, replicate, slice_get, Option, Some, None, refl, sym, ap, subst, ◌∙◌, arith, append-nil, inl, inr}
use Rattle.std.proofs.lemmas.Bool.{eqb-true, eqb-false, eq-eqb, cases_Bool}
use Rattle.std.proofs.lemmas.List.{get_or_read_under, length-set, get_or-set_same, get_or-set_other, get_or-replicate, length-replicate, take_all}
use Rattle.hist.specs.declared.event.Entry.{Entry}
use Rattle.legal_report.specs.Counted.{tickets_of}
use Rattle.legal_report.specs.Kept.{KeepsTickets}
use Rattle.legal_report.proofs.Counting.{tickets_more, ticket_if}
use Rattle.legal_report.proofs.Firsts.{taken_more, as_long}

pub keeps_none : (cores : ℕ) (calls : List Entry) (lists : List (List ℕ)) → lists ≡ replicate cores [] → KeepsTickets cores (take 0 calls) lists
keeps_none cores calls lists is = record {
  count = ap length is ∙ length-replicate cores [];
  each = λ core lt. ap (λ (ls : List (List ℕ)). get_or ls core []) is ∙ get_or-replicate cores core [] [] lt;
}

one_list : (before : List Entry) (e : Entry) (core ticket : ℕ) (had now : List ℕ) (b : Bool) → e.core == core ≡ b → ticket ≡ length before + 1 → had ≡ tickets_of before core → now ≡ (if b then had ++ ticket ∷ [] else had)
    → now ≡ tickets_of (before ++ e ∷ []) core
one_list before e core ticket had now true is t h n =
    n ∙ ap (λ (ts : List ℕ). ts ++ ticket ∷ []) h ∙ ap (λ (x : ℕ). tickets_of before core ++ x ∷ []) t
    ∙ sym (tickets_more core before e ∙ ap (λ (b : Bool). tickets_of before core ++ ticket_if b (length before + 1)) is)
one_list before e core ticket had now false is t h n =
    n ∙ h ∙ sym (tickets_more core before e ∙ ap (λ (b : Bool). tickets_of before core ++ ticket_if b (length before + 1)) is ∙ append-nil (tickets_of before core))

pub keeps_more : (cores : ℕ) (calls : List Entry) (k : ℕ) (e : Entry) (lists now : List (List ℕ)) → slice_get calls k ≡ Some e → e.core < cores → KeepsTickets cores (take k calls) lists
    → now ≡ set lists e.core (get_or lists e.core [] ++ (k + 1) ∷ []) → KeepsTickets cores (take (k + 1) calls) now
keeps_more cores calls k e lists now there lt keeps is =
    subst (λ (es : List Entry). KeepsTickets cores es now) (sym (taken_more calls k e there))
    (record {
      count = ap length is ∙ length-set lists e.core (get_or lists e.core [] ++ (k + 1) ∷ []) ∙ keeps.count;
      each = λ core inside. one_list (take k calls) e core (k + 1) (get_or lists core []) (get_or now core []) (e.core == core) refl (ap (λ (n : ℕ). n + 1) (sym (as_long calls k e there))) (keeps.each core inside) (changed core inside);
    })
  where
    new : List ℕ
    new = get_or lists e.core [] ++ (k + 1) ∷ []

    changed : (core : ℕ) → core < cores → get_or now core [] ≡ (if e.core == core then get_or lists core [] ++ (k + 1) ∷ [] else get_or lists core [])
    changed core inside = elim (cases_Bool (e.core == core)) [
      | inl t ↦
          let same : e.core ≡ core = eqb-true e.core core t in
          ap (λ (ls : List (List ℕ)). get_or ls core []) is
          ∙ ap (λ (c : ℕ). get_or (set lists e.core new) c []) (sym same)
          ∙ get_or-set_same lists e.core new [] (omega (arith, keeps.count))
          ∙ ap (λ (c : ℕ). get_or lists c [] ++ (k + 1) ∷ []) same
          ∙ ap (λ (b : Bool). if b then get_or lists core [] ++ (k + 1) ∷ [] else get_or lists core []) (sym t)
      | inr f ↦
          ap (λ (ls : List (List ℕ)). get_or ls core []) is
          ∙ get_or-set_other lists e.core core new [] (λ s. eqb-false e.core core f (sym s))
          ∙ ap (λ (b : Bool). if b then get_or lists core [] ++ (k + 1) ∷ [] else get_or lists core []) (sym f)
    ]

pub keeps_all : (cores : ℕ) (calls : List Entry) (k : ℕ) (lists : List (List ℕ)) → length calls ≤ k → KeepsTickets cores (take k calls) lists → KeepsTickets cores calls lists
keeps_all cores calls k lists le keeps = subst (λ (es : List Entry). KeepsTickets cores es lists) (take_all k calls le) keeps

-- the list of a core, where it was read
pub list_of : (cores : ℕ) (calls : List Entry) (lists : List (List ℕ)) (core : ℕ) (read tickets : List ℕ) → KeepsTickets cores calls lists → core < cores → read ≡ get_or lists core read → tickets ≡ read → tickets ≡ tickets_of calls core
list_of cores calls lists core read tickets keeps lt is same =
    same ∙ get_or_read_under lists core cores read [] is lt (sym keeps.count) ∙ keeps.each core lt
