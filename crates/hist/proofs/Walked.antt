-- How far a walk over a history has come, and what it knows of a period then.
use Rattle.std.proofs.Common.{◌≡◌, ℕ, ◌<◌, Bool, true, false, ◌==◌, if◌then◌else◌, List, [], ◌∷◌, ◌++◌, replicate, Option, Some, None, IfSome, inl, inr, refl, sym, ap, subst, ◌∙◌, append_assoc, append-nil}
use Rattle.std.specs.Option.{option_map}
use Rattle.std.specs.List.{AllByRecursion}
use Rattle.std.proofs.lemmas.Bool.{eqb-false, cases_Bool}
use Rattle.std.proofs.lemmas.List.{get_or-replicate}
use Rattle.std.proofs.lemmas.List.Sums.{fold-append}
use Rattle.mon_types.specs.declared.region.Owner.{Owner}
use Rattle.mon_types.specs.declared.region.Owner.TheVariants as owners
use Rattle.mon_types.specs.declared.call.Call.{Call}
use Rattle.mon_types.specs.declared.call.Call.TheVariants as calls
use Rattle.mon_types.specs.declared.object.Tried.{Tried}
use Rattle.mon_types.specs.Owns.{os_word}
use Rattle.mon_types.specs.Replies.{is_done}
use Rattle.mon_model.specs.OnRegion.{owner_made}
use Rattle.hist.specs.declared.event.Entry.{Entry}
use Rattle.hist.specs.declared.period.Period.{Period}
use Rattle.hist.specs.Merging.{Ascend}
use Rattle.hist.specs.Period.{NameOwners, NamesOwner, was_initialized, initialized_after, owner_by, owner_of_period, period_with, period_in}
use Rattle.hist.specs.Walk.{flag_of, FlagsGoOn, known_after}
use Rattle.hist.proofs.Periods.{AreBelow, period_next}

-- these entries are gone, and what is known is what they tell
pub record Walked (h rest : List Entry) (r a : ℕ) (flags : List Bool) (known : Option Period) : Type 0 where
  pub gone : List Entry
  pub all : gone ++ rest ≡ h
  pub slots : (slot : ℕ) → slot < 8 → flag_of flags slot ≡ was_initialized gone slot
  pub period : known ≡ period_in gone r a

pub walked_first : (h : List Entry) (r a : ℕ) (known : Option Period) → known ≡ period_in [] r a → Walked h h r a (replicate 8 false) known
walked_first h r a known is = record { gone = []; all = refl; slots = λ slot lt. get_or-replicate 8 slot false false lt; period = is }

pub walked_last : (h : List Entry) (r a : ℕ) (flags : List Bool) (known : Option Period) → Walked h [] r a flags known → known ≡ period_in h r a
walked_last h r a flags known walked = walked.period ∙ ap (λ (es : List Entry). period_in es r a) (sym (append-nil walked.gone) ∙ walked.all)

-- ---- the next entry

below_next : (gone : List Entry) (e : Entry) (rest : List Entry) → Ascend (gone ++ e ∷ rest) → AreBelow e gone
below_next [] e rest ascend = tt
below_next (x ∷ gone) e rest ascend = (here gone ascend.0, below_next gone e rest ascend.1)
  where
    here : (xs : List Entry) → AllByRecursion (λ y. x.ticket < y.ticket) (xs ++ e ∷ rest) → x.ticket < e.ticket
    here [] all = all.0
    here (y ∷ xs) all = here xs all.1

names_next : (gone : List Entry) (e : Entry) (rest : List Entry) → NameOwners (gone ++ e ∷ rest) → is_done e.reply ≡ true → NamesOwner e.call
names_next [] e rest names = names.0
names_next (x ∷ gone) e rest names = names_next gone e rest names.1

pub walked_names : (h : List Entry) (e : Entry) (rest : List Entry) (r a : ℕ) (flags : List Bool) (known : Option Period) → NameOwners h → Walked h (e ∷ rest) r a flags known → is_done e.reply ≡ true → NamesOwner e.call
walked_names h e rest r a flags known names walked = names_next walked.gone e rest (subst NameOwners (sym walked.all) names)

pub walked_region : (h rest : List Entry) (r a : ℕ) (flags : List Bool) (known : Option Period) → r < 64 → Walked h rest r a flags known → IfSome known (λ p. p.region < 64)
walked_region h rest r a flags known lt walked = subst (λ (k : Option Period). IfSome k (λ p. p.region < 64)) (sym walked.period) (region_of (owner_of_period walked.gone r a))
  where
    region_of : (o : Option Owner) → IfSome (option_map (period_with walked.gone r a) o) (λ p. p.region < 64)
    region_of None = tt
    region_of (Some owner) = lt

-- flags that agree for each slot below 8 make the same owner
made_same : (r : ℕ) (f g : ℕ → Bool) → ((slot : ℕ) → slot < 8 → f slot ≡ g slot) → (call : Call) (tried : Tried) → NamesOwner call → owner_made r f call tried ≡ owner_made r g call tried
made_same r f g agree (calls.Assign q to) tried names = elim (cases_Bool (to == os_word)) [
  | inl t ↦
      ap (λ b. if q == r then (if b then Some owners.Os else if f to then None else Some (owners.Enclave to)) else None) t
      ∙ sym (ap (λ b. if q == r then (if b then Some owners.Os else if g to then None else Some (owners.Enclave to)) else None) t)
  | inr n ↦ ap (λ b. if q == r then (if to == os_word then Some owners.Os else if b then None else Some (owners.Enclave to)) else None) (agree to (names (eqb-false to os_word n)))
]
made_same r f g agree _ tried names = refl

-- and so they do for an entry
pub owner_same : (r : ℕ) (f g : ℕ → Bool) → ((slot : ℕ) → slot < 8 → f slot ≡ g slot) → (e : Entry) → (is_done e.reply ≡ true → NamesOwner e.call) → owner_by r f e ≡ owner_by r g e
owner_same r f g agree e names =
    (elim (is_done e.reply) as (λ b. is_done e.reply ≡ b → (if b then owner_made r f e.call e.tried else None) ≡ (if b then owner_made r g e.call e.tried else None)) [
      | true ↦ λ done. made_same r f g agree e.call e.tried (names done)
      | false ↦ λ refused. refl
    ])
    refl

pub walked_next : (h : List Entry) (e : Entry) (rest : List Entry) (r a : ℕ) (flags flags_after : List Bool) (known known_then : Option Period) → Ascend h → NameOwners h → Walked h (e ∷ rest) r a flags known
    → FlagsGoOn flags flags_after e → known_then ≡ known_after r a (flag_of flags) known e → Walked h rest r a flags_after known_then
walked_next h e rest r a flags flags_after known known_then ascend names walked goes is = record {
  gone = walked.gone ++ e ∷ [];
  all = append_assoc walked.gone (e ∷ []) rest ∙ walked.all;
  slots = λ slot lt. goes slot lt ∙ ap (λ b. initialized_after slot b e) (walked.slots slot lt) ∙ sym (fold-append (initialized_after slot) false walked.gone (e ∷ []));
  period =
      is ∙ ap (λ (k : Option Period). known_after r a (flag_of flags) k e) walked.period
      ∙ period_next walked.gone e r a (flag_of flags) (below_next walked.gone e rest (subst Ascend (sym walked.all) ascend))
      (owner_same r (flag_of flags) (was_initialized walked.gone) walked.slots e (walked_names h e rest r a flags known names walked));
}
