-- One item of a schedule is read as what it is in the grammar, and as nothing else.
use Rattle.std.proofs.Common.{◌≡◌, ℕ, ◌-◌, ◌^◌, ◌<◌, ltb, Bool, true, not, List, [], ◌∷◌, ◌++◌, length, Option, Some, None, refl, sym, ap, subst, ◌∙◌, arith, inl, inr}
use Rattle.std.specs.Prelude.{nat_lt, if◌then◌else◌}
use Rattle.std.specs.List.{list_all, before_first}
use Rattle.std.specs.Option.{option_and_then}
use Rattle.std.proofs.lemmas.Bool.{cases_Bool, and_from, eqb-true, ltb-true, lt-ltb}
use Rattle.std.proofs.lemmas.Bool.Decides.{nat_tests}
use Rattle.std.proofs.lemmas.List.{append-nil}
use Rattle.mon_types.specs.declared.script.StepItem.{StepItem}
use Rattle.text_in.specs.Bytes.{is_no_gap, is_star, Are, begins}
use Rattle.text_in.specs.Cuts.{from_first}
use Rattle.text_in.specs.Numbers.{IsDigit, AreDigits, IsDecimal, digits_number}
use Rattle.text_in.proofs.Cuts.{cut_is, cut_joins, cut_found, all_append}
use Rattle.text_in.proofs.Decimals.{PassesDigits}
use Rattle.text_in.proofs.Numbers.{whole_read, whole_is, up_to_is, up_to_read}
use Rattle.script_read.specs.Schedule.{IsCore, IsItem, core_of, steps_of, item_with, item_of}

-- ---- digits

digit_passes : (p : ℕ → Bool) → PassesDigits p → (byte digit : ℕ) → digit < 10 → IsDigit byte digit → p byte ≡ true
digit_passes p each byte digit lt (inl h) = ap p h.1 ∙ each digit lt
digit_passes p each byte digit lt (inr h) = absurd (omega (arith, h.0, lt))

digits_pass : (p : ℕ → Bool) → PassesDigits p → (word : List ℕ) (n : ℕ) → AreDigits 10 word n → list_all p word ≡ true
digits_pass p each [] n h = refl
digits_pass p each (b ∷ bs) n h = and_from (p b) (list_all p bs) (digit_passes p each b h.0 h.2 h.3) (digits_pass p each bs h.1 h.4)

digits_no_gap : PassesDigits is_no_gap
digits_no_gap = λ digit lt. grind (arith, nat_tests)

digits_no_star : PassesDigits (λ b. not (is_star b))
digits_no_star = λ digit lt. grind (arith, nat_tests)

-- an item has bytes, and no gap among them
pub record IsPiece (word : List ℕ) : Type 0 where
  pub some : 0 < length word
  pub whole : Are is_no_gap word

pub item_piece : (cores : ℕ) (word : List ℕ) (item : StepItem) → IsItem cores word item → IsPiece word
item_piece cores word item (inl h) = record { some = h.0.1.0; whole = digits_pass is_no_gap digits_no_gap word item.core h.0.1.1 }
item_piece cores word item (inr h) = rw h.word_is (counted h.core h.steps h.is_core.1 h.are_steps)
  where
    counted : (core steps : List ℕ) → IsDecimal core item.core → IsDecimal steps item.count → IsPiece (core ++ 42 ∷ steps)
    counted [] steps c s = absurd (omega (arith, c.0))
    counted (b ∷ bs) steps c s = record {
      some = omega arith;
      whole = all_append is_no_gap (b ∷ bs) (42 ∷ steps) (digits_pass is_no_gap digits_no_gap (b ∷ bs) item.core c.1) (digits_pass is_no_gap digits_no_gap steps item.count s.1);
    }

-- ---- what is in the grammar

core_read : (cores : ℕ) (digits : List ℕ) (core : ℕ) → IsCore cores digits core → core_of cores digits ≡ Some core
core_read cores digits core h = rw (whole_read 10 digits core h.1.0 h.1.1) (rw (lt-ltb core cores h.0) refl)

steps_read : (steps : List ℕ) (n : ℕ) → n < 2 ^ 32 → IsDecimal steps n → steps_of (42 ∷ steps) ≡ Some n
steps_read steps n lt h = up_to_read (2 ^ 32 - 1) (digits_number 10 steps) n (whole_read 10 steps n h.0 h.1) (omega (arith, lt))

-- an item whose word is cut at its star
cut_read : (cores : ℕ) (word digits behind : List ℕ) (item : StepItem) → before_first is_star word ≡ digits → from_first is_star word ≡ behind → core_of cores digits ≡ Some item.core → steps_of behind ≡ Some item.count → item_of cores word ≡ Some item
unfolding item_of
cut_read cores word digits behind item d b c s = rw (d, b, c, s) refl

pub item_read : (cores : ℕ) (word : List ℕ) (item : StepItem) → IsItem cores word item → item_of cores word ≡ Some item
item_read cores word item (inl h) =
    let cut = cut_is is_star word [] (digits_pass (λ b. not (is_star b)) digits_no_star word item.core h.0.1.1) refl in
    let same : word ++ [] ≡ word = append-nil word in
    cut_read cores word word [] item (ap (before_first is_star) (sym same) ∙ cut.0) (ap (from_first is_star) (sym same) ∙ cut.1) (core_read cores word item.core h.0) (ap (λ (n : ℕ). Some n) (sym h.1))
item_read cores word item (inr h) =
    let cut = cut_is is_star h.core (42 ∷ h.steps) (digits_pass (λ b. not (is_star b)) digits_no_star h.core item.core h.is_core.1.1) refl in
    cut_read cores word h.core (42 ∷ h.steps) item (ap (before_first is_star) h.word_is ∙ cut.0) (ap (from_first is_star) h.word_is ∙ cut.1) (core_read cores h.core item.core h.is_core) (steps_read h.steps item.count h.few h.are_steps)

-- ---- what is read

core_by : (cores : ℕ) (digits : List ℕ) (core : ℕ) (o : Option ℕ) → digits_number 10 digits ≡ o → option_and_then (λ n. if nat_lt n cores then Some n else None) o ≡ Some core → IsCore cores digits core
core_by cores digits core None r h = absurd cc
core_by cores digits core (Some n) r h =
    elim (cases_Bool (ltb n cores)) [
      | inl t ↦
          let found : Some n ≡ Some core = rw t at h in
          let is : n ≡ core = cc in
          subst (IsCore cores digits) is (ltb-true n cores t, whole_is 10 digits n r)
      | inr f ↦ let found : None ≡ Some core = rw f at h in absurd cc
    ]

core_found : (cores : ℕ) (digits : List ℕ) (core : ℕ) → core_of cores digits ≡ Some core → IsCore cores digits core
core_found cores digits core h = core_by cores digits core (digits_number 10 digits) refl h

parts_found : (core steps : Option ℕ) (item : StepItem) → item_with core steps ≡ Some item → (core ≡ Some item.core) × (steps ≡ Some item.count)
parts_found None steps item h = absurd cc
parts_found (Some k) None item h = absurd cc
parts_found (Some k) (Some n) item h =
    let made : StepItem = record { core = k; count = n } in
    let found : Some made ≡ Some item = h in
    let is : made ≡ item = cc in
    (ap (λ (i : StepItem). Some i.core) is, ap (λ (i : StepItem). Some i.count) is)

item_by : (cores : ℕ) (word digits behind : List ℕ) (item : StepItem) → word ≡ digits ++ behind → begins is_star behind ≡ true → core_of cores digits ≡ Some item.core → steps_of behind ≡ Some item.count → IsItem cores word item
item_by cores word digits [] item w star c s =
    let whole : word ≡ digits = w ∙ append-nil digits in
    let one : 1 ≡ item.count = cc in
    inl (subst (λ (x : List ℕ). IsCore cores x item.core) (sym whole) (core_found cores digits item.core c), sym one)
item_by cores word digits (b ∷ steps) item w star c s =
    let number = up_to_is (2 ^ 32 - 1) (digits_number 10 steps) item.count s in
    inr (record {
      core = digits;
      steps = steps;
      word_is = w ∙ ap (λ (x : ℕ). digits ++ x ∷ steps) (eqb-true b 42 star);
      is_core = core_found cores digits item.core c;
      are_steps = whole_is 10 steps item.count number.0;
      few = omega (arith, number.1);
    })

pub item_found : (cores : ℕ) (word : List ℕ) (item : StepItem) → item_of cores word ≡ Some item → IsItem cores word item
unfolding item_of
item_found cores word item h =
    let parts = parts_found (core_of cores (before_first is_star word)) (steps_of (from_first is_star word)) item h in
    item_by cores word (before_first is_star word) (from_first is_star word) item (cut_joins is_star word) (cut_found is_star word).1 parts.0 parts.1
