-- Names that stand apart, each once, and what looking one up finds.
use Rattle.std.proofs.Common.{◌≡◌, ℕ, ◌+◌, ◌<◌, ◌≤◌, true, false, ◌==◌, List, [], ◌∷◌, ◌++◌, Some, refl, sym, ap, ◌∙◌, arith, inl, inr}
use Rattle.std.specs.Prelude.{⊤}
use Rattle.std.specs.Str.{bytes_eq}
use Rattle.std.proofs.lemmas.Bool.{cases_Bool, eqb-true, not-false, false_from_ne_true}
use Rattle.std.proofs.lemmas.Map.Entries.{lookup_head, lookup_tail}
use Rattle.std.proofs.lemmas.Slice.Eq.{bytes_eq-Decides}
use Rattle.rv_asm.specs.declared.label.Spot.{Spot}
use Rattle.rv_asm.specs.Statements.{Spots}
use Rattle.rv_asm.specs.Reading.{spot_in, is_elsewhere}
use Rattle.rv_asm.specs.Grammar.{Label, StandsAt, AreApart}
use Rattle.rv_asm.proofs.OperandGrammar.{Agrees}

-- ---- names apart

-- the name is none of these
abbrev pub IsNew : {X : Type 0} → List ℕ → List (List ℕ × X) → Type 0
IsNew name [] = ⊤
IsNew name (entry ∷ entries) = (name ≡ entry.0 → ⊥) × IsNew name entries

-- no name stands twice, entry by entry
abbrev pub AreNew : {X : Type 0} → List (List ℕ × X) → Type 0
AreNew [] = ⊤
AreNew (entry ∷ entries) = IsNew entry.0 entries × AreNew entries

new_from : (name : List ℕ) (labels : List Label) → ((between after : List Label) (n : ℕ) → labels ≡ between ++ (name, n) ∷ after → ⊥) → IsNew name labels
new_from name [] h = tt
new_from name (label ∷ labels) h = (
  (λ same. h [] labels label.1 (ap (λ (x : List ℕ). (x, label.1) ∷ labels) (sym same))),
  new_from name labels (λ between after n e. h (label ∷ between) after n (ap (λ (x : List Label). label ∷ x) e)),
)

-- labels that are apart are so entry by entry
pub new_from_apart : (labels : List Label) → AreApart labels → AreNew labels
new_from_apart [] h = tt
new_from_apart (label ∷ labels) h = (
  new_from label.0 labels (λ between after n e. h [] between after label.0 label.1 n (ap (λ (x : List Label). label ∷ x) e)),
  new_from_apart labels (λ before between after name m n e. h (label ∷ before) between after name m n (ap (λ (x : List Label). label ∷ x) e)),
)

not_behind : (name : List ℕ) (labels between after : List Label) (n : ℕ) → IsNew name labels → labels ≡ between ++ (name, n) ∷ after → ⊥
not_behind name [] [] after n new e = absurd cc
not_behind name [] (b ∷ between) after n new e = absurd cc
not_behind name (label ∷ labels) [] after n new e = new.0 cc
not_behind name (label ∷ labels) (b ∷ between) after n new e = not_behind name labels between after n new.1 cc

-- labels that are apart entry by entry are apart
pub apart_from_new : (labels : List Label) → AreNew labels → AreApart labels
apart_from_new [] new [] between after name m n e = absurd cc
apart_from_new [] new (b ∷ before) between after name m n e = absurd cc
apart_from_new (label ∷ labels) new [] between after name m n e =
    let same : label ≡ (name, m) = cc in
    let rest : labels ≡ between ++ (name, n) ∷ after = cc in
    not_behind label.0 labels between after n new.0 (rest ∙ ap (λ (x : Label). between ++ (x.0, n) ∷ after) (sym same))
apart_from_new (label ∷ labels) new (b ∷ before) between after name m n e = apart_from_new labels new.1 before between after name m n cc

-- ---- labels without their lines

-- the names and the words of these entries
abbrev pub placed : List (List ℕ × Spot) → List Label
placed [] = []
placed (entry ∷ entries) = (entry.0, entry.1.words) ∷ placed entries

is_new_placed : (name : List ℕ) (entries : List (List ℕ × Spot)) → IsNew name entries → IsNew name (placed entries)
is_new_placed name [] new = tt
is_new_placed name (entry ∷ entries) new = (new.0, is_new_placed name entries new.1)

-- without their lines they are as much apart
pub new_placed : (entries : List (List ℕ × Spot)) → AreNew entries → AreNew (placed entries)
new_placed [] new = tt
new_placed (entry ∷ entries) new = (is_new_placed entry.0 entries new.0, new_placed entries new.1)

is_new_entries : (name : List ℕ) (entries : List (List ℕ × Spot)) → IsNew name (placed entries) → IsNew name entries
is_new_entries name [] new = tt
is_new_entries name (entry ∷ entries) new = (new.0, is_new_entries name entries new.1)

-- and with them
pub new_entries : (entries : List (List ℕ × Spot)) → AreNew (placed entries) → AreNew entries
new_entries [] new = tt
new_entries (entry ∷ entries) new = (is_new_entries entry.0 entries new.0, new_entries entries new.1)

-- ---- looking up

same_name : (name : List ℕ) → bytes_eq name name ≡ true
same_name name = (bytes_eq-Decides name name).1 refl

other_name : (name other : List ℕ) → (name ≡ other → ⊥) → bytes_eq name other ≡ false
other_name name other h = false_from_ne_true (bytes_eq name other) (λ e. h ((bytes_eq-Decides name other).0 e))

-- each entry is the one that its name finds
abbrev pub AreFound : Spots → List (List ℕ × Spot) → Type 0
AreFound spots [] = ⊤
AreFound spots (entry ∷ entries) = (spots entry.0 ≡ Some entry.1) × AreFound spots entries

-- entries of other names are found behind one more entry
found_behind : (entry : List ℕ × Spot) (all entries : List (List ℕ × Spot)) → IsNew entry.0 entries → AreFound (spot_in all) entries → AreFound (spot_in (entry ∷ all)) entries
found_behind entry all [] new found = tt
found_behind entry all (next ∷ entries) new found = (
  lookup_tail (bytes_eq next.0) entry all (other_name next.0 entry.0 (λ same. new.0 (sym same))) ∙ found.0,
  found_behind entry all entries new.1 found.1,
)

-- entries of names that are apart are found
pub new_found : (entries : List (List ℕ × Spot)) → AreNew entries → AreFound (spot_in entries) entries
new_found [] new = tt
new_found (entry ∷ entries) new = (lookup_head (bytes_eq entry.0) entry entries (same_name entry.0), found_behind entry entries entries new.0 (new_found entries new.1))

stands_found : (spots : Spots) (entries : List (List ℕ × Spot)) (word : List ℕ) (there : ℕ) (before after : List Label) → AreFound spots entries → placed entries ≡ before ++ (word, there) ∷ after
    → (line : ℕ) × (spots word ≡ Some (record { line = line; words = there }))
stands_found spots [] word there [] after found e = absurd cc
stands_found spots [] word there (b ∷ before) after found e = absurd cc
stands_found spots (entry ∷ entries) word there [] after found e =
    let same : ◌≡◌ {A = Label} (entry.0, entry.1.words) (word, there) = cc in
    (entry.1.line, ap (λ (x : Label). spots x.0) (sym same) ∙ found.0 ∙ ap (λ (x : Label). Some (record { line = entry.1.line; words = x.1 })) same)
stands_found spots (entry ∷ entries) word there (b ∷ before) after found e = stands_found spots entries word there before after found.1 cc

found_stands : (entries : List (List ℕ × Spot)) (word : List ℕ) (spot : Spot) → spot_in entries word ≡ Some spot → StandsAt (placed entries) word spot.words
found_stands [] word spot h = absurd cc
found_stands (entry ∷ entries) word spot h =
    elim (cases_Bool (bytes_eq word entry.0)) [
      | inl t ↦
          let named : word ≡ entry.0 = (bytes_eq-Decides word entry.0).0 t in
          let there : Some entry.1 ≡ Some spot = sym (lookup_head (bytes_eq word) entry entries t) ∙ h in
          let same : entry.1 ≡ spot = cc in
          ([], placed entries, ap (λ (x : Label). x ∷ placed entries) (rw (named, same) refl))
      | inr f ↦
          let more = found_stands entries word spot (sym (lookup_tail (bytes_eq word) entry entries f) ∙ h) in
          ((entry.0, entry.1.words) ∷ more.0, more.1, ap (λ (x : List Label). (entry.0, entry.1.words) ∷ x) more.2)
    ]

-- what looking up finds among names that are apart is where they stand
pub found_agrees : (entries : List (List ℕ × Spot)) → AreNew entries → Agrees (placed entries) (spot_in entries)
found_agrees entries new word label =
    ((λ there stands. stands_found (spot_in entries) entries word there stands.0 stands.1 (new_found entries new) stands.2), (λ spot h. found_stands entries word spot h))

-- ---- lines that rise

-- the lines of these entries rise, from this one on
abbrev pub IsRising : ℕ → List (List ℕ × Spot) → Type 0
IsRising n [] = ⊤
IsRising n (entry ∷ entries) = (n ≤ entry.1.line) × IsRising (entry.1.line + 1) entries

-- no entry's name is found at another line
abbrev pub AreSingle : Spots → List (List ℕ × Spot) → Type 0
AreSingle spots [] = ⊤
AreSingle spots (entry ∷ entries) = (is_elsewhere entry.1.line (spots entry.0) ≡ false) × AreSingle spots entries

-- an entry whose name is found at its own line has not the name of an earlier line, found first
not_earlier : (entry next : List ℕ × Spot) (all : List (List ℕ × Spot)) → entry.1.line < next.1.line → is_elsewhere next.1.line (spot_in (entry ∷ all) next.0) ≡ false → entry.0 ≡ next.0 → ⊥
not_earlier entry next all lt single same =
    let there : spot_in (entry ∷ all) next.0 ≡ Some entry.1 = lookup_head (bytes_eq next.0) entry all ((bytes_eq-Decides next.0 entry.0).1 (sym same)) in
    let here : entry.1.line ≡ next.1.line = eqb-true entry.1.line next.1.line (not-false (entry.1.line == next.1.line) (sym (ap (is_elsewhere next.1.line) there) ∙ single)) in
    omega arith

-- behind the first entry none has its name, and each is found without it
new_behind : (entry : List ℕ × Spot) (all entries : List (List ℕ × Spot)) (n : ℕ) → entry.1.line < n → IsRising n entries → AreSingle (spot_in (entry ∷ all)) entries → IsNew entry.0 entries × AreSingle (spot_in all) entries
new_behind entry all [] n lt rising single = (tt, tt)
new_behind entry all (next ∷ entries) n lt rising single =
    let after : n ≤ next.1.line = rising.0 in
    let new = not_earlier entry next all (omega arith) single.0 in
    let more = new_behind entry all entries (next.1.line + 1) (omega arith) rising.1 single.1 in
    let hides_not = lookup_tail (bytes_eq next.0) entry all (other_name next.0 entry.0 (λ same. new (sym same))) in
    ((new, more.0), (sym (ap (is_elsewhere next.1.line) hides_not) ∙ single.0, more.1))

-- where lines rise, names that are found at their own lines are apart
pub single_new : (entries : List (List ℕ × Spot)) (n : ℕ) → IsRising n entries → AreSingle (spot_in entries) entries → AreNew entries
single_new [] n rising single = tt
single_new (entry ∷ entries) n rising single =
    let more = new_behind entry entries entries (entry.1.line + 1) (omega arith) rising.1 single.1 in
    (more.0, single_new entries (entry.1.line + 1) rising.1 more.1)
