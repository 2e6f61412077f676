-- The words of table pages against the loaded items: one more item of each kind, and its pte, keep that they agree.
use Rattle.std.proofs.Common.{◌≡◌, ◌≢◌, ◌⊎◌, inl, inr, ℕ, ◌+◌, ◌*◌, ◌/◌, ◌%◌, ◌^◌, ◌<◌, ◌∙◌, arith, Bool, true, false, cond, eqb, ◌&&◌, List, [], ◌∷◌, ◌++◌, Option, Some, None, is_some, refl, ap, sym, arith}
use Rattle.std.specs.List.{find}
use Rattle.std.proofs.lemmas.Bool.{cases_eq, eq-eqb, ne_eqb}
use Rattle.mon_types.specs.declared.enclave.Loaded.{Loaded}
use Rattle.mon_types.specs.declared.enclave.LoadedKind.{LoadedKind}
use Rattle.mon_types.specs.declared.enclave.LoadedKind.TheVariants as kinds
use Rattle.mon_model.specs.Loading.{served_part, is_there_for, is_table_1, is_table_0, is_leaf}
use Rattle.sv39_pte.specs.Tables.{pte_index}
use Rattle.mon_enclaves.specs.FromItems.{table_1_for, table_0_for, leaf_for, pte_of_table, pte_of_leaf}
use Rattle.loaded_pages.specs.Facts.{IsTable, TablesHold}
use Rattle.loaded_pages.proofs.Cases.{clash, none_some, some_same}

unfoldable pub put : (ℕ → ℕ → ℕ) → ℕ → ℕ → ℕ → ℕ → ℕ → ℕ
put word p i x q j = cond (eqb p q) (cond (eqb i j) x (word q j)) (word q j)

pub index_less : (level va : ℕ) → pte_index level va < 512
index_less level va = let x = va / 2 ^ (12 + 9 * level) in omega arith

pub put_same : (word : ℕ → ℕ → ℕ) (p i x j : ℕ) → i ≡ j → put word p i x p j ≡ x
unfolding put
put_same word p i x j e = ap (λ b. cond b (cond (eqb i j) x (word p j)) (word p j)) (eq-eqb p p refl) ∙ ap (λ b. cond b x (word p j)) (eq-eqb i j e)

pub put_other : (word : ℕ → ℕ → ℕ) (p i x q j : ℕ) → (p ≡ q → ⊥) → put word p i x q j ≡ word q j
unfolding put
put_other word p i x q j ne = ap (λ b. cond b (cond (eqb i j) x (word q j)) (word q j)) (ne_eqb p q ne)

pub put_beside : (word : ℕ → ℕ → ℕ) (p i x j : ℕ) → (i ≡ j → ⊥) → put word p i x p j ≡ word p j
unfolding put
put_beside word p i x j ne = ap (λ b. cond b (cond (eqb i j) x (word p j)) (word p j)) (eq-eqb p p refl) ∙ ap (λ b. cond b x (word p j)) (ne_eqb i j ne)

-- ---- one more item

pub find_more : {X : Type 0} (test : X → Bool) (xs : List X) (x : X) → ((t : X) × (find test xs ≡ Some t) × (find test (xs ++ x ∷ []) ≡ Some t)) ⊎ ((find test xs ≡ None) × (find test (xs ++ x ∷ []) ≡ cond (test x) (Some x) None))
find_more test [] x = inr (refl, refl)
find_more {X} test (y ∷ ys) x = by (test y) (find_more test ys x)
  where
    by : (b : Bool) → ((t : X) × (find test ys ≡ Some t) × (find test (ys ++ x ∷ []) ≡ Some t)) ⊎ ((find test ys ≡ None) × (find test (ys ++ x ∷ []) ≡ cond (test x) (Some x) None)) →
        ((t : X) × (cond b (Some y) (find test ys) ≡ Some t) × (cond b (Some y) (find test (ys ++ x ∷ [])) ≡ Some t)) ⊎ ((cond b (Some y) (find test ys) ≡ None) × (cond b (Some y) (find test (ys ++ x ∷ [])) ≡ cond (test x) (Some x) None))
    by true h = inl (y, refl, refl)
    by false h = h

find_without : {X : Type 0} (test : X → Bool) (xs : List X) (x : X) → test x ≡ false → find test (xs ++ x ∷ []) ≡ find test xs
find_without test xs x e = elim (find_more test xs x) [
  | inl h ↦ h.2 ∙ sym h.1
  | inr h ↦ h.1 ∙ ap (λ b. cond b (Some x) None) e ∙ sym h.0
]

find_same : {X : Type 0} (f g : X → Bool) (xs : List X) → ((x : X) → f x ≡ g x) → find f xs ≡ find g xs
find_same f g [] h = refl
find_same f g (x ∷ xs) h = ap (λ b. cond b (Some x) (find f xs)) (h x) ∙ ap (λ o. cond (g x) (Some x) o) (find_same f g xs h)

-- what is there for addresses with the same part
same_1 : (va other : ℕ) → other / 2 ^ 30 ≡ va / 2 ^ 30 → (kind : LoadedKind) (at : ℕ) → (is_table_1 kind && eqb (served_part kind at) (served_part kind other)) ≡ (is_table_1 kind && eqb (served_part kind at) (served_part kind va))
same_1 va other e kinds.Table2 at = refl
same_1 va other e kinds.Table1 at = ap (eqb (at / 2 ^ 30)) e
same_1 va other e kinds.Table0 at = refl
same_1 va other e kinds.Page at = refl
same_1 va other e kinds.Reserved at = refl

same_0 : (va other : ℕ) → other / 2 ^ 21 ≡ va / 2 ^ 21 → (kind : LoadedKind) (at : ℕ) → (is_table_0 kind && eqb (served_part kind at) (served_part kind other)) ≡ (is_table_0 kind && eqb (served_part kind at) (served_part kind va))
same_0 va other e kinds.Table2 at = refl
same_0 va other e kinds.Table1 at = refl
same_0 va other e kinds.Table0 at = ap (eqb (at / 2 ^ 21)) e
same_0 va other e kinds.Page at = refl
same_0 va other e kinds.Reserved at = refl

same_leaf : (va other : ℕ) → other / 2 ^ 12 ≡ va / 2 ^ 12 → (kind : LoadedKind) (at : ℕ) → (is_leaf kind && eqb (served_part kind at) (served_part kind other)) ≡ (is_leaf kind && eqb (served_part kind at) (served_part kind va))
same_leaf va other e kinds.Table2 at = refl
same_leaf va other e kinds.Table1 at = refl
same_leaf va other e kinds.Table0 at = refl
same_leaf va other e kinds.Page at = ap (eqb (at / 2 ^ 12)) e
same_leaf va other e kinds.Reserved at = ap (eqb (at / 2 ^ 12)) e

same_tables_1 : (va other : ℕ) (items : List Loaded) → other / 2 ^ 30 ≡ va / 2 ^ 30 → table_1_for other items ≡ table_1_for va items
same_tables_1 va other items e = find_same _ _ items (λ x. same_1 va other e x.kind x.va)

same_tables_0 : (va other : ℕ) (items : List Loaded) → other / 2 ^ 21 ≡ va / 2 ^ 21 → table_0_for other items ≡ table_0_for va items
same_tables_0 va other items e = find_same _ _ items (λ x. same_0 va other e x.kind x.va)

same_leaves : (va other : ℕ) (items : List Loaded) → other / 2 ^ 12 ≡ va / 2 ^ 12 → leaf_for other items ≡ leaf_for va items
same_leaves va other items e = find_same _ _ items (λ x. same_leaf va other e x.kind x.va)

-- addresses by their parts
top : (a b : ℕ) → a < 2 ^ 38 → b < 2 ^ 38 → a / 2 ^ 30 % 512 ≡ b / 2 ^ 30 % 512 → b / 2 ^ 30 ≡ a / 2 ^ 30
top a b h k e = omega arith

middle : (a b : ℕ) → a / 2 ^ 30 ≡ b / 2 ^ 30 → a / 2 ^ 21 % 512 ≡ b / 2 ^ 21 % 512 → b / 2 ^ 21 ≡ a / 2 ^ 21
middle a b h e = omega arith

bottom : (a b : ℕ) → a / 2 ^ 21 ≡ b / 2 ^ 21 → a / 2 ^ 12 % 512 ≡ b / 2 ^ 12 % 512 → b / 2 ^ 12 ≡ a / 2 ^ 12
bottom a b h e = omega arith

lower : (a b : ℕ) → a / 2 ^ 21 ≡ b / 2 ^ 21 → a / 2 ^ 30 ≡ b / 2 ^ 30
lower a b e = omega arith

lowest : (a b : ℕ) → a / 2 ^ 12 ≡ b / 2 ^ 12 → a / 2 ^ 21 ≡ b / 2 ^ 21
lowest a b e = omega arith

no_child : (o p : Option Loaded) → (is_some o ≡ true → is_some p ≡ true) → p ≡ None → o ≡ None
no_child None p h e = refl
no_child (Some t) p h e = absurd (clash (sym (ap is_some e) ∙ h refl))

abbrev pub item : LoadedKind → ℕ → ℕ → Loaded
item kind va page = record { kind = kind; va = va; page = page }

-- ---- one more table of level 1

module _ (items : List Loaded) (root va page : ℕ) (word : ℕ → ℕ → ℕ) (small : va < 2 ^ 38) (paths : TablesHold items root word) (none : table_1_for va items ≡ None) (fresh : (i : ℕ) → i < 512 → word page i ≡ 0) (apart : page ≢ root) (new : (other : ℕ) (t : Loaded) → IsTable items other t → t.page ≢ page) where
  abbrev more_1 : List Loaded
  more_1 = items ++ item kinds.Table1 va page ∷ []

  abbrev now_1 : ℕ → ℕ → ℕ
  now_1 = put word root (pte_index 2 va) (pte_of_table (Some (item kinds.Table1 va page)))

  found_1 : (other : ℕ) → ((other / 2 ^ 30 ≡ va / 2 ^ 30) × (table_1_for other more_1 ≡ Some (item kinds.Table1 va page))) ⊎ ((other / 2 ^ 30 ≢ va / 2 ^ 30) × (table_1_for other more_1 ≡ table_1_for other items))
  found_1 other = elim (cases_eq (va / 2 ^ 30) (other / 2 ^ 30)) [
    | inl e ↦ inl (
      sym e,
      elim (find_more (λ item. is_table_1 item.kind && is_there_for other item) items (item kinds.Table1 va page)) [
        | inl h ↦ absurd (none_some (sym none ∙ sym (same_tables_1 va other items (sym e)) ∙ h.1))
        | inr h ↦ h.1 ∙ ap (λ b. cond b (Some (item kinds.Table1 va page)) None) (eq-eqb (va / 2 ^ 30) (other / 2 ^ 30) e)
      ],
    )
    | inr ne ↦ inr ((λ e. ne (sym e)), find_without _ items (item kinds.Table1 va page) (ne_eqb (va / 2 ^ 30) (other / 2 ^ 30) ne))
  ]

  same_0_1 : (other : ℕ) → table_0_for other more_1 ≡ table_0_for other items
  same_0_1 other = find_without _ items (item kinds.Table1 va page) refl

  same_leaf_1 : (other : ℕ) → leaf_for other more_1 ≡ leaf_for other items
  same_leaf_1 other = find_without _ items (item kinds.Table1 va page) refl

  -- a table of level 1 that is there now: the new one, or an old one
  pub old_1 : (other : ℕ) (t : Loaded) → table_1_for other more_1 ≡ Some t → ((other / 2 ^ 30 ≡ va / 2 ^ 30) × (t.page ≡ page)) ⊎ (table_1_for other items ≡ Some t)
  old_1 other t e = elim (found_1 other) [ inl h ↦ inl (h.0, ap (λ z. z.page) (some_same (sym e ∙ h.1))) | inr h ↦ inr (sym h.1 ∙ e) ]

  pub old_0 : (other : ℕ) (t : Loaded) → table_0_for other more_1 ≡ Some t → table_0_for other items ≡ Some t
  old_0 other t e = sym (same_0_1 other) ∙ e

  pub table_1_kept : TablesHold more_1 root now_1
  table_1_kept = record {
    first = λ other s. elim (found_1 other) [
      | inl h ↦ put_same word root (pte_index 2 va) _ (pte_index 2 other) (ap (λ z. z % 512) (sym h.0)) ∙ ap pte_of_table (sym h.1)
      | inr h ↦ put_beside word root (pte_index 2 va) _ (pte_index 2 other) (λ e. h.0 (top va other small s e)) ∙ paths.first other s ∙ ap pte_of_table (sym h.1)
    ];
    second = λ other t e. elim (old_1 other t e) [
      | inl h ↦ ap (λ z. now_1 z (pte_index 1 other)) h.1 ∙ put_other word root (pte_index 2 va) _ page (pte_index 1 other) (λ f. apart (sym f)) ∙ fresh (pte_index 1 other) (index_less 1 other)
          ∙ ap pte_of_table (sym (no_child (table_0_for other items) (table_1_for other items) (paths.parents other) (same_tables_1 va other items h.0 ∙ none))) ∙ ap pte_of_table (sym (same_0_1 other))
      | inr h ↦ put_other word root (pte_index 2 va) _ t.page (pte_index 1 other) (λ f. paths.beside other t (inl h) (sym f)) ∙ paths.second other t h ∙ ap pte_of_table (sym (same_0_1 other))
    ];
    third = λ other t e.
        (let old = old_0 other t e in
        let leaf = paths.third other t old in
        (leaf.0, put_other word root (pte_index 2 va) _ t.page (pte_index 0 other) (λ f. paths.beside other t (inr old) (sym f)) ∙ leaf.1 ∙ ap (λ o. pte_of_leaf o leaf.0) (sym (same_leaf_1 other))));
    parents = λ other s. elim (found_1 other) [
      | inl h ↦ ap is_some h.1
      | inr h ↦ ap is_some h.1 ∙ paths.parents other (sym (ap is_some (same_0_1 other)) ∙ s)
    ];
    children = λ other s. ap is_some (same_0_1 other) ∙ paths.children other (sym (ap is_some (same_leaf_1 other)) ∙ s);
    beside = λ other t s. elim s [
      | inl e ↦ elim (old_1 other t e) [ inl h ↦ λ f. apart (sym h.1 ∙ f) | inr h ↦ paths.beside other t (inl h) ]
      | inr e ↦ paths.beside other t (inr (old_0 other t e))
    ];
    levels = λ a b t u e f. elim (old_1 a t e) [
      | inl h ↦ λ g. new b u (inr (old_0 b u f)) (sym g ∙ h.1)
      | inr h ↦ paths.levels a b t u h (old_0 b u f)
    ];
    apart_1 = λ a b t u e f g. elim (old_1 a t e) [
      | inl h ↦ elim (old_1 b u f) [ inl k ↦ h.0 ∙ sym k.0 | inr k ↦ absurd (new b u (inl k) (sym g ∙ h.1)) ]
      | inr h ↦ elim (old_1 b u f) [ inl k ↦ absurd (new a t (inl h) (g ∙ k.1)) | inr k ↦ paths.apart_1 a b t u h k g ]
    ];
    apart_0 = λ a b t u e f g. paths.apart_0 a b t u (old_0 a t e) (old_0 b u f) g;
  }

-- ---- one more table of level 0, below t1

module _ (items : List Loaded) (root va page : ℕ) (word : ℕ → ℕ → ℕ) (paths : TablesHold items root word) (t1 : Loaded) (up : table_1_for va items ≡ Some t1) (none : table_0_for va items ≡ None) (fresh : (i : ℕ) → i < 512 → word page i ≡ 0) (apart : page ≢ root) (new : (other : ℕ) (t : Loaded) → IsTable items other t → t.page ≢ page) where
  abbrev more_0 : List Loaded
  more_0 = items ++ item kinds.Table0 va page ∷ []

  abbrev now_0 : ℕ → ℕ → ℕ
  now_0 = put word t1.page (pte_index 1 va) (pte_of_table (Some (item kinds.Table0 va page)))

  found_0 : (other : ℕ) → ((other / 2 ^ 21 ≡ va / 2 ^ 21) × (table_0_for other more_0 ≡ Some (item kinds.Table0 va page))) ⊎ ((other / 2 ^ 21 ≢ va / 2 ^ 21) × (table_0_for other more_0 ≡ table_0_for other items))
  found_0 other = elim (cases_eq (va / 2 ^ 21) (other / 2 ^ 21)) [
    | inl e ↦ inl (
      sym e,
      elim (find_more (λ item. is_table_0 item.kind && is_there_for other item) items (item kinds.Table0 va page)) [
        | inl h ↦ absurd (none_some (sym none ∙ sym (same_tables_0 va other items (sym e)) ∙ h.1))
        | inr h ↦ h.1 ∙ ap (λ b. cond b (Some (item kinds.Table0 va page)) None) (eq-eqb (va / 2 ^ 21) (other / 2 ^ 21) e)
      ],
    )
    | inr ne ↦ inr ((λ e. ne (sym e)), find_without _ items (item kinds.Table0 va page) (ne_eqb (va / 2 ^ 21) (other / 2 ^ 21) ne))
  ]

  same_1_0 : (other : ℕ) → table_1_for other more_0 ≡ table_1_for other items
  same_1_0 other = find_without _ items (item kinds.Table0 va page) refl

  same_leaf_0 : (other : ℕ) → leaf_for other more_0 ≡ leaf_for other items
  same_leaf_0 other = find_without _ items (item kinds.Table0 va page) refl

  pub was_1 : (other : ℕ) (t : Loaded) → table_1_for other more_0 ≡ Some t → table_1_for other items ≡ Some t
  was_1 other t e = sym (same_1_0 other) ∙ e

  pub was_0 : (other : ℕ) (t : Loaded) → table_0_for other more_0 ≡ Some t → ((other / 2 ^ 21 ≡ va / 2 ^ 21) × (t.page ≡ page)) ⊎ (table_0_for other items ≡ Some t)
  was_0 other t e = elim (found_0 other) [ inl h ↦ inl (h.0, ap (λ z. z.page) (some_same (sym e ∙ h.1))) | inr h ↦ inr (sym h.1 ∙ e) ]

  at_root : t1.page ≢ root
  at_root = paths.beside va t1 (inl up)

  in_second : (other : ℕ) (t : Loaded) → table_1_for other items ≡ Some t → now_0 t.page (pte_index 1 other) ≡ pte_of_table (table_0_for other more_0)
  in_second other t h = elim (cases_eq t1.page t.page) [
    | inl e ↦ let key : va / 2 ^ 30 ≡ other / 2 ^ 30 = paths.apart_1 va other t1 t up h e in
        ap (λ z. now_0 z (pte_index 1 other)) (sym e) ∙ elim (found_0 other) [
          | inl k ↦ put_same word t1.page (pte_index 1 va) _ (pte_index 1 other) (ap (λ z. z % 512) (sym k.0)) ∙ ap pte_of_table (sym k.1)
          | inr k ↦ put_beside word t1.page (pte_index 1 va) _ (pte_index 1 other) (λ f. k.0 (middle va other key f)) ∙ ap (λ z. word z (pte_index 1 other)) e ∙ paths.second other t h ∙ ap pte_of_table (sym k.1)
        ]
    | inr ne ↦ put_other word t1.page (pte_index 1 va) _ t.page (pte_index 1 other) ne ∙ paths.second other t h ∙ ap pte_of_table (elim (found_0 other) [
      | inl k ↦ absurd (ne (ap (λ z. z.page) (some_same (sym up ∙ sym (same_tables_1 va other items (lower other va k.0)) ∙ h))))
      | inr k ↦ sym k.1
    ])
  ]

  pub table_0_kept : TablesHold more_0 root now_0
  table_0_kept = record {
    first = λ other s. put_other word t1.page (pte_index 1 va) _ root (pte_index 2 other) at_root ∙ paths.first other s ∙ ap pte_of_table (sym (same_1_0 other));
    second = λ other t e. in_second other t (was_1 other t e);
    third = λ other t e. elim (was_0 other t e) [
      | inl h ↦ (
        0,
        ap (λ z. now_0 z (pte_index 0 other)) h.1 ∙ put_other word t1.page (pte_index 1 va) _ page (pte_index 0 other) (new va t1 (inl up)) ∙ fresh (pte_index 0 other) (index_less 0 other)
            ∙ ap (λ o. pte_of_leaf o 0) (sym (no_child (leaf_for other items) (table_0_for other items) (paths.children other) (same_tables_0 va other items h.0 ∙ none)) ∙ sym (same_leaf_0 other)),
      )
      | inr h ↦ let leaf = paths.third other t h in
          (leaf.0, put_other word t1.page (pte_index 1 va) _ t.page (pte_index 0 other) (paths.levels va other t1 t up h) ∙ leaf.1 ∙ ap (λ o. pte_of_leaf o leaf.0) (sym (same_leaf_0 other)))
    ];
    parents = λ other s. elim (found_0 other) [
      | inl h ↦ ap is_some (same_1_0 other ∙ same_tables_1 va other items (lower other va h.0) ∙ up)
      | inr h ↦ ap is_some (same_1_0 other) ∙ paths.parents other (sym (ap is_some h.1) ∙ s)
    ];
    children = λ other s. elim (found_0 other) [
      | inl h ↦ ap is_some h.1
      | inr h ↦ ap is_some h.1 ∙ paths.children other (sym (ap is_some (same_leaf_0 other)) ∙ s)
    ];
    beside = λ other t s. elim s [
      | inl e ↦ paths.beside other t (inl (was_1 other t e))
      | inr e ↦ elim (was_0 other t e) [ inl h ↦ λ f. apart (sym h.1 ∙ f) | inr h ↦ paths.beside other t (inr h) ]
    ];
    levels = λ a b t u e f. elim (was_0 b u f) [
      | inl h ↦ λ g. new a t (inl (was_1 a t e)) (g ∙ h.1)
      | inr h ↦ paths.levels a b t u (was_1 a t e) h
    ];
    apart_1 = λ a b t u e f g. paths.apart_1 a b t u (was_1 a t e) (was_1 b u f) g;
    apart_0 = λ a b t u e f g. elim (was_0 a t e) [
      | inl h ↦ elim (was_0 b u f) [ inl k ↦ h.0 ∙ sym k.0 | inr k ↦ absurd (new b u (inr k) (sym g ∙ h.1)) ]
      | inr h ↦ elim (was_0 b u f) [ inl k ↦ absurd (new a t (inr h) (g ∙ k.1)) | inr k ↦ paths.apart_0 a b t u h k g ]
    ];
  }

-- ---- one more leaf, below t0

module _ (items : List Loaded) (root va page perms : ℕ) (kind : LoadedKind) (word : ℕ → ℕ → ℕ) (paths : TablesHold items root word) (leaf : (is_leaf kind ≡ true) × (is_table_1 kind ≡ false) × (is_table_0 kind ≡ false)) (part : (at : ℕ) → served_part kind at ≡ at / 2 ^ 12) (t0 : Loaded) (up : table_0_for va items ≡ Some t0) (none : leaf_for va items ≡ None) where
  abbrev more_leaf : List Loaded
  more_leaf = items ++ item kind va page ∷ []

  abbrev now_leaf : ℕ → ℕ → ℕ
  now_leaf = put word t0.page (pte_index 0 va) (pte_of_leaf (Some (item kind va page)) perms)

  test_leaf : (other : ℕ) → (is_leaf kind && eqb (served_part kind va) (served_part kind other)) ≡ eqb (va / 2 ^ 12) (other / 2 ^ 12)
  test_leaf other = ap (λ b. b && eqb (served_part kind va) (served_part kind other)) leaf.0 ∙ ap (λ z. eqb z (served_part kind other)) (part va) ∙ ap (eqb (va / 2 ^ 12)) (part other)

  found_leaf : (other : ℕ) → ((other / 2 ^ 12 ≡ va / 2 ^ 12) × (leaf_for other more_leaf ≡ Some (item kind va page))) ⊎ ((other / 2 ^ 12 ≢ va / 2 ^ 12) × (leaf_for other more_leaf ≡ leaf_for other items))
  found_leaf other = elim (cases_eq (va / 2 ^ 12) (other / 2 ^ 12)) [
    | inl e ↦ inl (
      sym e,
      elim (find_more (λ item. is_leaf item.kind && is_there_for other item) items (item kind va page)) [
        | inl h ↦ absurd (none_some (sym none ∙ sym (same_leaves va other items (sym e)) ∙ h.1))
        | inr h ↦ h.1 ∙ ap (λ b. cond b (Some (item kind va page)) None) (test_leaf other ∙ eq-eqb (va / 2 ^ 12) (other / 2 ^ 12) e)
      ],
    )
    | inr ne ↦ inr ((λ e. ne (sym e)), find_without _ items (item kind va page) (test_leaf other ∙ ne_eqb (va / 2 ^ 12) (other / 2 ^ 12) ne))
  ]

  pub same_1_leaf : (other : ℕ) → table_1_for other more_leaf ≡ table_1_for other items
  same_1_leaf other = find_without _ items (item kind va page) (ap (λ b. b && eqb (served_part kind va) (served_part kind other)) leaf.1)

  pub same_0_leaf : (other : ℕ) → table_0_for other more_leaf ≡ table_0_for other items
  same_0_leaf other = find_without _ items (item kind va page) (ap (λ b. b && eqb (served_part kind va) (served_part kind other)) leaf.2)

  in_third : (other : ℕ) (t : Loaded) → table_0_for other items ≡ Some t → (perms : ℕ) × (now_leaf t.page (pte_index 0 other) ≡ pte_of_leaf (leaf_for other more_leaf) perms)
  in_third other t h = elim (cases_eq t0.page t.page) [
    | inl e ↦ let key : va / 2 ^ 21 ≡ other / 2 ^ 21 = paths.apart_0 va other t0 t up h e in
        elim (found_leaf other) [
          | inl k ↦ (perms, ap (λ z. now_leaf z (pte_index 0 other)) (sym e) ∙ put_same word t0.page (pte_index 0 va) _ (pte_index 0 other) (ap (λ z. z % 512) (sym k.0)) ∙ ap (λ o. pte_of_leaf o perms) (sym k.1))
          | inr k ↦ let old = paths.third other t h in
              (old.0, ap (λ z. now_leaf z (pte_index 0 other)) (sym e) ∙ put_beside word t0.page (pte_index 0 va) _ (pte_index 0 other) (λ f. k.0 (bottom va other key f)) ∙ ap (λ z. word z (pte_index 0 other)) e ∙ old.1 ∙ ap (λ o. pte_of_leaf o old.0) (sym k.1))
        ]
    | inr ne ↦ let old = paths.third other t h in (
      old.0,
      put_other word t0.page (pte_index 0 va) _ t.page (pte_index 0 other) ne ∙ old.1 ∙ ap (λ o. pte_of_leaf o old.0) (elim (found_leaf other) [
        | inl k ↦ absurd (ne (ap (λ z. z.page) (some_same (sym up ∙ sym (same_tables_0 va other items (lowest other va k.0)) ∙ h))))
        | inr k ↦ sym k.1
      ]),
    )
  ]

  pub leaf_kept : TablesHold more_leaf root now_leaf
  leaf_kept = record {
    first = λ other s. put_other word t0.page (pte_index 0 va) _ root (pte_index 2 other) (paths.beside va t0 (inr up)) ∙ paths.first other s ∙ ap pte_of_table (sym (same_1_leaf other));
    second = λ other t e. (let h : table_1_for other items ≡ Some t = sym (same_1_leaf other) ∙ e in
        put_other word t0.page (pte_index 0 va) _ t.page (pte_index 1 other) (λ f. paths.levels other va t t0 h up (sym f)) ∙ paths.second other t h ∙ ap pte_of_table (sym (same_0_leaf other)));
    third = λ other t e. in_third other t (sym (same_0_leaf other) ∙ e);
    parents = λ other s. ap is_some (same_1_leaf other) ∙ paths.parents other (sym (ap is_some (same_0_leaf other)) ∙ s);
    children = λ other s. elim (found_leaf other) [
      | inl h ↦ ap is_some (same_0_leaf other ∙ same_tables_0 va other items (lowest other va h.0) ∙ up)
      | inr h ↦ ap is_some (same_0_leaf other) ∙ paths.children other (sym (ap is_some h.1) ∙ s)
    ];
    beside = λ other t s. elim s [
      | inl e ↦ paths.beside other t (inl (sym (same_1_leaf other) ∙ e))
      | inr e ↦ paths.beside other t (inr (sym (same_0_leaf other) ∙ e))
    ];
    levels = λ a b t u e f. paths.levels a b t u (sym (same_1_leaf a) ∙ e) (sym (same_0_leaf b) ∙ f);
    apart_1 = λ a b t u e f g. paths.apart_1 a b t u (sym (same_1_leaf a) ∙ e) (sym (same_1_leaf b) ∙ f) g;
    apart_0 = λ a b t u e f g. paths.apart_0 a b t u (sym (same_0_leaf a) ∙ e) (sym (same_0_leaf b) ∙ f) g;
  }
