-- A call that loads nothing keeps what holds of the content: idle regions hold zeros, and the pages of a Loading
-- enclave hold its tables, and zeros from its next page on.
use Rattle.std.proofs.Common.{◌≡◌, inl, inr, ◌∙◌, ◌+◌, ◌*◌, ◌<◌, ◌≤◌, ℕ, Bool, true, false, cond, eqb, suc, ◌&&◌, Option, Some, None, List, [], ◌∷◌, ap, sym, refl, subst, arith}
use Rattle.std.specs.List.{find, All}
use Rattle.mon_types.specs.Bits.{has_bit}
use Rattle.mon_types.specs.Replies.{is_done}
use Rattle.mon_types.specs.Shape.{Shape, region_of_page}
use Rattle.mon_types.specs.declared.enclave.Enclave.{Enclave}
use Rattle.mon_types.specs.declared.enclave.Loaded.{Loaded}
use Rattle.mon_types.specs.declared.enclave.LoadedKind.{LoadedKind}
use Rattle.mon_types.specs.declared.enclave.LoadedKind.TheVariants as kinds
use Rattle.mon_types.specs.declared.call.Call.{Call}
use Rattle.mon_model.specs.State.{State, IsWhole, region_at, enclave_at, loaded_at}
use Rattle.mon_model.specs.RegionCalls.{is_loading}
use Rattle.mon_model.specs.Loading.{is_there_for, is_table_1, is_table_0, is_reserved}
use Rattle.mon_model.specs.EveryStep.{after_shape}
use Rattle.mon_model.specs.Step.{reply_of, after}
use Rattle.mon_facts.specs.Facts.{IsPlaced, FactsHold}
use Rattle.dram_map.specs.Addresses.{region_of_word}
use Rattle.sv39_pte.specs.Tables.{pte_index}
use Rattle.loaded_pages.specs.Content.{Content, region_zeroed}
use Rattle.mon_model.specs.RegionStep.{is_idle}
use Rattle.loaded_pages.specs.Facts.{word_in, IsTable, TablesHold, PagesHold, ContentHolds}
use Rattle.loaded_pages.proofs.Cases.{clash, none_some, some_same}
use Rattle.loaded_pages.proofs.Tables.{index_less}
use Rattle.loaded_pages.proofs.Changes.{zeroed_in, same_word, page_home}
use Rattle.loaded_pages.proofs.Idle.{emptied_if, after_idle, emptied_unowned}
use Rattle.loaded_pages.proofs.Later.{LoadsNothing, Stays, Begins, after_later}

-- ---- tables are in the set

-- what is found has the property of all, and passes the test
pub found_has : (P : Loaded → Type 0) (test : Loaded → Bool) (items : List Loaded) (t : Loaded) → All P items → find test items ≡ Some t → P t × (test t ≡ true)
found_has P test [] t h e = none_some e
found_has P test (x ∷ xs) t h e = by (test x) refl (λ g. found_has P test xs t (λ j d lt. h (suc j) d (omega arith)) g) e
  where
    by : (b : Bool) → test x ≡ b → (find test xs ≡ Some t → P t × (test t ≡ true)) → cond b (Some x) (find test xs) ≡ Some t → P t × (test t ≡ true)
    by true is g f = subst (λ z. P z × (test z ≡ true)) (some_same f) (h 0 x (omega arith), is)
    by false is g f = g f

not_reserved_1 : (kind : LoadedKind) (b : Bool) → (is_table_1 kind && b) ≡ true → is_reserved kind ≡ false
not_reserved_1 kinds.Table2 b h = refl
not_reserved_1 kinds.Table1 b h = refl
not_reserved_1 kinds.Table0 b h = refl
not_reserved_1 kinds.Page b h = refl
not_reserved_1 kinds.Reserved b h = sym h

not_reserved_0 : (kind : LoadedKind) (b : Bool) → (is_table_0 kind && b) ≡ true → is_reserved kind ≡ false
not_reserved_0 kinds.Table2 b h = refl
not_reserved_0 kinds.Table1 b h = refl
not_reserved_0 kinds.Table0 b h = refl
not_reserved_0 kinds.Page b h = refl
not_reserved_0 kinds.Reserved b h = sym h

-- a table's page is below the next, and in the set
pub record IsInside (m : Shape) (x : Enclave) (page : ℕ) : Type 0 where
  pub below : page < x.next_page
  pub in_set : has_bit x.regions (region_of_page m page) ≡ true

pub table_inside : (m : Shape) (x : Enclave) (items : List Loaded) (va : ℕ) (t : Loaded) → All (IsPlaced m x) items → IsTable items va t → IsInside m x t.page
table_inside m x items va t placed k = elim k [
  | inl e ↦ (let f = found_has (IsPlaced m x) (λ item. is_table_1 item.kind && is_there_for va item) items t placed e in record { below = f.0.below; in_set = f.0.in_set (not_reserved_1 t.kind _ f.1) })
  | inr e ↦ (let f = found_has (IsPlaced m x) (λ item. is_table_0 item.kind && is_there_for va item) items t placed e in record { below = f.0.below; in_set = f.0.in_set (not_reserved_0 t.kind _ f.1) })
]

pub root_inside : (s : State) (e root : ℕ) → FactsHold s → is_loading (enclave_at s e).stage ≡ true → (enclave_at s e).root ≡ Some root → IsInside s.shape (enclave_at s e) root
root_inside s e root facts load is = let r = facts.root_pages e root is in record { below = r.below; in_set = r.in_set load }

-- ---- the same words

pub tables_same : (items : List Loaded) (root : ℕ) (word now : ℕ → ℕ → ℕ) → ((i : ℕ) → i < 512 → now root i ≡ word root i) → ((va : ℕ) (t : Loaded) (i : ℕ) → IsTable items va t → i < 512 → now t.page i ≡ word t.page i) → TablesHold items root word → TablesHold items root now
tables_same items root word now a b h = record {
  first = λ va s. a (pte_index 2 va) (index_less 2 va) ∙ h.first va s;
  second = λ va t e. b va t (pte_index 1 va) (inl e) (index_less 1 va) ∙ h.second va t e;
  third = λ va t e. (let leaf = h.third va t e in (leaf.0, b va t (pte_index 0 va) (inr e) (index_less 0 va) ∙ leaf.1));
  parents = h.parents;
  children = h.children;
  beside = h.beside;
  levels = h.levels;
  apart_1 = h.apart_1;
  apart_0 = h.apart_0;
}

-- ---- an enclave that goes on loading, or begins

-- the enclave in slot e, whose record and items may be others later
pub pages_stay : (s : State) (e : ℕ) (f g : Content) (y : Enclave) (ys : List Loaded) → FactsHold s → Stays s (enclave_at s e) y (loaded_at s e) ys
    → ((p i : ℕ) → has_bit (enclave_at s e).regions (region_of_page s.shape p) ≡ true → i < 512 → word_in g p i ≡ word_in f p i) → ((p i : ℕ) → is_idle (region_at s (region_of_page s.shape p)) ≡ true → i < 512 → word_in g p i ≡ 0)
    → PagesHold s.shape (enclave_at s e) (loaded_at s e) f → PagesHold s.shape y ys g
pages_stay s e f g y ys facts st same blank h = subst (λ z. PagesHold s.shape y z g) (sym st.items) (record {
  tables = λ root is. (let old : (enclave_at s e).root ≡ Some root = sym st.root ∙ is in
      tables_same (loaded_at s e) root (word_in f) (word_in g)
      (λ i b. same root i (root_inside s e root facts st.loading old).in_set b)
      (λ va t i k b. same t.page i (table_inside s.shape (enclave_at s e) (loaded_at s e) va t (facts.placed e st.loading) k).in_set b)
      (h.tables root old));
  fresh = λ p i b n l. elim (st.regions (region_of_page s.shape p) b) [
    | inl k ↦ same p i k l ∙ h.fresh p i k (subst (λ z. z ≤ p) st.next n) l
    | inr k ↦ blank p i k l
  ];
})

pages_begin : (m : Shape) (y : Enclave) (ys : List Loaded) (f : Content) → Begins y ys → PagesHold m y ys f
pages_begin m y ys f b = record {
  tables = λ root e. none_some (sym b.root ∙ e);
  fresh = λ p i h n l. absurd (clash (sym (b.regions (region_of_page m p)) ∙ h));
}

-- ---- every call that loads nothing

zero_or : (m : Shape) (fr : Option ℕ) (f : Content) (i : ℕ) → f i ≡ 0 → region_zeroed m fr f i ≡ 0
unfolding region_zeroed
zero_or m None f i z = z
zero_or m (Some r) f i z = by (eqb (region_of_word m i) r)
  where
    by : (b : Bool) → cond b 0 (f i) ≡ 0
    by true = refl
    by false = z

pub content_kept : (s : State) (f : Content) (core : ℕ) (call : Call) (digest : List ℕ) (k : ℕ) → IsWhole s → FactsHold s → LoadsNothing call → ContentHolds s f
    → ContentHolds (after s core call digest k) (region_zeroed s.shape (emptied_if (is_done (reply_of s core call)) call) f)
content_kept s f core call digest k w facts nothing h =
    let t : State = after s core call digest k in
    let fr : Option ℕ = emptied_if (is_done (reply_of s core call)) call in
    let g : Content = region_zeroed s.shape fr f in
    let shape : t.shape ≡ s.shape = after_shape s core call digest k in
    let blank : (i : ℕ) → is_idle (region_at s (region_of_word s.shape i)) ≡ true → g i ≡ 0 = λ i e. zero_or s.shape fr f i (h.zeros i e) in
    record {
      zeros = λ i e. elim (after_idle s core call digest k (region_of_word s.shape i) (ap (λ z. is_idle (region_at t (region_of_word z i))) (sym shape) ∙ e)) [
        | inl c ↦ ap (λ z. region_zeroed s.shape z f i) c ∙ zeroed_in s.shape (region_of_word s.shape i) f i refl
        | inr b ↦ blank i b
      ];
      pages = λ e l. elim (after_later s core call digest k e w facts nothing l).is [
        | inl st ↦ subst (λ z. PagesHold z (enclave_at t e) (loaded_at t e) g) (sym shape)
            (pages_stay s e f g (enclave_at t e) (loaded_at t e) facts st
            (λ p i b l. same_word s.shape fr f (512 * p + i) (λ c. clash (sym (emptied_unowned s core call (region_of_word s.shape (512 * p + i)) facts c e) ∙ ap (has_bit (enclave_at s e).regions) (page_home s.shape p i l) ∙ b)))
            (λ p i b l. blank (512 * p + i) (ap (λ z. is_idle (region_at s z)) (page_home s.shape p i l) ∙ b))
            (h.pages e st.loading))
        | inr b ↦ pages_begin t.shape (enclave_at t e) (loaded_at t e) g b
      ];
    }
