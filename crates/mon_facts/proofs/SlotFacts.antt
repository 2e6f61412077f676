-- Records and items of enclave slots after each kind of change.
use Rattle.std.proofs.Common.{◌≡◌, ℕ, ◌+◌, ◌<◌, ◌≤◌, true, false, Some, None, List, [], ◌∷◌, ◌++◌, length, get_or, slice_set, All, inl, inr, refl, sym, ap, subst, ◌∙◌, arith, true≢false}
use Rattle.std.proofs.lemmas.List.{get_or-set_same, get_or-set_other}
use Rattle.std.proofs.lemmas.List.Elements.{All-nil, All-push, All-weaker}
use Rattle.std.proofs.lemmas.Bool.Decides.{eqb_tells}
use Rattle.mon_types.specs.Shape.{Shape, region_of_page}
use Rattle.mon_types.specs.Enclaves.{empty_enclave}
use Rattle.mon_types.specs.declared.enclave.Stage.{Stage}
use Rattle.mon_types.specs.declared.enclave.Stage.TheVariants as stages
use Rattle.mon_types.specs.declared.enclave.Enclave.{Enclave}
use Rattle.mon_types.specs.declared.enclave.Loaded.{Loaded}
use Rattle.mon_types.specs.Bits.{has_bit}
use Rattle.mon_model.specs.RegionCalls.{is_empty, is_loading, is_initialized}
use Rattle.mon_model.specs.Loading.{is_reserved}
use Rattle.mon_facts.specs.Facts.{IsPlaced, IsRootPlaced}
use Rattle.mon_facts.proofs.OneChanged.{at_set}

-- ---- stages

pub loading-not_empty : (stage : Stage) → is_loading stage ≡ true → is_empty stage ≡ false
loading-not_empty stages.Empty h = absurd (true≢false (sym h))
loading-not_empty stages.Loading h = refl
loading-not_empty stages.Initialized h = absurd (true≢false (sym h))

pub initialized-not_empty : (stage : Stage) → is_initialized stage ≡ true → is_empty stage ≡ false
initialized-not_empty stages.Empty h = absurd (true≢false (sym h))
initialized-not_empty stages.Loading h = absurd (true≢false (sym h))
initialized-not_empty stages.Initialized h = refl

pub initialized-not_loading : (stage : Stage) → is_initialized stage ≡ true → is_loading stage ≡ false
initialized-not_loading stages.Empty h = absurd (true≢false (sym h))
initialized-not_loading stages.Loading h = absurd (true≢false (sym h))
initialized-not_loading stages.Initialized h = refl

-- ---- records of Empty slots

abbrev pub IsBlank : Enclave → Type 0
IsBlank x = is_empty x.stage ≡ true → x ≡ empty_enclave

-- `EmptyAreBlank` of the table
abbrev pub AreBlank : List Enclave → Type 0
AreBlank es = (e : ℕ) → IsBlank (get_or es e empty_enclave)

pub not_empty-blank : (x : Enclave) → is_empty x.stage ≡ false → IsBlank x
not_empty-blank x h empty = absurd (true≢false (sym empty ∙ h))

pub blank-set : (es : List Enclave) (i : ℕ) (x : Enclave) → i < length es → IsBlank x → AreBlank es → AreBlank (slice_set es i x)
blank-set es i x lt new h e = at_set IsBlank es i e x empty_enclave lt (λ is. new) (λ apart. h e)

-- ---- items

abbrev pub ArePlacedIn : Shape → Enclave → List Loaded → Type 0
ArePlacedIn shape x items = is_loading x.stage ≡ true → All (IsPlaced shape x) items

-- `LoadedArePlaced` of the tables
abbrev pub ArePlaced : Shape → List Enclave → List (List Loaded) → Type 0
ArePlaced shape es ls = (e : ℕ) → ArePlacedIn shape (get_or es e empty_enclave) (get_or ls e [])

pub placed-enclave : (shape : Shape) (es : List Enclave) (ls : List (List Loaded)) (i : ℕ) (x : Enclave) → i < length es → ArePlacedIn shape x (get_or ls i []) → ArePlaced shape es ls → ArePlaced shape (slice_set es i x) ls
placed-enclave shape es ls i x lt new h e =
    at_set (λ (y : Enclave). ArePlacedIn shape y (get_or ls e [])) es i e x empty_enclave lt (λ is. rw is new) (λ apart. h e)

pub placed-slot : (shape : Shape) (es : List Enclave) (ls : List (List Loaded)) (i : ℕ) (x : Enclave) (items : List Loaded) → i < length es → i < length ls → ArePlacedIn shape x items → ArePlaced shape es ls → ArePlaced shape (slice_set es i x) (slice_set ls i items)
placed-slot shape es ls i x items p q new h e =
    elim (eqb_tells e i) [
      | inl (t, is) ↦ rw (is, get_or-set_same es i x empty_enclave p, get_or-set_same ls i items [] q) new
      | inr (f, apart) ↦ rw (get_or-set_other es i e x empty_enclave apart, get_or-set_other ls i e items [] apart) (h e)
    ]

-- a page stays placed where the next page and the set do not shrink
pub placed-weaker : (shape : Shape) (x y : Enclave) (items : List Loaded) → x.next_page ≤ y.next_page → ((r : ℕ) → has_bit x.regions r ≡ true → has_bit y.regions r ≡ true) → All (IsPlaced shape x) items → All (IsPlaced shape y) items
placed-weaker shape x y items more wider = All-weaker (IsPlaced shape x) (IsPlaced shape y) (λ item p. record { below = omega (arith, p.below); in_set = λ kind. wider _ (p.in_set kind) }) items

-- ---- roots, and all that is said of what a slot has loaded

pub record IsFilled (shape : Shape) (x : Enclave) (items : List Loaded) : Type 0 where
  pub placed : ArePlacedIn shape x items
  pub root_pages : (page : ℕ) → x.root ≡ Some page → IsRootPlaced shape x page
  pub rootless : x.root ≡ None → items ≡ []

-- `RootsArePlaced` and `RootlessAreEmpty` of the tables
abbrev pub AreRooted : Shape → List Enclave → Type 0
AreRooted shape es = (e page : ℕ) → (get_or es e empty_enclave).root ≡ Some page → IsRootPlaced shape (get_or es e empty_enclave) page

abbrev pub AreUnfilled : List Enclave → List (List Loaded) → Type 0
AreUnfilled es ls = (e : ℕ) → (get_or es e empty_enclave).root ≡ None → get_or ls e [] ≡ []

pub roots-enclave : (shape : Shape) (es : List Enclave) (i : ℕ) (x : Enclave) → i < length es → ((page : ℕ) → x.root ≡ Some page → IsRootPlaced shape x page) → AreRooted shape es → AreRooted shape (slice_set es i x)
roots-enclave shape es i x lt new h e =
    at_set (λ (y : Enclave). (page : ℕ) → y.root ≡ Some page → IsRootPlaced shape y page) es i e x empty_enclave lt (λ is. new) (λ apart. h e)

pub rootless-enclave : (es : List Enclave) (ls : List (List Loaded)) (i : ℕ) (x : Enclave) → i < length es → (x.root ≡ None → get_or ls i [] ≡ []) → AreUnfilled es ls → AreUnfilled (slice_set es i x) ls
rootless-enclave es ls i x lt new h e =
    at_set (λ (y : Enclave). y.root ≡ None → get_or ls e [] ≡ []) es i e x empty_enclave lt (λ is. rw is new) (λ apart. h e)

pub rootless-slot : (es : List Enclave) (ls : List (List Loaded)) (i : ℕ) (x : Enclave) (items : List Loaded) → i < length es → i < length ls → (x.root ≡ None → items ≡ []) → AreUnfilled es ls → AreUnfilled (slice_set es i x) (slice_set ls i items)
rootless-slot es ls i x items p q new h e =
    elim (eqb_tells e i) [
      | inl (t, is) ↦ rw (is, get_or-set_same es i x empty_enclave p, get_or-set_same ls i items [] q) new
      | inr (f, apart) ↦ rw (get_or-set_other es i e x empty_enclave apart, get_or-set_other ls i e items [] apart) (h e)
    ]

-- a record with the same root and next page, whose set does not shrink while it is Loading
pub filled-weaker : (shape : Shape) (x y : Enclave) (items : List Loaded) → y.root ≡ x.root → y.next_page ≡ x.next_page
    → (is_loading y.stage ≡ true → (is_loading x.stage ≡ true) × ((r : ℕ) → has_bit x.regions r ≡ true → has_bit y.regions r ≡ true)) → IsFilled shape x items → IsFilled shape y items
filled-weaker shape x y items root next wider h = record {
  placed = λ load. placed-weaker shape x y items (omega (arith, next)) (wider load).1 (h.placed (wider load).0);
  root_pages = λ page is. (let was = h.root_pages page (sym root ∙ is) in record { below = omega (arith, was.below, next); in_set = λ load. (wider load).1 _ (was.in_set (wider load).0) });
  rootless = λ none. h.rootless (sym root ∙ none);
}

pub some-none : {P : Type 0} (page : ℕ) → None ≡ Some page → P
some-none page e = absurd (cc)

-- without a root nothing is loaded
pub filled-none : (shape : Shape) (x : Enclave) → x.root ≡ None → IsFilled shape x []
filled-none shape x none = record {
  placed = λ load. All-nil _;
  root_pages = λ page is. some-none page (sym none ∙ is);
  rootless = λ e. refl;
}

-- one more item, in a page that is not below the next, with a root that is placed
pub filled-more : (shape : Shape) (x y : Enclave) (items : List Loaded) (item : Loaded) (root : ℕ) → is_loading x.stage ≡ true → x.next_page ≤ item.page → y.regions ≡ x.regions → y.next_page ≡ item.page + 1
    → (is_reserved item.kind ≡ false → has_bit x.regions (region_of_page shape item.page) ≡ true) → y.root ≡ Some root → root < y.next_page → has_bit x.regions (region_of_page shape root) ≡ true
    → IsFilled shape x items → IsFilled shape y (items ++ item ∷ [])
filled-more shape x y items item root load le set next lies is low there h =
    let keeps : (r : ℕ) → has_bit x.regions r ≡ true → has_bit y.regions r ≡ true = λ r has. ap (λ (w : ℕ). has_bit w r) set ∙ has in
    record {
      placed = λ _. All-push (IsPlaced shape y) items item (placed-weaker shape x y items (omega arith) keeps (h.placed load)) (record { below = omega arith; in_set = λ kind. keeps _ (lies kind) });
      root_pages = λ page e. subst (IsRootPlaced shape y) (some-same (sym is ∙ e)) (record { below = low; in_set = λ _. keeps _ there });
      rootless = λ none. some-none root (sym none ∙ is);
    }
  where
    some-same : {a b : ℕ} → Some a ≡ Some b → a ≡ b
    some-same e = cc
