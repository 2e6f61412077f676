-- A walk that is answered by ptes one after the other is the relation's.
use Rattle.std.proofs.Common.{◌≡◌, ℕ, List, [], ◌∷◌, ◌++◌, length, true, false, refl, sym, ap, subst, ◌∙◌, arith}
use Rattle.mon_types.specs.declared.thread.Mode.{Mode}
use Rattle.sv39_pte.specs.declared.pte.Access.{Access}
use Rattle.sv39_pte.specs.Pte.{ppn_of}
use Rattle.sv39_walk.specs.declared.walk.WalkState.{WalkState}
use Rattle.sv39_walk.specs.declared.walk.WalkState.TheVariants as states
use Rattle.sv39_walk.specs.Relation.{is_canonical, pte_address, LeadsDown, WalkRelation}
use Rattle.sv39_walk.specs.Walking.{Walking, IsEnd, first_state, begun, answered}
use Rattle.sv39_walk.specs.Laws.{Answered, EndsByRelation, AsksNext, WishesByRelation}
use Rattle.sv39_walk.proofs.Steps.{first_wish, first_wishes, first_end, first_ends, ends_at, at_end, below, goes_below, wish_leads_down, wish_below, no_wish_at_0}

-- ---- a walk goes on

-- where a pte leads down, what follows is a walk in the table below
go : (w : Walking) (pte : ℕ) (ptes addresses : List ℕ) (state : WalkState) → LeadsDown pte w.level w.access w.mode
    → Answered (answered w pte) ptes addresses state → Answered (below w pte) ptes addresses state
go w pte ptes addresses state down h =
    subst (λ (u : Walking). Answered u ptes addresses state) (goes_below w pte down) h

back : (w : Walking) (pte : ℕ) (ptes addresses : List ℕ) (state : WalkState) → LeadsDown pte w.level w.access w.mode
    → Answered (below w pte) ptes addresses state → Answered (answered w pte) ptes addresses state
back w pte ptes addresses state down h =
    subst (λ (u : Walking). Answered u ptes addresses state) (sym (goes_below w pte down)) h

one : (x p : ℕ) → x ≡ p → (xs : List ℕ) → xs ≡ [] → x ∷ xs ≡ p ∷ []
one x p e xs f = cc

heads : (x p : ℕ) → x ≡ p → (xs ps : List ℕ) → xs ≡ ps → x ∷ xs ≡ p ∷ ps
heads x p e xs ps f = cc

-- ---- what is answered is related

related : (root va : ℕ) (access : Access) (mode : Mode) (ptes addresses : List ℕ) (end : WalkState)
    → Answered (begun root va access mode) ptes addresses end → IsEnd end
    → WalkRelation root va access mode ptes addresses end
related root va access mode [] xs end h over =
    let f : (is_canonical va ≡ false) × (end ≡ states.PageFault) = first_end root va end h.1 over in
    (f.0, h.0, f.1)
related root va access mode (a ∷ ptes) [] end h over = absurd h
related root va access mode (a ∷ []) (x ∷ xs) end h over =
    let w : Walking = begun root va access mode in
    let f : (is_canonical va ≡ true) × (x ≡ pte_address root 2 va) = first_wish root va x h.0 in
    (f.0, one x _ f.1 xs h.1.0, ends_at w a end h.1.1 over)
related root va access mode (a ∷ b ∷ ptes) (x ∷ []) end h over = absurd h.1
related root va access mode (a ∷ b ∷ []) (x ∷ y ∷ xs) end h over =
    let w : Walking = begun root va access mode in
    let f : (is_canonical va ≡ true) × (x ≡ pte_address root 2 va) = first_wish root va x h.0 in
    let down : LeadsDown a 2 access mode = wish_leads_down w a y h.1.0 in
    let rest : Answered (below w a) (b ∷ []) (y ∷ xs) end = go w a (b ∷ []) (y ∷ xs) end down h.1 in
    (f.0, down, heads x _ f.1 _ _ (one y _ (wish_below w a y h.1.0) xs rest.1.0), ends_at (below w a) b end rest.1.1 over)
related root va access mode (a ∷ b ∷ c ∷ ptes) (x ∷ y ∷ []) end h over = absurd h.1.1
related root va access mode (a ∷ b ∷ c ∷ []) (x ∷ y ∷ z ∷ xs) end h over =
    let w : Walking = begun root va access mode in
    let f : (is_canonical va ≡ true) × (x ≡ pte_address root 2 va) = first_wish root va x h.0 in
    let down : LeadsDown a 2 access mode = wish_leads_down w a y h.1.0 in
    let rest : Answered (below w a) (b ∷ c ∷ []) (y ∷ z ∷ xs) end =
    go w a (b ∷ c ∷ []) (y ∷ z ∷ xs) end down h.1 in
    let down1 : LeadsDown b 1 access mode = wish_leads_down (below w a) b z rest.1.0 in
    let rest1 : Answered (below (below w a) b) (c ∷ []) (z ∷ xs) end =
    go (below w a) b (c ∷ []) (z ∷ xs) end down1 rest.1 in (
      f.0,
      down,
      down1,
      heads x _ f.1 _ _ (heads y _ (wish_below w a y h.1.0) _ _ (one z _ (wish_below (below w a) b z rest.1.0) xs rest1.1.0)),
      ends_at (below (below w a) b) c end rest1.1.1 over,
    )
related root va access mode (a ∷ b ∷ c ∷ d ∷ ptes) (x ∷ y ∷ z ∷ []) end h over = absurd h.1.1.1
related root va access mode (a ∷ b ∷ c ∷ d ∷ ptes) (x ∷ y ∷ z ∷ u ∷ xs) end h over =
    let w : Walking = begun root va access mode in
    let down : LeadsDown a 2 access mode = wish_leads_down w a y h.1.0 in
    let rest : Answered (below w a) (b ∷ c ∷ d ∷ ptes) (y ∷ z ∷ u ∷ xs) end =
    go w a (b ∷ c ∷ d ∷ ptes) (y ∷ z ∷ u ∷ xs) end down h.1 in
    let down1 : LeadsDown b 1 access mode = wish_leads_down (below w a) b z rest.1.0 in
    let rest1 : Answered (below (below w a) b) (c ∷ d ∷ ptes) (z ∷ u ∷ xs) end =
    go (below w a) b (c ∷ d ∷ ptes) (z ∷ u ∷ xs) end down1 rest.1 in
    no_wish_at_0 (below (below w a) b) c u refl rest1.1.0

-- ---- what is related is answered

-- a walk answered by ptes asks for them at these addresses, where these are those
at : (w : Walking) (ptes xs ys : List ℕ) (state : WalkState) → xs ≡ ys → Answered w ptes ys state → Answered w ptes xs state
at w ptes xs ys state e h = subst (λ (zs : List ℕ). Answered w ptes zs state) (sym e) h

answers : (root va : ℕ) (access : Access) (mode : Mode) (ptes addresses : List ℕ) (end : WalkState)
    → WalkRelation root va access mode ptes addresses end
    → Answered (begun root va access mode) ptes addresses end × IsEnd end
answers root va access mode [] xs end (off, empty, fault) =
    ((empty, first_ends root va off ∙ sym fault), subst IsEnd (sym fault) tt)
answers root va access mode (a ∷ []) xs end (on, places, ends) =
    let w : Walking = begun root va access mode in
    let ys : List ℕ = pte_address root 2 va ∷ [] in
    let last : ((answered w a).state ≡ end) × IsEnd end = at_end w a end ends in
    let all : Answered w (a ∷ []) (pte_address root 2 va ∷ []) end = (first_wishes root va on, (refl, last.0)) in
    (at w (a ∷ []) xs ys end places all, last.1)
answers root va access mode (a ∷ b ∷ []) xs end (on, down, places, ends) =
    let w : Walking = begun root va access mode in
    let ys : List ℕ = pte_address (ppn_of a) 1 va ∷ [] in
    let last : ((answered (below w a) b).state ≡ end) × IsEnd end = at_end (below w a) b end ends in
    let rest : Answered (below w a) (b ∷ []) (pte_address (ppn_of a) 1 va ∷ []) end = (refl, (refl, last.0)) in
    let all : Answered w (a ∷ b ∷ []) (pte_address root 2 va ∷ pte_address (ppn_of a) 1 va ∷ []) end =
    (first_wishes root va on, back w a (b ∷ []) ys end down rest) in
    (at w (a ∷ b ∷ []) xs (pte_address root 2 va ∷ ys) end places all, last.1)
answers root va access mode (a ∷ b ∷ c ∷ []) xs end (on, down, down1, places, ends) =
    let w : Walking = begun root va access mode in
    let v : Walking = below w a in
    let zs : List ℕ = pte_address (ppn_of b) 0 va ∷ [] in
    let ys : List ℕ = pte_address (ppn_of a) 1 va ∷ pte_address (ppn_of b) 0 va ∷ [] in
    let last : ((answered (below v b) c).state ≡ end) × IsEnd end = at_end (below v b) c end ends in
    let rest1 : Answered (below v b) (c ∷ []) zs end = (refl, (refl, last.0)) in
    let rest : Answered v (b ∷ c ∷ []) ys end = (refl, back v b (c ∷ []) zs end down1 rest1) in
    let all : Answered w (a ∷ b ∷ c ∷ []) (pte_address root 2 va ∷ ys) end =
    (first_wishes root va on, back w a (b ∷ c ∷ []) ys end down rest) in
    (at w (a ∷ b ∷ c ∷ []) xs (pte_address root 2 va ∷ ys) end places all, last.1)
answers root va access mode (a ∷ b ∷ c ∷ d ∷ ptes) xs end h = absurd h

pub ends_by_relation : EndsByRelation
ends_by_relation root va access mode ptes addresses end =
    ((λ h. related root va access mode ptes addresses end h.0 h.1), answers root va access mode ptes addresses end)

-- ---- the next address

-- the pte 0, which is a fault at every level, ends a walk
ended : (root va : ℕ) (access : Access) (mode : Mode) (ptes addresses : List ℕ) (next : ℕ)
    → WalkRelation root va access mode (ptes ++ 0 ∷ []) (addresses ++ next ∷ []) states.PageFault
    → length addresses ≡ length ptes → AsksNext root va access mode ptes addresses next
ended root va access mode ptes addresses next h n = record {
  more = 0 ∷ [];
  later = [];
  end = states.PageFault;
  related = h;
  one_each = n;
}

behind : (xs : List ℕ) (next p : ℕ) → xs ≡ [] → next ≡ p → xs ++ next ∷ [] ≡ p ∷ []
behind xs next p e f = ap (λ (ys : List ℕ). ys ++ next ∷ []) e ∙ one next p f [] refl

asks : (root va : ℕ) (access : Access) (mode : Mode) (ptes addresses : List ℕ) (next : ℕ)
    → Answered (begun root va access mode) ptes addresses (states.Wish next)
    → AsksNext root va access mode ptes addresses next
asks root va access mode [] xs next h =
    let f : (is_canonical va ≡ true) × (next ≡ pte_address root 2 va) = first_wish root va next h.1 in
    ended root va access mode [] xs next (f.0, behind xs next _ h.0 f.1, refl) (ap length h.0)
asks root va access mode (a ∷ ptes) [] next h = absurd h
asks root va access mode (a ∷ []) (x ∷ xs) next h =
    let w : Walking = begun root va access mode in
    let f : (is_canonical va ≡ true) × (x ≡ pte_address root 2 va) = first_wish root va x h.0 in
    let down : LeadsDown a 2 access mode = wish_leads_down w a next h.1.1 in
    ended root va access mode (a ∷ []) (x ∷ xs) next
    (f.0, down, heads x _ f.1 _ _ (behind xs next _ h.1.0 (wish_below w a next h.1.1)), refl)
    (ap (λ (ys : List ℕ). length (x ∷ ys)) h.1.0)
asks root va access mode (a ∷ b ∷ ptes) (x ∷ []) next h = absurd h.1
asks root va access mode (a ∷ b ∷ []) (x ∷ y ∷ xs) next h =
    let w : Walking = begun root va access mode in
    let f : (is_canonical va ≡ true) × (x ≡ pte_address root 2 va) = first_wish root va x h.0 in
    let down : LeadsDown a 2 access mode = wish_leads_down w a y h.1.0 in
    let rest : Answered (below w a) (b ∷ []) (y ∷ xs) (states.Wish next) =
    go w a (b ∷ []) (y ∷ xs) (states.Wish next) down h.1 in
    let down1 : LeadsDown b 1 access mode = wish_leads_down (below w a) b next rest.1.1 in
    ended root va access mode (a ∷ b ∷ []) (x ∷ y ∷ xs) next (
      f.0,
      down,
      down1,
      heads x _ f.1 _ _ (heads y _ (wish_below w a y h.1.0) _ _ (behind xs next _ rest.1.0 (wish_below (below w a) b next rest.1.1))),
      refl,
    )
    (ap (λ (ys : List ℕ). length (x ∷ y ∷ ys)) rest.1.0)
asks root va access mode (a ∷ b ∷ c ∷ ptes) (x ∷ y ∷ []) next h = absurd h.1.1
asks root va access mode (a ∷ b ∷ c ∷ []) (x ∷ y ∷ z ∷ xs) next h =
    let w : Walking = begun root va access mode in
    let down : LeadsDown a 2 access mode = wish_leads_down w a y h.1.0 in
    let rest : Answered (below w a) (b ∷ c ∷ []) (y ∷ z ∷ xs) (states.Wish next) =
    go w a (b ∷ c ∷ []) (y ∷ z ∷ xs) (states.Wish next) down h.1 in
    let down1 : LeadsDown b 1 access mode = wish_leads_down (below w a) b z rest.1.0 in
    let rest1 : Answered (below (below w a) b) (c ∷ []) (z ∷ xs) (states.Wish next) =
    go (below w a) b (c ∷ []) (z ∷ xs) (states.Wish next) down1 rest.1 in
    absurd (no_wish_at_0 (below (below w a) b) c next refl rest1.1.1)
asks root va access mode (a ∷ b ∷ c ∷ d ∷ ptes) (x ∷ y ∷ z ∷ []) next h = absurd h.1.1.1
asks root va access mode (a ∷ b ∷ c ∷ d ∷ ptes) (x ∷ y ∷ z ∷ u ∷ xs) next h =
    let w : Walking = begun root va access mode in
    let down : LeadsDown a 2 access mode = wish_leads_down w a y h.1.0 in
    let rest : Answered (below w a) (b ∷ c ∷ d ∷ ptes) (y ∷ z ∷ u ∷ xs) (states.Wish next) =
    go w a (b ∷ c ∷ d ∷ ptes) (y ∷ z ∷ u ∷ xs) (states.Wish next) down h.1 in
    let down1 : LeadsDown b 1 access mode = wish_leads_down (below w a) b z rest.1.0 in
    let rest1 : Answered (below (below w a) b) (c ∷ d ∷ ptes) (z ∷ u ∷ xs) (states.Wish next) =
    go (below w a) b (c ∷ d ∷ ptes) (z ∷ u ∷ xs) (states.Wish next) down1 rest.1 in
    absurd (no_wish_at_0 (below (below w a) b) c u refl rest1.1.0)

-- ---- the relation's next address is asked for

-- no walk has fewer addresses than these
first : (root va : ℕ) (access : Access) (mode : Mode) (ptes : List ℕ) (next : ℕ) (later : List ℕ) (end : WalkState)
    → WalkRelation root va access mode ptes (next ∷ later) end → first_state root va ≡ states.Wish next
first root va access mode [] next later end (off, empty, fault) = absurd cc
first root va access mode (a ∷ []) next later end (on, places, ends) =
    first_wishes root va on ∙ (let e : states.Wish (pte_address root 2 va) ≡ states.Wish next = cc in e)
first root va access mode (a ∷ b ∷ []) next later end (on, down, places, ends) =
    first_wishes root va on ∙ (let e : states.Wish (pte_address root 2 va) ≡ states.Wish next = cc in e)
first root va access mode (a ∷ b ∷ c ∷ []) next later end (on, down, down1, places, ends) =
    first_wishes root va on ∙ (let e : states.Wish (pte_address root 2 va) ≡ states.Wish next = cc in e)
first root va access mode (a ∷ b ∷ c ∷ d ∷ ptes) next later end h = absurd h

second : (root va : ℕ) (access : Access) (mode : Mode) (a x : ℕ) (ptes : List ℕ) (next : ℕ) (later : List ℕ) (end : WalkState)
    → WalkRelation root va access mode (a ∷ ptes) (x ∷ next ∷ later) end
    → LeadsDown a 2 access mode × (next ≡ pte_address (ppn_of a) 1 va)
second root va access mode a x [] next later end (on, places, ends) = absurd cc
second root va access mode a x (b ∷ []) next later end (on, down, places, ends) = (down, cc)
second root va access mode a x (b ∷ c ∷ []) next later end (on, down, down1, places, ends) = (down, cc)
second root va access mode a x (b ∷ c ∷ d ∷ ptes) next later end h = absurd h

third : (root va : ℕ) (access : Access) (mode : Mode) (a b x y : ℕ) (ptes : List ℕ) (next : ℕ) (later : List ℕ) (end : WalkState)
    → WalkRelation root va access mode (a ∷ b ∷ ptes) (x ∷ y ∷ next ∷ later) end
    → LeadsDown b 1 access mode × (next ≡ pte_address (ppn_of b) 0 va)
third root va access mode a b x y [] next later end (on, down, places, ends) = absurd cc
third root va access mode a b x y (c ∷ []) next later end (on, down, down1, places, ends) = (down1, cc)
third root va access mode a b x y (c ∷ d ∷ ptes) next later end h = absurd h

no_fourth : (root va : ℕ) (access : Access) (mode : Mode) (a b c x y z : ℕ) (ptes : List ℕ) (next : ℕ) (later : List ℕ) (end : WalkState)
    → WalkRelation root va access mode (a ∷ b ∷ c ∷ ptes) (x ∷ y ∷ z ∷ next ∷ later) end → ⊥
no_fourth root va access mode a b c x y z [] next later end (on, down, down1, places, ends) = cc
no_fourth root va access mode a b c x y z (d ∷ ptes) next later end h = h

wish : (x y : ℕ) → y ≡ x → states.Wish x ≡ states.Wish y
wish x y e = cc

asked : (root va : ℕ) (access : Access) (mode : Mode) (ptes addresses : List ℕ) (next : ℕ) (more later : List ℕ)
    (end : WalkState) → WalkRelation root va access mode (ptes ++ more) (addresses ++ next ∷ later) end
    → length addresses ≡ length ptes → Answered (begun root va access mode) ptes addresses (states.Wish next)
asked root va access mode [] [] next more later end h n = (refl, first root va access mode more next later end h)
asked root va access mode [] (x ∷ xs) next more later end h n = absurd (omega arith)
asked root va access mode (a ∷ ptes) [] next more later end h n = absurd (omega arith)
asked root va access mode (a ∷ []) (x ∷ []) next more later end h n =
    let w : Walking = begun root va access mode in
    let s : LeadsDown a 2 access mode × (next ≡ pte_address (ppn_of a) 1 va) = second root va access mode a x more next later end h in (
      first root va access mode (a ∷ more) x (next ∷ later) end h,
      back w a [] [] _ s.0 (refl, wish _ next s.1),
    )
asked root va access mode (a ∷ []) (x ∷ y ∷ xs) next more later end h n = absurd (omega arith)
asked root va access mode (a ∷ b ∷ ptes) (x ∷ []) next more later end h n = absurd (omega arith)
asked root va access mode (a ∷ b ∷ []) (x ∷ y ∷ []) next more later end h n =
    let w : Walking = begun root va access mode in
    let s : LeadsDown a 2 access mode × (y ≡ pte_address (ppn_of a) 1 va) =
    second root va access mode a x (b ∷ more) y (next ∷ later) end h in
    let t : LeadsDown b 1 access mode × (next ≡ pte_address (ppn_of b) 0 va) = third root va access mode a b x y more next later end h in (
      first root va access mode (a ∷ b ∷ more) x (y ∷ next ∷ later) end h,
      back w a (b ∷ []) (y ∷ []) _ s.0
          (wish _ y s.1, back (below w a) b [] [] _ t.0 (refl, wish _ next t.1)),
    )
asked root va access mode (a ∷ b ∷ []) (x ∷ y ∷ z ∷ xs) next more later end h n = absurd (omega arith)
asked root va access mode (a ∷ b ∷ c ∷ ptes) (x ∷ y ∷ []) next more later end h n = absurd (omega arith)
asked root va access mode (a ∷ b ∷ c ∷ []) (x ∷ y ∷ z ∷ []) next more later end h n =
    absurd (no_fourth root va access mode a b c x y z more next later end h)
asked root va access mode (a ∷ b ∷ c ∷ []) (x ∷ y ∷ z ∷ u ∷ xs) next more later end h n = absurd (omega arith)
asked root va access mode (a ∷ b ∷ c ∷ d ∷ ptes) (x ∷ y ∷ z ∷ xs) next more later end h n = absurd h

pub wishes_by_relation : WishesByRelation
wishes_by_relation root va access mode ptes addresses next = (
  asks root va access mode ptes addresses next,
  (λ n. asked root va access mode ptes addresses next n.more n.later n.end n.related n.one_each),
)
