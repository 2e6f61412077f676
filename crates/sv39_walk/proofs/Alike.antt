-- The relation gives one answer, and always one.
use Rattle.std.proofs.Common.{◌≡◌, ℕ, List, [], ◌∷◌, Bool, true, false, refl, sym, subst, ◌∙◌, arith}
use Rattle.mon_types.specs.declared.thread.Mode.{Mode}
use Rattle.sv39_pte.specs.declared.pte.Access.{Access}
use Rattle.sv39_pte.specs.declared.pte.Kind.{Kind}
use Rattle.sv39_pte.specs.declared.pte.Kind.TheVariants as kinds
use Rattle.sv39_pte.specs.Pte.{ppn_of, classified}
use Rattle.sv39_walk.specs.declared.walk.WalkState.{WalkState}
use Rattle.sv39_walk.specs.declared.walk.WalkState.TheVariants as states
use Rattle.sv39_walk.specs.Relation.{is_canonical, pte_address, page_in_leaf, LeadsDown, EndsAt, WalkRelation}
use Rattle.sv39_walk.specs.Walking.{HasLevelBelow}
use Rattle.sv39_walk.specs.Laws.{OneAnswer, HasWalk, AlwaysAnswers}
use Rattle.sv39_walk.proofs.Pointers.{leads_down, has_level_below}

-- ---- one

one_end : (k : Kind) (level va : ℕ) (end other : WalkState) → EndsAt k level va end → EndsAt k level va other
    → other ≡ end
one_end (kinds.Pointer ppn) level va end other h g = absurd h
one_end (kinds.Leaf ppn load store fetch) level va end other h g = g ∙ sym h
one_end kinds.Fault level va end other h g = g ∙ sym h

no_end : (k : Kind) (level va ppn : ℕ) (end : WalkState) → k ≡ kinds.Pointer ppn → EndsAt k level va end → ⊥
no_end k level va ppn end e h = subst (λ (l : Kind). EndsAt l level va end) e h

differ : (b : Bool) → b ≡ true → b ≡ false → ⊥
differ b p q = cc

-- no pte was asked for
alone : (root va : ℕ) (access : Access) (mode : Mode) (ptes others : List ℕ) (other : WalkState)
    → is_canonical va ≡ false → WalkRelation root va access mode ptes others other
    → (ptes ≡ []) × (others ≡ []) × (other ≡ states.PageFault)
alone root va access mode [] others other off (n, empty, fault) = (refl, empty, fault)
alone root va access mode (a ∷ []) others other off (on, places, ends) = absurd (differ _ on off)
alone root va access mode (a ∷ b ∷ []) others other off (on, down, places, ends) = absurd (differ _ on off)
alone root va access mode (a ∷ b ∷ c ∷ []) others other off (on, down, down1, places, ends) = absurd (differ _ on off)
alone root va access mode (a ∷ b ∷ c ∷ d ∷ ptes) others other off h = absurd h

pub one_answer : OneAnswer
one_answer root va access mode [] more xs others end other (off, empty, fault) g =
    let a : (more ≡ []) × (others ≡ []) × (other ≡ states.PageFault) = alone root va access mode more others other off g in
    (a.0, a.1 ∙ sym empty, a.2 ∙ sym fault)
one_answer root va access mode (a ∷ []) [] xs others end other (on, places, ends) (also, places', ends') =
    (refl, places' ∙ sym places, one_end (classified a 2 access mode) 2 va end other ends ends')
one_answer root va access mode (a ∷ []) (b ∷ []) xs others end other (on, places, ends) (also, down, places', ends') =
    absurd (no_end (classified a 2 access mode) 2 va (ppn_of a) end down ends)
one_answer root va access mode (a ∷ []) (b ∷ c ∷ []) xs others end other (on, places, ends) (also, down, down1, places', ends') =
    absurd (no_end (classified a 2 access mode) 2 va (ppn_of a) end down ends)
one_answer root va access mode (a ∷ []) (b ∷ c ∷ d ∷ more) xs others end other h g = absurd g
one_answer root va access mode (a ∷ b ∷ []) [] xs others end other (on, down, places, ends) (also, down', places', ends') =
    (refl, places' ∙ sym places, one_end (classified b 1 access mode) 1 va end other ends ends')
one_answer root va access mode (a ∷ b ∷ []) (c ∷ []) xs others end other (on, down, places, ends) (also, down', down1, places', ends') =
    absurd (no_end (classified b 1 access mode) 1 va (ppn_of b) end down1 ends)
one_answer root va access mode (a ∷ b ∷ []) (c ∷ d ∷ more) xs others end other h g = absurd g
one_answer root va access mode (a ∷ b ∷ c ∷ []) [] xs others end other (on, down, down1, places, ends) (also, down', down1', places', ends') =
    (refl, places' ∙ sym places, one_end (classified c 0 access mode) 0 va end other ends ends')
one_answer root va access mode (a ∷ b ∷ c ∷ []) (d ∷ more) xs others end other h g = absurd g
one_answer root va access mode (a ∷ b ∷ c ∷ d ∷ ptes) more xs others end other h g = absurd h

-- ---- always

at_level_0 : (root va : ℕ) (access : Access) (mode : Mode) (a b c : ℕ) → is_canonical va ≡ true
    → LeadsDown a 2 access mode → LeadsDown b 1 access mode
    → (k : Kind) → classified c 0 access mode ≡ k → HasLevelBelow k 0 → HasWalk root va access mode (a ∷ b ∷ c ∷ [])
at_level_0 root va access mode a b c on down down1 (kinds.Pointer ppn) is low = absurd (omega arith)
at_level_0 root va access mode a b c on down down1 (kinds.Leaf ppn load store fetch) is low = record {
  count = 3;
  addresses = pte_address root 2 va ∷ pte_address (ppn_of a) 1 va ∷ pte_address (ppn_of b) 0 va ∷ [];
  end = states.Found (page_in_leaf ppn 0 va) load store fetch;
  related = (on, down, down1, refl, subst (λ (l : Kind). EndsAt l 0 va (states.Found (page_in_leaf ppn 0 va) load store fetch)) (sym is) refl);
}
at_level_0 root va access mode a b c on down down1 kinds.Fault is low = record {
  count = 3;
  addresses = pte_address root 2 va ∷ pte_address (ppn_of a) 1 va ∷ pte_address (ppn_of b) 0 va ∷ [];
  end = states.PageFault;
  related = (on, down, down1, refl, subst (λ (l : Kind). EndsAt l 0 va states.PageFault) (sym is) refl);
}

at_level_1 : (root va : ℕ) (access : Access) (mode : Mode) (a b c : ℕ) → is_canonical va ≡ true
    → LeadsDown a 2 access mode
    → (k : Kind) → classified b 1 access mode ≡ k → HasWalk root va access mode (a ∷ b ∷ c ∷ [])
at_level_1 root va access mode a b c on down (kinds.Pointer ppn) is =
    at_level_0 root va access mode a b c on down (leads_down b 1 ppn access mode is)
    (classified c 0 access mode) refl (has_level_below c 0 access mode)
at_level_1 root va access mode a b c on down (kinds.Leaf ppn load store fetch) is = record {
  count = 2;
  addresses = pte_address root 2 va ∷ pte_address (ppn_of a) 1 va ∷ [];
  end = states.Found (page_in_leaf ppn 1 va) load store fetch;
  related = (on, down, refl, subst (λ (l : Kind). EndsAt l 1 va (states.Found (page_in_leaf ppn 1 va) load store fetch)) (sym is) refl);
}
at_level_1 root va access mode a b c on down kinds.Fault is = record {
  count = 2;
  addresses = pte_address root 2 va ∷ pte_address (ppn_of a) 1 va ∷ [];
  end = states.PageFault;
  related = (on, down, refl, subst (λ (l : Kind). EndsAt l 1 va states.PageFault) (sym is) refl);
}

at_level_2 : (root va : ℕ) (access : Access) (mode : Mode) (a b c : ℕ) → is_canonical va ≡ true
    → (k : Kind) → classified a 2 access mode ≡ k → HasWalk root va access mode (a ∷ b ∷ c ∷ [])
at_level_2 root va access mode a b c on (kinds.Pointer ppn) is =
    at_level_1 root va access mode a b c on (leads_down a 2 ppn access mode is) (classified b 1 access mode) refl
at_level_2 root va access mode a b c on (kinds.Leaf ppn load store fetch) is = record {
  count = 1;
  addresses = pte_address root 2 va ∷ [];
  end = states.Found (page_in_leaf ppn 2 va) load store fetch;
  related = (on, refl, subst (λ (l : Kind). EndsAt l 2 va (states.Found (page_in_leaf ppn 2 va) load store fetch)) (sym is) refl);
}
at_level_2 root va access mode a b c on kinds.Fault is = record {
  count = 1;
  addresses = pte_address root 2 va ∷ [];
  end = states.PageFault;
  related = (on, refl, subst (λ (l : Kind). EndsAt l 2 va states.PageFault) (sym is) refl);
}

at_begin : (root va : ℕ) (access : Access) (mode : Mode) (a b c : ℕ) (canonical : Bool) → is_canonical va ≡ canonical
    → HasWalk root va access mode (a ∷ b ∷ c ∷ [])
at_begin root va access mode a b c true is =
    at_level_2 root va access mode a b c is (classified a 2 access mode) refl
at_begin root va access mode a b c false is = record {
  count = 0;
  addresses = [];
  end = states.PageFault;
  related = (is, refl, refl);
}

pub always_answers : AlwaysAnswers
always_answers root va access mode a b c = at_begin root va access mode a b c (is_canonical va) refl
