-- One pte of a walk.
use Rattle.std.proofs.Common.{◌≡◌, ℕ, ◌-◌, ◌<◌, Bool, true, false, cond, refl, sym, ap, subst, arith}
use Rattle.sv39_pte.specs.declared.pte.Kind.{Kind}
use Rattle.sv39_pte.specs.declared.pte.Kind.TheVariants as kinds
use Rattle.sv39_pte.specs.Pte.{ppn_of, classified}
use Rattle.sv39_walk.specs.declared.walk.WalkState.{WalkState}
use Rattle.sv39_walk.specs.declared.walk.WalkState.TheVariants as states
use Rattle.sv39_walk.specs.Relation.{is_canonical, pte_address, LeadsDown, EndsAt}
use Rattle.sv39_walk.specs.Walking.{Walking, IsEnd, first_state, after_kind, answered}
use Rattle.sv39_walk.proofs.Pointers.{leads_down, down_above_0}

-- ---- the begin

wish_by : (b : Bool) (p x : ℕ) → cond b (states.Wish p) states.PageFault ≡ states.Wish x → (b ≡ true) × (x ≡ p)
wish_by true p x e = (refl, cc)
wish_by false p x e = absurd cc

pub first_wish : (root va x : ℕ) → first_state root va ≡ states.Wish x
    → (is_canonical va ≡ true) × (x ≡ pte_address root 2 va)
first_wish root va x e = wish_by (is_canonical va) (pte_address root 2 va) x e

pub first_wishes : (root va : ℕ) → is_canonical va ≡ true → first_state root va ≡ states.Wish (pte_address root 2 va)
first_wishes root va e = ap (λ (b : Bool). cond b (states.Wish (pte_address root 2 va)) states.PageFault) e

end_by : (b : Bool) (p : ℕ) (end : WalkState) → cond b (states.Wish p) states.PageFault ≡ end → IsEnd end
    → (b ≡ false) × (end ≡ states.PageFault)
end_by true p end e h = absurd (subst IsEnd (sym e) h)
end_by false p end e h = (refl, sym e)

pub first_end : (root va : ℕ) (end : WalkState) → first_state root va ≡ end → IsEnd end
    → (is_canonical va ≡ false) × (end ≡ states.PageFault)
first_end root va end e h = end_by (is_canonical va) (pte_address root 2 va) end e h

pub first_ends : (root va : ℕ) → is_canonical va ≡ false → first_state root va ≡ states.PageFault
first_ends root va e = ap (λ (b : Bool). cond b (states.Wish (pte_address root 2 va)) states.PageFault) e

-- ---- the end

ends_by : (w : Walking) (k : Kind) (end : WalkState) → (after_kind w k).state ≡ end → IsEnd end
    → EndsAt k w.level w.va end
ends_by w (kinds.Pointer ppn) end e h = subst IsEnd (sym e) h
ends_by w (kinds.Leaf ppn load store fetch) end e h = sym e
ends_by w kinds.Fault end e h = sym e

pub ends_at : (w : Walking) (pte : ℕ) (end : WalkState) → (answered w pte).state ≡ end → IsEnd end
    → EndsAt (classified pte w.level w.access w.mode) w.level w.va end
ends_at w pte end e h = ends_by w (classified pte w.level w.access w.mode) end e h

end_is : (w : Walking) (k : Kind) (end : WalkState) → EndsAt k w.level w.va end
    → ((after_kind w k).state ≡ end) × IsEnd end
end_is w (kinds.Pointer ppn) end h = absurd h
end_is w (kinds.Leaf ppn load store fetch) end h = (sym h, subst IsEnd (sym h) tt)
end_is w kinds.Fault end h = (sym h, subst IsEnd (sym h) tt)

pub at_end : (w : Walking) (pte : ℕ) (end : WalkState)
    → EndsAt (classified pte w.level w.access w.mode) w.level w.va end → ((answered w pte).state ≡ end) × IsEnd end
at_end w pte end h = end_is w (classified pte w.level w.access w.mode) end h

-- ---- a pointer

-- a walk that goes on in the table to which a pte leads
abbrev pub below : Walking → ℕ → Walking
below w pte = after_kind w (kinds.Pointer (ppn_of pte))

pub goes_below : (w : Walking) (pte : ℕ) → LeadsDown pte w.level w.access w.mode → answered w pte ≡ below w pte
goes_below w pte down = ap (after_kind w) down

wishes_by : (w : Walking) (pte : ℕ) (k : Kind) (x : ℕ) → classified pte w.level w.access w.mode ≡ k
    → (after_kind w k).state ≡ states.Wish x → LeadsDown pte w.level w.access w.mode
wishes_by w pte (kinds.Pointer ppn) x is e = leads_down pte w.level ppn w.access w.mode is
wishes_by w pte (kinds.Leaf ppn load store fetch) x is e = absurd cc
wishes_by w pte kinds.Fault x is e = absurd cc

pub wish_leads_down : (w : Walking) (pte x : ℕ) → (answered w pte).state ≡ states.Wish x
    → LeadsDown pte w.level w.access w.mode
wish_leads_down w pte x e = wishes_by w pte (classified pte w.level w.access w.mode) x refl e

-- a walk that asks for a further pte asks for it in the table to which the one before led
pub wish_below : (w : Walking) (pte x : ℕ) → (answered w pte).state ≡ states.Wish x
    → x ≡ pte_address (ppn_of pte) (w.level - 1) w.va
wish_below w pte x e =
    let same : (below w pte).state ≡ states.Wish x =
    subst (λ (u : Walking). u.state ≡ states.Wish x) (goes_below w pte (wish_leads_down w pte x e)) e in
    cc

pub no_wish_at_0 : (w : Walking) (pte x : ℕ) → w.level ≡ 0 → (answered w pte).state ≡ states.Wish x → ⊥
no_wish_at_0 w pte x low e =
    let above : 0 < w.level = down_above_0 pte w.level w.access w.mode (wish_leads_down w pte x e) in
    omega arith
