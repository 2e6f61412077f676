-- There are no more tickets than the cores have entries.
use Rattle.std.proofs.Common.{◌≡◌, ℕ, zero, suc, ◌+◌, ◌*◌, ◌<◌, ◌≤◌, true, false, if◌then◌else◌, ltb, List, [], ◌∷◌, length, refl, sym, ap, ◌∙◌, arith}
use Rattle.std.proofs.lemmas.List.{length-append}
use Rattle.mon_types.specs.Shape.{Shape}
use Rattle.hist.specs.declared.event.Entry.{Entry}
use Rattle.hist.specs.declared.event.Event.{Event}
use Rattle.hist.specs.History.{entries_of, placed, in_ticket_order}
use Rattle.hist.specs.Busy.{own}
use Rattle.hist.proofs.Ordered.{joined}
use Rattle.hist_stands.specs.Stands.{Stands}
use Rattle.hist_stands.proofs.Sorted.{parts, sorted}

-- putting entries in order loses none
placed_count : (e : Entry) (es : List Entry) → length (placed e es) ≡ suc (length es)
placed_count e [] = refl
placed_count e (x ∷ es) =
    elim (ltb e.ticket x.ticket) as
    (λ b. length (if b then e ∷ x ∷ es else x ∷ placed e es) ≡ suc (length (x ∷ es))) [
      | true ↦ refl
      | false ↦ ap suc (placed_count e es)
    ]

ordered_count : (es : List Entry) → length (in_ticket_order es) ≡ length es
ordered_count [] = refl
ordered_count (e ∷ es) = placed_count e (in_ticket_order es) ∙ ap suc (ordered_count es)

module _ (shape : Shape) (h : List Entry) (log : ℕ → List Event) (stands : Stands shape h log) (most : ℕ)
    (few : (core : ℕ) → core < shape.cores → length (entries_of (log core)) ≤ most) where
  few_in_parts : (first n : ℕ) → first + n ≤ shape.cores → length (joined (parts first n h)) ≤ n * most
  few_in_parts first zero le = omega arith
  few_in_parts first (suc n) le =
      let here = few first (omega (arith, le)) in
      let same = ap length (stands.mine first (omega (arith, le))) in
      let both = length-append (own first h) (joined (parts (first + 1) n h)) in
      let rest = few_in_parts (first + 1) n (omega (arith, le)) in
      omega (arith, here, same, both, rest)

  pub few_tickets : length h ≤ shape.cores * most
  few_tickets =
      let same : length h ≡ length (joined (parts 0 shape.cores h)) =
      sym (ap length (sorted shape.cores 1 h stands.legal.tickets stands.cores))
      ∙ ordered_count (joined (parts 0 shape.cores h)) in
      omega (arith, same, few_in_parts 0 shape.cores (omega arith))
