-- A period of which it is known that it lasts goes on as `Life` says, entry by entry.
use Rattle.std.proofs.Common.{◌≡◌, ℕ, zero, suc, ◌<◌, ◌≤◌, ◌⊎◌, true, nat_le, List, [], ◌∷◌, ◌++◌, length, get_or, Some, None, ap, subst, ◌∙◌, inl, inr, arith}
use Rattle.std.specs.Prelude.{Any}
use Rattle.std.specs.List.{list_all}
use Rattle.std.proofs.lemmas.Bool.{leb-true, and_parts}
use Rattle.mon_types.specs.Shape.{Shape}
use Rattle.mon_types.specs.declared.region.Owner.{Owner}
use Rattle.mon_types.specs.declared.region.Region.{Region}
use Rattle.mon_types.specs.declared.region.Region.TheVariants as regions
use Rattle.mon_model.specs.State.{State, region_at, flushed_at}
use Rattle.mon_model.specs.RegionStep.{RegionStep, Stays, Ends, Withdrawn, Frees, Begins, Offers, MayBecome}
use Rattle.hist.specs.declared.event.Entry.{Entry}
use Rattle.hist.specs.History.{after_entry, after_entries}
use Rattle.hist.specs.Busy.{own}
use Rattle.hist.specs.Period.{was_initialized, is_end, is_freeing, ticket_after, owner_by}
use Rattle.hist.proofs.Periods.{none_after}
use Rattle.hist.proofs.Anys.{any_here, any_before, any_behind, any_all}
use Rattle.hist.proofs.Owns.{own_all}
use Rattle.hist_stands.specs.Life.{FlushedAfter, Life, Lasts, Ended, Freed}
use Rattle.hist_stands.proofs.Entries.{cell_at, end_is_no_flush}
use Rattle.hist_stands.proofs.Tickets.{last_flush_below, length_more, up_to_this, still_none, still_some, now_some, not_ended}
use Rattle.hist_stands.proofs.Knowing.{Next, GoesOn, below_next, step_next, region_next, walk}

-- where a free has asked all cells, none is below the ticket of the end
all_asked : (b : ℕ) (cells : List ℕ) → list_all (λ ticket. nat_le b ticket) cells ≡ true → (core : ℕ)
    → core < length cells → b ≤ get_or cells core 0
all_asked b [] all core lt = absurd (omega arith)
all_asked b (x ∷ cells) all zero lt = leb-true b x
    (and_parts (nat_le b x) (list_all (λ ticket. nat_le b ticket) cells) all).0
all_asked b (x ∷ cells) all (suc core) lt =
    all_asked b cells (and_parts (nat_le b x) (list_all (λ ticket. nat_le b ticket) cells) all).1 core (omega arith)

-- nobody becomes the owner of a region that has one, or is blocked
owned_is_taken : (other owner : Owner) (a : ℕ) (x : Region) → x ≡ regions.Owned owner a → MayBecome other x → ⊥
owned_is_taken other owner a x is may = subst (MayBecome other) is may

blocked_is_taken : (other owner : Owner) (a b : ℕ) (x : Region) → x ≡ regions.Blocked owner a b → MayBecome other x → ⊥
blocked_is_taken other owner a b x is may = subst (MayBecome other) is may

module _ (shape : Shape) (gone : List Entry) (s : State) (e : Entry) (next : Next shape gone s e) (k r : ℕ)
    (owner : Owner) (a : ℕ) (since : a ≤ k) (upto : k ≤ length gone) where
  -- a cell is below b, or its core has flushed since
  cell_goes : (b core : ℕ) → b < e.ticket → (flushed_at s core < b) ⊎ Any (FlushedAfter core b) gone
      → (flushed_at (after_entry s e) core < b) ⊎ Any (FlushedAfter core b) (gone ++ e ∷ [])
  cell_goes b core lt (inr flushed) = inr (any_before (FlushedAfter core b) gone (e ∷ []) flushed)
  cell_goes b core lt (inl low) = elim (cell_at s e (after_entry s e) (step_next shape gone s e next) core) [
    | inl same ↦ inl (omega (arith, same, low))
    | inr now ↦
        inr (any_behind (FlushedAfter core b) gone (e ∷ [])
        (any_here (FlushedAfter core b) e [] (record { of_core = now.0.of_core; flush = now.0.flush; above = lt })))
  ]

  -- at the end of a period each cell is below it
  cell_ends : (core : ℕ) → core < shape.cores → is_end r e ≡ true
      → (flushed_at (after_entry s e) core < e.ticket) ⊎ Any (FlushedAfter core e.ticket) (gone ++ e ∷ [])
  cell_ends core lt ends = elim (cell_at s e (after_entry s e) (step_next shape gone s e next) core) [
    | inl same ↦
        let low = last_flush_below (length gone) (own core gone)
        (own_all (λ x. x.ticket ≤ length gone) core gone next.known.drawn) in
        inl (omega (arith, same, next.ticket, next.known.cells core lt, low))
    | inr now ↦ absurd (end_is_no_flush r e ends now.0.flush)
  ]

  -- where the free has asked each cell, each core has flushed since
  cell_freed : (b core : ℕ) → list_all (λ ticket. nat_le b ticket) s.flushed ≡ true → core < shape.cores
      → (flushed_at s core < b) ⊎ Any (FlushedAfter core b) gone
      → Any (λ x. FlushedAfter core b x × (x.ticket < e.ticket)) (gone ++ e ∷ [])
  cell_freed b core all lt (inl low) =
      let in_table : core < length s.flushed = omega
      (arith, next.known.whole.flushed, ap (λ (m : Shape). m.cores) next.known.shaped) in
      absurd (omega (arith, low, all_asked b s.flushed all core in_table))
  cell_freed b core all lt (inr flushed) =
      any_before (λ x. FlushedAfter core b x × (x.ticket < e.ticket)) gone (e ∷ [])
      (any_all (FlushedAfter core b) (λ x. x.ticket < e.ticket) gone (below_next shape gone s e next) flushed)

  lasting : region_at s r ≡ regions.Owned owner a → ticket_after gone a (is_end r) ≡ None
      → RegionStep e.ticket s.flushed (is_end r e) (is_freeing r e) (owner_by r (was_initialized gone) e)
      (region_at s r) (region_at (after_entry s e) r)
      → Life shape (gone ++ e ∷ []) (after_entry s e) k r owner a
  lasting is none (Stays same ends freed made) = Lasts (same ∙ is)
      (still_none gone e a (is_end r) none (not_ended (is_end r e) (region_at s r) owner a ends is))
  lasting is none (Ends other c x y ends freed made) =
      let whose : other ≡ owner = cc in
      let from : c ≡ a = cc in
      Ended e.ticket (omega (arith, next.ticket)) (omega (arith, next.ticket, length_more gone e))
      (y ∙ ap (λ (o : Owner). regions.Blocked o c e.ticket) whose
      ∙ ap (λ (i : ℕ). regions.Blocked owner i e.ticket) from)
      (now_some gone e a (is_end r) none ends (omega (arith, next.ticket)))
      (none_after (gone ++ e ∷ []) e.ticket (is_freeing r) (up_to_this gone e (below_next shape gone s e next)))
      (λ core in_shape. cell_ends core in_shape ends)
  lasting is none (Withdrawn to c x y ends freed made) = cc
  lasting is none (Frees other c d x y all ends freed made) = cc
  lasting is none (Begins other may y ends freed made) = absurd (owned_is_taken other owner a (region_at s r) is may)
  lasting is none (Offers to x y ends freed made) = cc

  ended : (b : ℕ) → k < b → b ≤ length gone → region_at s r ≡ regions.Blocked owner a b
      → ticket_after gone a (is_end r) ≡ Some b → ticket_after gone b (is_freeing r) ≡ None
      → ((core : ℕ) → core < shape.cores → (flushed_at s core < b) ⊎ Any (FlushedAfter core b) gone)
      → RegionStep e.ticket s.flushed (is_end r e) (is_freeing r e) (owner_by r (was_initialized gone) e)
      (region_at s r) (region_at (after_entry s e) r)
      → Life shape (gone ++ e ∷ []) (after_entry s e) k r owner a
  ended b late past is some none cells (Stays same ends freed made) =
      Ended b late (omega (arith, length_more gone e)) (same ∙ is) (still_some gone e a b (is_end r) some)
      (still_none gone e b (is_freeing r) none freed)
      (λ core in_shape. cell_goes b core (omega (arith, next.ticket)) (cells core in_shape))
  ended b late past is some none cells (Ends other c x y ends freed made) = cc
  ended b late past is some none cells (Withdrawn to c x y ends freed made) = cc
  ended b late past is some none cells (Frees other c d x y all ends freed made) =
      let at : d ≡ b = cc in
      let asked : list_all (λ ticket. nat_le b ticket) s.flushed
      ≡ true = subst (λ (i : ℕ). list_all (λ ticket. nat_le i ticket) s.flushed ≡ true) at all in
      Freed b e.ticket late (still_some gone e a b (is_end r) some)
      (now_some gone e b (is_freeing r) none freed (omega (arith, next.ticket)))
      (λ core in_shape. cell_freed b core asked in_shape (cells core in_shape))
  ended b late past is some none cells (Begins other may y ends freed made) = absurd
      (blocked_is_taken other owner a b (region_at s r) is may)
  ended b late past is some none cells (Offers to x y ends freed made) = cc

  pub life_next : r < shape.regions → Life shape gone s k r owner a
      → Life shape (gone ++ e ∷ []) (after_entry s e) k r owner a
  life_next lt (Lasts is none) = lasting is none (region_next shape gone s e next r lt)
  life_next lt (Ended b late past is some none cells) = ended b late past is some none cells
      (region_next shape gone s e next r lt)
  life_next lt (Freed b z late some freed cells) =
      Freed b z late (still_some gone e a b (is_end r) some) (still_some gone e b z (is_freeing r) freed)
      (λ core in_shape. any_before (λ x. FlushedAfter core b x × (x.ticket < z)) gone (e ∷ []) (cells core in_shape))

-- after any entries
pub life_all : (shape : Shape) (gone : List Entry) (s : State) (es : List Entry) → GoesOn shape gone s es
    → (k r : ℕ) (owner : Owner) (a : ℕ) → a ≤ k → k ≤ length gone → r < shape.regions → Life shape gone s k r owner a
    → Life shape (gone ++ es) (after_entries s es) k r owner a
life_all shape gone s es goes k r owner a since upto lt life =
    (walk shape (λ before t. (k ≤ length before) × Life shape before t k r owner a)
    (λ before t e next known. (
      omega (arith, known.0, length_more before e),
      life_next shape before t e next k r owner a since known.0 lt known.1,
    ))
    gone s es goes (upto, life)).1
