-- After a move of a call its core is left with what follows the outcome; the call is over exactly where that is nothing.
use Rattle.std.proofs.Common.{◌≡◌, inl, inr, ◌<◌, ◌/◌, ◌%◌, ◌∙◌, ℕ, zero, suc, true, false, List, [], ◌∷◌, ap, sym, refl, subst}
use Rattle.std.proofs.lemmas.Bool.{cases_Bool}
use Rattle.mon_types.specs.Shape.{Shape, is_shape}
use Rattle.mon_types.specs.declared.call.Call.{Call}
use Rattle.mon_types.specs.declared.object.ObjectId.{ObjectId}
use Rattle.mon_model.specs.State.{State}
use Rattle.mon_records.specs.Members.{In}
use Rattle.hist.specs.declared.event.Entry.{Entry}
use Rattle.loaded_pages.specs.Content.{Content}
use Rattle.protocol.specs.declared.action.Action.{Action}
use Rattle.protocol.specs.declared.action.Action.TheVariants as actions
use Rattle.protocol.specs.declared.action.Draft.{Draft}
use Rattle.protocol.specs.declared.action.Move.TheVariants as moves
use Rattle.protocol.specs.declared.action.Outcome.{Outcome}
use Rattle.protocol.specs.declared.action.Outcome.TheVariants as outcomes
use Rattle.protocol.specs.Places.{Counter, Lock, Memory}
use Rattle.protocol.specs.Moves.{action_place, try_outcome, action_outcome}
use Rattle.protocol.specs.CallTree.{Tree, Over, Makes, Issuer, call_tree, behind_first}
use Rattle.protocol.specs.Views.{Moves, held_by, held_of, answers_of, is_last, call_moves, are_any, issuer_of}
use Rattle.protocol.specs.Permitted.{Follows, MayGoOn}
use Rattle.protocol_laws.specs.Safe.{Safe}
use Rattle.protocol_laws.proofs.Steps.{IsAtTree, stored_kept, at_taken, at_read, at_write, at_store, at_draw, at_unlock, at_load}
use Rattle.protocol_steps.specs.Stages.{Stage, Locking, Met, Drawn, Astray, stage_tried, stage_locking, stage_met, stage_by, stage_of, MayMake, Goes}
use Rattle.protocol_steps.specs.Laws.{IsLeftWith}
use Rattle.protocol_steps.proofs.Views.{call_more, issuer_more, call_over}
use Rattle.protocol_steps.proofs.Kept.{Kept}
use Rattle.protocol_steps.proofs.Moving.{at_move, stage_goes}

some_held : {P : Type 0} (o : ObjectId) (os : List ObjectId) → o ∷ os ≡ [] → P
some_held o os e = absurd (cc)

-- where the ticket is drawn and nothing is held, nothing is left
nothing_left : (shape : Shape) (by : Issuer) (call : Call) (s : State) (content : Content) (answers : List ℕ) (m : Memory) (draft : Draft) (tree : Tree) → Safe by call s content answers [] m tree → Goes shape call (Drawn draft) tree → tree ≡ Over
nothing_left shape by call s content answers m draft Over safe goes = refl
nothing_left shape by call s content answers m draft (Makes (actions.TryLock o) next) safe goes = absurd goes.0
nothing_left shape by call s content answers m draft (Makes (actions.Read o i) next) safe goes = absurd goes.0
nothing_left shape by call s content answers m draft (Makes (actions.Write o i word) next) safe goes = absurd safe.0
nothing_left shape by call s content answers m draft (Makes (actions.Draw other) next) safe goes = absurd goes.0
nothing_left shape by call s content answers m draft (Makes (actions.Unlock o) next) safe goes = some_held o safe.0 (sym safe.1)
nothing_left shape by call s content answers m draft (Makes (actions.Load i) next) safe goes = absurd goes.0
nothing_left shape by call s content answers m draft (Makes (actions.Store i word) next) safe goes = absurd (stored_kept call s [] i word safe.1).held_is

nothing_left_at : (shape : Shape) (by : Issuer) (call : Call) (s : State) (content : Content) (answers : List ℕ) (held : List ObjectId) (m : Memory) (draft : Draft) (tree : Tree) → IsAtTree by call s content answers held m tree → held ≡ [] → Goes shape call (Drawn draft) tree → tree ≡ Over
nothing_left_at shape by call s content answers held m draft tree at none goes =
    nothing_left shape by call at.was at.knew answers at.words draft tree (subst (λ z. Safe by call at.was at.knew answers z at.words tree) none at.safe) goes

-- where nothing is left, nothing is held
none_held_at : (by : Issuer) (call : Call) (s : State) (content : Content) (answers : List ℕ) (held : List ObjectId) (m : Memory) (tree : Tree) → IsAtTree by call s content answers held m tree → tree ≡ Over → held ≡ []
none_held_at by call s content answers held m tree at over =
    subst (λ z. Safe by call at.was at.knew answers held at.words z) over at.safe

-- ---- stages

drawn_by : (shape : Shape) (call : Call) (stage : Stage) (draft : Draft) (out : Outcome) (rest : Tree) → MayMake shape call stage (actions.Draw draft) → Goes shape call (stage_by stage (actions.Draw draft) out) rest → Goes shape call (Drawn draft) rest
unfolding stage_by stage_locking stage_met
drawn_by shape call (Locking os) draft out rest may goes = goes
drawn_by shape call (Met lock holder serial os) draft out rest may goes = goes
drawn_by shape call (Drawn other) draft out rest may goes = absurd may
drawn_by shape call Astray draft out rest may goes = absurd may

-- an object is given back once the ticket is drawn
unlocked_by : (shape : Shape) (call : Call) (stage : Stage) (o : ObjectId) (out : Outcome) (rest : Tree) → MayMake shape call stage (actions.Unlock o) → Goes shape call (stage_by stage (actions.Unlock o) out) rest → (draft : Draft) × Goes shape call (Drawn draft) rest
unfolding stage_by
unlocked_by shape call (Locking os) o out rest may goes = absurd may
unlocked_by shape call (Met lock holder serial os) o out rest may goes = absurd may
unlocked_by shape call (Drawn draft) o out rest may goes = (draft, goes)
unlocked_by shape call Astray o out rest may goes = absurd may

-- a call that has met a lock is not over
met_by : (shape : Shape) (call : Call) (stage : Stage) (o : ObjectId) (holder serial : ℕ) → MayMake shape call stage (actions.TryLock o) → Goes shape call (stage_by stage (actions.TryLock o) (outcomes.HeldBy holder serial)) Over → ⊥
unfolding stage_by stage_locking stage_tried
met_by shape call (Locking os) o holder serial may goes = goes
met_by shape call (Met lock other n os) o holder serial may goes = may
met_by shape call (Drawn draft) o holder serial may goes = may
met_by shape call Astray o holder serial may goes = may

draw_last : (draft : Draft) (held : List ObjectId) → is_last (actions.Draw draft) held ≡ true → held ≡ []
unfolding is_last
draw_last draft [] e = refl
draw_last draft (o ∷ os) e = absurd (cc)

last_draw : (draft : Draft) (held : List ObjectId) → held ≡ [] → is_last (actions.Draw draft) held ≡ true
unfolding is_last
last_draw draft [] e = refl
last_draw draft (o ∷ os) e = some_held o os e

unlock_last : (o : ObjectId) (left : List ObjectId) → is_last (actions.Unlock o) left ≡ true → left ≡ []
unfolding is_last
unlock_last o [] e = refl
unlock_last o (p ∷ os) e = absurd (cc)

last_unlock : (o : ObjectId) (left : List ObjectId) → left ≡ [] → is_last (actions.Unlock o) left ≡ true
unfolding is_last
last_unlock o [] e = refl
last_unlock o (p ∷ os) e = some_held p os e

-- ---- one move

module _ (shape : Shape) (is : is_shape shape ≡ true) (memory : Memory) (moved : ℕ → Moves) (h : List Entry) (s : State) (content : Content) (kept : Kept shape memory moved h s content) (core : ℕ) (lt : core < shape.cores) where
  at : (a : Action) (p : MayGoOn shape core (moved core) a) → IsAtTree (issuer_of core (moved core)) p.call s content (answers_of (moved core)) (held_of (moved core)) memory (Makes a p.next)
  at a p = at_move shape is memory moved h s content kept core lt a p

  goes : (a : Action) (p : MayGoOn shape core (moved core) a) → Goes shape p.call (stage_of (call_moves (moved core))) (Makes a p.next)
  goes a p = stage_goes shape is memory moved h s content kept core lt a p

  -- the last move leaves nothing
  last_is_over : (a : Action) (p : MayGoOn shape core (moved core) a) → is_last a (held_by a (action_outcome a (memory (action_place a))) (held_of (moved core))) ≡ true → p.next (action_outcome a (memory (action_place a))) ≡ Over
  unfolding action_outcome action_place held_by is_last issuer_of
  last_is_over (actions.Draw draft) p last =
      let g = goes (actions.Draw draft) p in
      let t = at_draw (issuer_of core (moved core)) p.call (answers_of (moved core)) s content (held_of (moved core)) memory draft (suc (memory Counter)) p.next (at (actions.Draw draft) p) (kept.sound core lt) in
      nothing_left_at shape (issuer_of core (moved core)) p.call _ _ (answers_of (moved core)) (held_of (moved core)) memory draft (p.next (outcomes.Ticket (suc (memory Counter)))) t.4
      (draw_last draft (held_of (moved core)) last)
      (drawn_by shape p.call (stage_of (call_moves (moved core))) draft (outcomes.Ticket (suc (memory Counter))) (p.next (outcomes.Ticket (suc (memory Counter)))) g.0 (g.2 (outcomes.Ticket (suc (memory Counter)))))
  last_is_over (actions.Unlock o) p last =
      let g = goes (actions.Unlock o) p in
      let t = at_unlock (issuer_of core (moved core)) p.call (answers_of (moved core)) s content (held_of (moved core)) memory o p.next (at (actions.Unlock o) p) in
      let d = unlocked_by shape p.call (stage_of (call_moves (moved core))) o outcomes.Done (p.next outcomes.Done) g.0 (g.2 outcomes.Done) in
      nothing_left_at shape (issuer_of core (moved core)) p.call s content (answers_of (moved core)) t.0 memory d.0 (p.next outcomes.Done) t.4
      (sym (ap behind_first t.1) ∙ unlock_last o (behind_first (held_of (moved core))) last) d.1
  last_is_over (actions.TryLock o) p last = absurd (cc)
  last_is_over (actions.Read o i) p last = absurd (cc)
  last_is_over (actions.Write o i word) p last = absurd (cc)
  last_is_over (actions.Load i) p last = absurd (cc)
  last_is_over (actions.Store i word) p last = absurd (cc)

  -- a TryLock leaves something
  tried : (o : ObjectId) (p : MayGoOn shape core (moved core) (actions.TryLock o)) (word : ℕ) → memory (Lock o) ≡ word → p.next (try_outcome word) ≡ Over → ⊥
  unfolding try_outcome issuer_of
  tried o p zero free over =
      some_held o (held_of (moved core))
      (none_held_at (issuer_of core (moved core)) p.call s content (answers_of (moved core)) (o ∷ held_of (moved core)) memory (p.next outcomes.Taken)
      (at_taken (issuer_of core (moved core)) p.call (answers_of (moved core)) s content (held_of (moved core)) memory o p.next (at (actions.TryLock o) p) (kept.sound core lt) (kept.rows o free) (kept.words o free)) over)
  tried o p (suc word) free over =
      let g = goes (actions.TryLock o) p in
      met_by shape p.call (stage_of (call_moves (moved core))) o (suc word / 2 % 16) (suc word / 32) g.0
      (subst (λ z. Goes shape p.call (stage_by (stage_of (call_moves (moved core))) (actions.TryLock o) (outcomes.HeldBy (suc word / 2 % 16) (suc word / 32))) z) over (g.2 (outcomes.HeldBy (suc word / 2 % 16) (suc word / 32))))

  -- where nothing is left it was the last
  over_is_last : (a : Action) (p : MayGoOn shape core (moved core) a) → p.next (action_outcome a (memory (action_place a))) ≡ Over → is_last a (held_by a (action_outcome a (memory (action_place a))) (held_of (moved core))) ≡ true
  unfolding action_outcome action_place held_by issuer_of
  over_is_last (actions.TryLock o) p over = absurd (tried o p (memory (Lock o)) refl over)
  over_is_last (actions.Read o i) p over =
      let t = at_read (issuer_of core (moved core)) p.call (answers_of (moved core)) s content (held_of (moved core)) memory o i p.next (at (actions.Read o i) p) in
      absurd (subst (In o) (none_held_at (issuer_of core (moved core)) p.call s content (answers_of (moved core)) (held_of (moved core)) memory _ t.2 over) t.0)
  over_is_last (actions.Write o i word) p over =
      let t = at_write (issuer_of core (moved core)) p.call (answers_of (moved core)) s content (held_of (moved core)) memory o i word p.next (at (actions.Write o i word) p) in
      absurd (subst (In o) (none_held_at (issuer_of core (moved core)) p.call s content (answers_of (moved core)) (held_of (moved core)) _ _ t.4 over) t.0)
  over_is_last (actions.Draw draft) p over =
      let t = at_draw (issuer_of core (moved core)) p.call (answers_of (moved core)) s content (held_of (moved core)) memory draft (suc (memory Counter)) p.next (at (actions.Draw draft) p) (kept.sound core lt) in
      last_draw draft (held_of (moved core)) (none_held_at (issuer_of core (moved core)) p.call _ _ (answers_of (moved core)) (held_of (moved core)) memory _ t.4 over)
  over_is_last (actions.Unlock o) p over =
      let t = at_unlock (issuer_of core (moved core)) p.call (answers_of (moved core)) s content (held_of (moved core)) memory o p.next (at (actions.Unlock o) p) in
      last_unlock o (behind_first (held_of (moved core)))
      (ap behind_first t.1 ∙ none_held_at (issuer_of core (moved core)) p.call s content (answers_of (moved core)) t.0 memory _ t.4 over)
  over_is_last (actions.Load i) p over =
      let t = at_load (issuer_of core (moved core)) p.call (answers_of (moved core)) s content (held_of (moved core)) memory i p.next (at (actions.Load i) p) in
      let none = none_held_at (issuer_of core (moved core)) p.call s content _ (held_of (moved core)) memory _ t.2 over in
      elim t.1 [
        | inl source ↦ absurd (subst (In _) none source.0)
        | inr keeps ↦ absurd (subst (In _) none keeps.held_is)
      ]
  over_is_last (actions.Store i word) p over =
      let t = at_store (issuer_of core (moved core)) p.call (answers_of (moved core)) s content (held_of (moved core)) memory i word p.next (at (actions.Store i word) p) in
      absurd (subst (In _) (none_held_at (issuer_of core (moved core)) p.call s content (answers_of (moved core)) (held_of (moved core)) _ _ t.2 over) (stored_kept p.call s (held_of (moved core)) i word t.1).held_is)

  -- what is left is not nothing, so the call goes on
  not_last : (a : Action) (p : MayGoOn shape core (moved core) a) (out : Outcome) → out ≡ action_outcome a (memory (action_place a)) → (p.next out ≡ Over → ⊥) → is_last a (held_by a out (held_of (moved core))) ≡ false
  not_last a p out is_out more = elim (cases_Bool (is_last a (held_by a out (held_of (moved core))))) [
    | inl last ↦ absurd (more (ap p.next is_out ∙ last_is_over a p (subst (λ z. is_last a (held_by a z (held_of (moved core))) ≡ true) is_out last)))
    | inr on ↦ on
  ]

  pub left_with : (a : Action) (p : MayGoOn shape core (moved core) a) (out : Outcome) → out ≡ action_outcome a (memory (action_place a)) → IsLeftWith shape core ((moves.InCall a, out) ∷ moved core) p.call (p.next out)
  unfolding are_any
  left_with a p out is_out = record {
    over = λ over. call_over core a out (moved core)
        (subst (λ z. is_last a (held_by a z (held_of (moved core))) ≡ true) (sym is_out) (over_is_last a p (ap p.next (sym is_out) ∙ over)));
    more = λ more. ap are_any (call_more core a out (moved core) (not_last a p out is_out more));
    follows = λ more.
        let on = not_last a p out is_out more in
        subst (λ z. Follows (call_tree shape z p.call) (call_moves ((moves.InCall a, out) ∷ moved core)) (p.next out)) (sym (issuer_more core a out (moved core) on))
        (subst (λ made. Follows (call_tree shape (issuer_of core (moved core)) p.call) made (p.next out)) (sym (call_more core a out (moved core) on)) (p.next, p.follows, refl));
  }
