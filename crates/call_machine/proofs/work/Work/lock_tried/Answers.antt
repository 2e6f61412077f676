use Rattle.std.proofs.Common.{◌≡◌, ◌⊎◌, inl, inr, ◌∙◌, ◌-◌, ℕ, zero, suc, [], ◌∷◌, ◌++◌, None, sym, ap, refl, arith, drop_of_length-le}
use Rattle.mon_types.specs.Objects.{width}
use Rattle.mon_types.specs.declared.reply.Reply.TheVariants as replies
use Rattle.mon_model.specs.Tries.{tried_set}
use Rattle.protocol.specs.declared.action.Action.TheVariants as actions
use Rattle.protocol.specs.declared.action.Outcome.TheVariants as outcomes
use Rattle.protocol.specs.Moves.{action_outcome, try_outcome}
use Rattle.protocol.specs.CallTree.{lock, after_try, meets, then_, reads, onto, unlocks}
use Rattle.mon_records.specs.Rows.{objects_of}
use Rattle.core_behaviour.specs.Called.{found_by}
use Rattle.call_machine.specs.declared.phase.Phase.TheVariants as phases
use Rattle.call_machine.specs.Meaning.{phase_tree, refuses, goes_on, issuer, objects_in, found, row_part, after, ends_after}
use Rattle.call_machine.specs.Rest.{unlocks_of}
use Rattle.call_machine.specs.Count.{phase_left}
use Rattle.call_machine.specs.Stands.{phase_stands}
use Rattle.call_machine.proofs.At.{locking_other, unloaded_other}
use Rattle.call_machine.proofs.Found.{objects_found, onto_onto}
use Rattle.call_machine.proofs.Holding.{lock_room}
use Rattle.call_machine.proofs.work.Work.lock_tried.Goals as goal

tried_outcome : (word : ℕ) → (try_outcome word ≡ outcomes.Taken) ⊎ ((core : ℕ) × ((serial : ℕ) × (try_outcome word ≡ outcomes.HeldBy core serial)))
unfolding try_outcome
tried_outcome zero = inl refl
tried_outcome (suc n) = inr (_, (_, refl))

pub unreachable-requires : goal.unreachable-requires
unfolding phase_tree lock action_outcome
unreachable-requires c = elim (tried_outcome c.requires.outcome.0) [
  | inl e ↦ c.in_default.not-Taken (c.requires.outcome.1 ∙ e)
  | inr e ↦ c.in_default.not-HeldBy e.0 e.1.0 (c.requires.outcome.1 ∙ e.1.1)
]

pub returns-in-Taken-clause-at : goal.returns-in-Taken-clause-at
unfolding phase_tree phase_stands phase_left lock after_try ends_after
returns-in-Taken-clause-at c =
    let w = c.args.self.now in
    let t = c.requires.trying in
    let o = c.args.object in
    let b = t.locking.holding.based in
    let none : row_part w ≡ [] = drop_of_length-le w.stood.items (omega (arith, t.locking.long)) in
    record {
      based = record { valid = b.valid; caller = b.caller; is_call = b.is_call; few = b.few };
      stands = record { others = t.others; locking = locking_other w w.tried w.reply (phases.Reads o 0) (o ∷ t.others) 0 t.locking; tried = t.tried; unloaded = unloaded_other w w.tried w.reply (phases.Reads o 0) t.unloaded; at = t.at };
      meaning =
          ap (λ n. reads o n 0 (λ words. goes_on w.config (issuer w) w.call ((o, row_part w ++ words) ∷ found w))) {x = width o - 0} {y = width o} (omega arith)
          ∙ ap (λ p. reads o (width o) 0 (λ words. goes_on w.config (issuer w) w.call ((o, p ++ words) ∷ found w))) none
          ∙ sym (ap (λ x. after (phase_tree w (phases.Tries o)) x) c.in-Taken.is);
      count = omega (arith, lock_room w o t.others 0 t.locking);
      end = refl;
      config = refl;
      call = refl;
      core = refl;
      mode = refl;
    }

pub returns-in-HeldBy-clause-at : goal.returns-in-HeldBy-clause-at
unfolding phase_tree phase_stands phase_left lock after_try meets refuses ends_after onto objects_of
returns-in-HeldBy-clause-at c =
    let w = c.args.self.now in
    let t = c.requires.trying in
    let o = c.args.object in
    let b = t.locking.holding.based in
    let reply = replies.ConcurrentCall o c.in-HeldBy.core c.in-HeldBy.serial in
    let objs = objects_found (objects_in w) w.stood.items [] in
    let tried = t.tried ∙ ap tried_set (sym (onto_onto (objects_in w) [] (o ∷ []))) ∙ ap (λ os. tried_set (onto os (o ∷ []))) (sym objs) in
    record {
      based = record { valid = b.valid; caller = b.caller; is_call = b.is_call; few = b.few };
      stands = refl;
      meaning =
          ap (λ p. then_ (actions.Draw (record { serial = w.serial; call = w.call; page = p; reply = reply; tried = w.tried })) (unlocks_of (objects_in w))) t.locking.input
          ∙ ap (λ z. then_ (actions.Draw (record { serial = w.serial; call = w.call; page = None; reply = reply; tried = z })) (unlocks_of (objects_in w))) tried
          ∙ ap (λ os. then_ (actions.Draw (record { serial = w.serial; call = w.call; page = None; reply = reply; tried = tried_set (onto (objects_of (found w)) (o ∷ [])) })) (unlocks os)) (sym objs)
          ∙ sym (ap (λ x. after (phase_tree w (phases.Tries o)) x) c.in-HeldBy.is);
      count = omega (arith, lock_room w o t.others 0 t.locking);
      end = refl;
      config = refl;
      call = refl;
      core = refl;
      mode = refl;
    }

pub returns-in-Taken-clause-found : goal.returns-in-Taken-clause-found
returns-in-Taken-clause-found c =
    let w = c.args.self.now in
    let o = c.args.object in
    let none : row_part w ≡ [] = drop_of_length-le w.stood.items (omega (arith, c.requires.trying.locking.long)) in
    ap (λ p. (o, p) ∷ found w) none ∙ sym (ap (λ x. found_by (actions.TryLock o) x (found w)) c.in-Taken.is)

pub returns-in-HeldBy-clause-found : goal.returns-in-HeldBy-clause-found
returns-in-HeldBy-clause-found c = sym (ap (λ x. found_by (actions.TryLock c.args.object) x (found c.args.self.now)) c.in-HeldBy.is)
