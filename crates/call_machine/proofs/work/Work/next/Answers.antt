use Rattle.std.proofs.Common.{◌∙◌, ◌-◌, ◌∷◌, ◌++◌, get_or, length, sym, ap, refl, subst, arith}
use Rattle.mon_types.specs.Objects.{width}
use Rattle.mon_types.specs.declared.object.ObjectId.TheVariants as objects
use Rattle.mon_model.proofs.InRange.{not_refused}
use Rattle.mon_model.specs.Tries.{freed_by}
use Rattle.protocol.specs.declared.action.Action.TheVariants as actions
use Rattle.protocol.specs.CallTree.{lock, zeros}
use Rattle.call_machine.specs.declared.phase.Lock.{Lock}
use Rattle.call_machine.specs.Rest.{places, writes_from, unlocks_of}
use Rattle.call_machine.specs.Meaning.{phase_tree, objects_in, issuer, found, row_part, goes_on, refuses, draws, Heads}
use Rattle.call_machine.specs.Stands.{phase_stands}
use Rattle.call_machine.proofs.At.{objects_many}
use Rattle.call_machine.proofs.Heads.{heads_of}
use Rattle.call_machine.proofs.LockLoops.{map_at}
use Rattle.call_machine.proofs.Steps.{reads_step, words_here, unlocks_step}
use Rattle.call_machine.proofs.work.Work.next.Goals as goal

pub pte_of-requires : goal.pte_of-requires
unfolding phase_stands
pte_of-requires c =
    let w = c.args.self.now in
    let d = subst (phase_stands w) c.in-Puts.is c.requires.stands in
    not_refused w.config w.mode w.call d.holding.early

pub overflow_sub-result : goal.overflow_sub-result
unfolding phase_stands
overflow_sub-result c =
    let d = subst (phase_stands c.args.self.now) c.in-Unlocks.is c.requires.stands in omega (arith, d.0, c.from.ensures)

pub bounds-deref-from : goal.bounds-deref-from
unfolding phase_stands
bounds-deref-from c =
    let d = subst (phase_stands c.args.self.now) c.in-Unlocks.is c.requires.stands in omega (arith, d.0, d.1, c.from.ensures, ap (λ l. length l) c.deref.ensures.0)

pub unreachable-requires : goal.unreachable-requires
unfolding phase_tree
unreachable-requires c = c.requires.goes_on (ap (phase_tree c.args.self.now) c.in-Over.is)

pub returns-in-Tries : goal.returns-in-Tries
unfolding phase_tree lock
returns-in-Tries c = subst (λ p. Heads (phase_tree c.args.self.now p) (actions.TryLock c.in-Tries.object)) (sym c.in-Tries.is) refl

pub returns-in-Reads : goal.returns-in-Reads
unfolding phase_tree phase_stands
returns-in-Reads c =
    let w = c.args.self.now in
    let o = c.in-Reads.object in
    let at = c.in-Reads.at in
    let d = subst (phase_stands w) c.in-Reads.is c.requires.stands in
    subst (λ p. Heads (phase_tree w p) (actions.Read o at)) (sym c.in-Reads.is)
    (heads_of _ _ _ (reads_step o (width o) at (λ words. goes_on w.config (issuer w) w.call ((o, row_part w ++ words) ∷ found w)) d.at))

pub returns-in-Puts : goal.returns-in-Puts
unfolding phase_tree
returns-in-Puts c =
    subst (λ p. Heads (phase_tree c.args.self.now p) (actions.Store c.in-Puts.place c.pte_of.result)) (sym c.in-Puts.is) (ap (λ x. actions.Store c.in-Puts.place x) c.pte_of.ensures)

pub returns-in-Refuses : goal.returns-in-Refuses
unfolding phase_tree refuses
returns-in-Refuses c =
    subst (λ p. Heads (phase_tree c.args.self.now p) (actions.Draw c.draft.result)) (sym c.in-Refuses.is) (ap (λ x. actions.Draw x) c.draft.ensures)

pub returns-in-Draws : goal.returns-in-Draws
unfolding phase_tree draws
returns-in-Draws c =
    subst (λ p. Heads (phase_tree c.args.self.now p) (actions.Draw c.draft-in-Draws.result)) (sym c.in-Draws.is) (ap (λ x. actions.Draw x) c.draft-in-Draws.ensures)

pub returns-in-Zeros : goal.returns-in-Zeros
unfolding phase_tree phase_stands zeros
returns-in-Zeros c =
    let w = c.args.self.now in
    let word = c.in-Zeros.word in
    let d = subst (phase_stands w) c.in-Zeros.is c.requires.stands in
    let here = words_here w.config (freed_by w.call) word d.1 d.2 in
    subst (λ p. Heads (phase_tree w p) (actions.Store word 0)) (sym c.in-Zeros.is)
    (subst (λ l. Heads (zeros l (writes_from (places (objects_in w)) w.stood.items w.wanted.items 0 (unlocks_of (objects_in w)))) (actions.Store word 0)) (sym here) refl)

pub returns-in-Unlocks : goal.returns-in-Unlocks
unfolding phase_tree phase_stands
returns-in-Unlocks c =
    let w = c.args.self.now in
    let n = c.in-Unlocks.left in
    let d = subst (phase_stands w) c.in-Unlocks.is c.requires.stands in
    let step = unlocks_step (objects_in w) n (objects.Enclave 0) d.0 (omega (arith, objects_many w, d.1)) in
    let is = map_at w.locks.items (n - 1) (record { object = objects.Enclave 0 }) in
    subst (λ p. Heads (phase_tree w p) (actions.Unlock (get_or {A = Lock} c.deref.result.now (c.from.result - 1) (record { object = objects.Enclave 0 })).object)) (sym c.in-Unlocks.is)
    (subst (λ t. Heads t (actions.Unlock (get_or {A = Lock} c.deref.result.now (c.from.result - 1) (record { object = objects.Enclave 0 })).object)) (sym step)
    (ap (λ l. actions.Unlock (get_or {A = Lock} l (c.from.result - 1) (record { object = objects.Enclave 0 })).object) c.deref.ensures.0
    ∙ ap (λ k. actions.Unlock (get_or {A = Lock} w.locks.items (k - 1) (record { object = objects.Enclave 0 })).object) c.from.ensures
    ∙ ap (λ o. actions.Unlock o) (sym is)))
