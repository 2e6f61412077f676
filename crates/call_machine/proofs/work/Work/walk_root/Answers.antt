use Rattle.std.proofs.Common.{◌∙◌, [], ◌++◌, sym, ap, refl, arith, append-nil}
use Rattle.mon_enclaves.specs.LoadReply.{va_of}
use Rattle.protocol.specs.CallTree.{walk_below, loaded}
use Rattle.call_machine.specs.declared.phase.Phase.TheVariants as phases
use Rattle.call_machine.specs.Meaning.{phase_tree, issuer, found, known, ptes_in}
use Rattle.call_machine.specs.Count.{phase_left}
use Rattle.call_machine.specs.Stands.{phase_stands}
use Rattle.call_machine.proofs.At.{at_phase, at_from, locking_other}
use Rattle.call_machine.proofs.Loads.{load_root}
use Rattle.call_machine.proofs.work.Work.walk_root.Goals as goal

pub returns-in-Some-clause-at : goal.returns-in-Some-clause-at
unfolding phase_tree phase_stands phase_left walk_below
returns-in-Some-clause-at c =
    let w = c.args.self.now in
    let r = c.requires in
    let p = phases.Walks c.in-Some.page 2 c.args.left in
    let root = ap (λ x. x.root) (sym (load_root w r.locked r.load) ∙ sym c.first_enclave.ensures) ∙ c.in-Some.is in
    at_phase w p _ _ r.locked.locking.holding.based
    (record {
      locked = record { locking = locking_other w w.tried w.reply p [] 0 r.locked.locking; tried = r.locked.tried };
      load = r.load;
      some = r.some;
      above = r.above;
      low = r.low;
      few = r.few;
      same = r.same;
    })
    (sym (ap (λ o. walk_below w.config (va_of w.call) c.args.left o (λ rest. loaded (issuer w) w.call (known w) (found w) (ptes_in w ++ rest))) root))
    (omega arith)

pub returns-in-None-clause-at : goal.returns-in-None-clause-at
unfolding walk_below
returns-in-None-clause-at c =
    let w = c.args.self.now in
    let r = c.requires in
    let root = ap (λ x. x.root) (sym (load_root w r.locked r.load) ∙ sym c.first_enclave.ensures) ∙ c.in-None.is in
    at_from _ _ _ _ _ _ _ _ _ c.decide_by_ptes.ensures.at
    (ap (loaded (issuer w) w.call (known w) (found w)) (sym (append-nil (ptes_in w)))
    ∙ sym (ap (λ o. walk_below w.config (va_of w.call) c.args.left o (λ rest. loaded (issuer w) w.call (known w) (found w) (ptes_in w ++ rest))) root))
    (omega arith) refl refl refl refl refl
