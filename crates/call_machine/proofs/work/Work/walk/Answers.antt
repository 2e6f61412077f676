use Rattle.std.proofs.Common.{◌∙◌, ◌++◌, sym, ap, refl, arith}
use Rattle.mon_model.specs.State.{enclave_at}
use Rattle.mon_enclaves.specs.LoadReply.{va_of, slot_of, path_length}
use Rattle.protocol.specs.CallTree.{walk_below, loaded}
use Rattle.call_machine.specs.Meaning.{issuer, found, known, ptes_in, with_places}
use Rattle.call_machine.proofs.At.{at_from}
use Rattle.call_machine.proofs.Heads.{walk_none}
use Rattle.call_machine.proofs.Loads.{load_ptes}
use Rattle.call_machine.proofs.work.Work.walk.Goals as goal

pub returns-then-left-eq0-clause-at : goal.returns-then-left-eq0-clause-at
unfolding with_places
returns-then-left-eq0-clause-at c =
    let w = c.args.self.now in
    at_from _ _ _ _ _ _ _ _ _ c.decide_by_ptes.ensures.at
    (ap (λ l. loaded (issuer w) w.call (known w) (found w) (with_places l w.ptes.items)) c.requires.places
    ∙ sym (walk_none w.config (va_of w.call) (path_length w.call) (enclave_at (known w) (slot_of w.call)).root (loaded (issuer w) w.call (known w) (found w)) (sym c.path_length-left.ensures.length ∙ c.if-left-eq0.true)))
    (omega (arith, load_ptes w.call c.requires.load)) refl refl refl refl refl

pub returns-else-left-eq0-clause-at : goal.returns-else-left-eq0-clause-at
unfolding with_places
returns-else-left-eq0-clause-at c =
    let w = c.args.self.now in
    let root = (enclave_at (known w) (slot_of w.call)).root in
    at_from _ _ _ _ _ _ _ _ _ c.walk_root.ensures.at
    (ap (λ n. walk_below w.config (va_of w.call) n root (λ rest. loaded (issuer w) w.call (known w) (found w) (ptes_in w ++ rest))) c.path_length-left.ensures.length
    ∙ ap (λ l. walk_below w.config (va_of w.call) (path_length w.call) root (λ rest. loaded (issuer w) w.call (known w) (found w) (with_places l w.ptes.items ++ rest))) c.requires.places)
    (omega (arith, load_ptes w.call c.requires.load, c.path_length-left.ensures.few)) refl refl refl refl refl
