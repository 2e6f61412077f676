use Rattle.std.proofs.Common.{◌∙◌, [], ◌++◌, sym, ap, refl, arith}
use Rattle.sv39_pte.specs.Tables.{page_led_to}
use Rattle.mon_enclaves.specs.LoadReply.{va_of}
use Rattle.protocol.specs.CallTree.{walk, go_on, loaded}
use Rattle.call_machine.specs.declared.phase.Phase.TheVariants as phases
use Rattle.call_machine.specs.Meaning.{phase_tree, issuer, found, known, ptes_in}
use Rattle.call_machine.specs.Count.{phase_left}
use Rattle.call_machine.specs.Stands.{phase_stands}
use Rattle.call_machine.proofs.At.{at_phase, at_from, locking_other}
use Rattle.call_machine.proofs.Heads.{led_some, led_none}
use Rattle.call_machine.proofs.work.Work.walk_on.Goals as goal

pub returns-in-Some-clause-at : goal.returns-in-Some-clause-at
unfolding phase_tree phase_stands phase_left go_on
returns-in-Some-clause-at c =
    let w = c.args.self.now in
    let r = c.requires in
    let led = led_some w.config c.args.pte c.in-Some.page (sym c.table_led_to.ensures.page ∙ c.in-Some.is) in
    let p = phases.Walks c.in-Some.page c.args.level c.args.left in
    let end = loaded (issuer w) w.call (known w) (found w) (ptes_in w) in
    at_phase w p _ _ r.locked.locking.holding.based
    (record {
      locked = record { locking = locking_other w w.tried w.reply p [] 0 r.locked.locking; tried = r.locked.tried };
      load = r.load;
      some = r.some;
      above = r.above;
      low = r.low;
      few = r.few;
      same = r.same;
    })
    (ap (λ q. walk w.config (va_of w.call) c.args.level c.args.left q (λ rest. loaded (issuer w) w.call (known w) (found w) (ptes_in w ++ rest))) (sym led.1)
    ∙ sym (ap (λ b. go_on b (walk w.config (va_of w.call) c.args.level c.args.left (page_led_to c.args.pte) (λ rest. loaded (issuer w) w.call (known w) (found w) (ptes_in w ++ rest))) end) led.0))
    (omega arith)

pub returns-in-None-clause-at : goal.returns-in-None-clause-at
unfolding go_on
returns-in-None-clause-at c =
    let w = c.args.self.now in
    let led = led_none w.config c.args.pte (sym c.table_led_to.ensures.page ∙ c.in-None.is) in
    at_from _ _ _ _ _ _ _ _ _ c.decide_by_ptes.ensures.at
    (sym (ap (λ b. go_on b (walk w.config (va_of w.call) c.args.level c.args.left (page_led_to c.args.pte) (λ rest. loaded (issuer w) w.call (known w) (found w) (ptes_in w ++ rest))) (loaded (issuer w) w.call (known w) (found w) (ptes_in w))) led))
    (omega arith) refl refl refl refl refl
