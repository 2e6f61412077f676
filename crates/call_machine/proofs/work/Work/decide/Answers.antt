use Rattle.std.proofs.Common.{◌≡◌, inl, inr, ◌∙◌, false, [], sym, refl, arith}
use Rattle.std.proofs.lemmas.Bool.{cases_Bool}
use Rattle.mon_types.specs.Replies.{is_done}
use Rattle.mon_enclaves.specs.LoadReply.{is_load}
use Rattle.protocol.specs.CallTree.{decided}
use Rattle.call_machine.specs.declared.phase.Phase.TheVariants as phases
use Rattle.call_machine.specs.Meaning.{phase_tree, issuer, found, refuses}
use Rattle.call_machine.specs.Count.{phase_left}
use Rattle.call_machine.specs.Stands.{phase_stands, IsLocked}
use Rattle.call_machine.proofs.At.{at_from, locking_other, objects_many}
use Rattle.call_machine.proofs.Holding.{locks_few}
use Rattle.call_machine.proofs.Decisions.{records_ok, records_refused, loads_ok, loads_refused}
use Rattle.call_machine.proofs.Loads.{load_reply, record_reply}
use Rattle.call_machine.proofs.work.Work.decide.Goals as goal

pub returns-then-not-is_ok-clause-at : goal.returns-then-not-is_ok-clause-at
unfolding phase_tree phase_stands phase_left
returns-then-not-is_ok-clause-at c =
    let w = c.args.self.now in
    let r = c.decide-self.result in
    let b = c.requires.locked.locking.holding.based in
    let no_ok : is_done r ≡ false = sym c.if-not-is_ok.ensures in
    let locked : IsLocked (record w { reply = r; phase = phases.Refuses }) = record { locking = locking_other w w.tried r phases.Refuses [] 0 c.requires.locked.locking; tried = c.requires.locked.tried } in
    let tree : decided w.config (issuer w) w.call (found w) ≡ refuses (record w { reply = r; phase = phases.Refuses }) = elim (cases_Bool (is_load w.call)) [
      | inl load ↦ loads_refused (record w { reply = r; phase = phases.Refuses }) locked load (load_reply w c.requires.locked r [] load c.decide-self.ensures.by_records) no_ok
      | inr no_load ↦ records_refused (record w { reply = r; phase = phases.Refuses }) locked no_load (record_reply w c.requires.locked r [] no_load c.decide-self.ensures.in_states) no_ok
    ] in
    record {
      based = record { valid = b.valid; caller = b.caller; is_call = b.is_call; few = b.few };
      stands = no_ok;
      meaning = sym tree;
      count = omega (arith, objects_many w, (locks_few w [] 0 c.requires.locked.locking).0);
      end = refl;
      config = refl;
      call = refl;
      core = refl;
      mode = refl;
    }

pub returns-then-is_load-clause-at : goal.returns-then-is_load-clause-at
returns-then-is_load-clause-at c =
    let w = c.args.self.now in
    let r = c.decide-self.result in
    let load = sym c.is_load.ensures ∙ c.if-is_load.true in
    let locked : IsLocked (record w { reply = r }) = record { locking = locking_other w w.tried r w.phase [] 0 c.requires.locked.locking; tried = c.requires.locked.tried } in
    at_from _ _ _ _ _ _ _ _ _ c.walk.ensures.at
    (sym (loads_ok (record w { reply = r }) locked load (load_reply w c.requires.locked r [] load c.decide-self.ensures.by_records) (sym c.if-not-is_ok.ensures)))
    (omega arith) refl refl refl refl refl

pub returns-else-is_load-clause-at : goal.returns-else-is_load-clause-at
returns-else-is_load-clause-at c =
    let w = c.args.self.now in
    let r = c.decide-self.result in
    let no_load = sym c.is_load.ensures ∙ c.if-is_load.false in
    let locked : IsLocked (record w { reply = r }) = record { locking = locking_other w w.tried r w.phase [] 0 c.requires.locked.locking; tried = c.requires.locked.tried } in
    at_from _ _ _ _ _ _ _ _ _ c.withdraw.ensures.at
    (sym (records_ok (record w { reply = r }) locked no_load (record_reply w c.requires.locked r [] no_load c.decide-self.ensures.in_states) (sym c.if-not-is_ok.ensures)))
    (omega arith) refl refl refl refl refl
