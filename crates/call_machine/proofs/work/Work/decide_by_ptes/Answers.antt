use Rattle.std.proofs.Common.{◌≡◌, ◌∙◌, [], true, false, length, sym, ap, refl, arith}
use Rattle.mon_types.specs.Replies.{is_done}
use Rattle.mon_model.specs.OnCore.{is_load_page}
use Rattle.mon_enclaves.specs.LoadReply.{words_reply}
use Rattle.mon_calls.specs.Replied.{replied}
use Rattle.sv39_pte.specs.Tables.{last_place}
use Rattle.protocol.specs.CallTree.{put_pte}
use Rattle.call_machine.specs.declared.phase.Phase.TheVariants as phases
use Rattle.call_machine.specs.Meaning.{phase_tree, known, ptes_in, draws, drawn}
use Rattle.call_machine.specs.Count.{phase_left, most_copied}
use Rattle.call_machine.specs.Stands.{phase_stands, IsLocked}
use Rattle.call_machine.proofs.At.{at_from, locking_other, objects_many}
use Rattle.call_machine.proofs.Holding.{locks_few}
use Rattle.call_machine.proofs.Decisions.{places_with, ptes_with, with_long, ptes_refused, page_ok, pte_ok}
use Rattle.call_machine.proofs.Loads.{load_reply, other_page}
use Rattle.call_machine.proofs.work.Work.decide_by_ptes.Goals as goal

pub returns-then-not-is_ok-clause-at : goal.returns-then-not-is_ok-clause-at
unfolding phase_tree phase_stands phase_left
returns-then-not-is_ok-clause-at c =
    let w = c.args.self.now in
    let r = c.decide-self.result in
    let b = c.requires.locked.locking.holding.based in
    let no_ok : is_done r ≡ false = sym c.if-not-is_ok.ensures in
    let said = load_reply w c.requires.locked r w.ptes.items c.requires.load (c.decide-self.ensures.by_records ∙ ap (replied w.config w.mode w.call w.held) c.deref.ensures.0) ∙ ap (words_reply (known w) w.call) (sym (ptes_with w.places.items w.ptes.items c.requires.same)) in
    let locked : IsLocked (record w { reply = r; phase = phases.Refuses }) = record { locking = locking_other w w.tried r phases.Refuses [] 0 c.requires.locked.locking; tried = c.requires.locked.tried } in
    record {
      based = record { valid = b.valid; caller = b.caller; is_call = b.is_call; few = b.few };
      stands = no_ok;
      meaning = sym (ptes_refused (record w { reply = r; phase = phases.Refuses }) locked (ptes_in w) said no_ok);
      count = omega (arith, objects_many w, (locks_few w [] 0 c.requires.locked.locking).0);
      end = refl;
      config = refl;
      call = refl;
      core = refl;
      mode = refl;
    }

pub returns-in-LoadPage-clause-at : goal.returns-in-LoadPage-clause-at
unfolding phase_tree phase_stands phase_left
returns-in-LoadPage-clause-at c =
    let w = c.args.self.now in
    let r = c.decide-self.result in
    let b = c.requires.locked.locking.holding.based in
    let is_ok : is_done r ≡ true = sym c.if-not-is_ok.ensures in
    let said = load_reply w c.requires.locked r w.ptes.items c.requires.load (c.decide-self.ensures.by_records ∙ ap (replied w.config w.mode w.call w.held) c.deref.ensures.0) ∙ ap (words_reply (known w) w.call) (sym (ptes_with w.places.items w.ptes.items c.requires.same)) in
    let locked : IsLocked (record w { reply = r; phase = phases.Loads 0 }) = record { locking = locking_other w w.tried r (phases.Loads 0) [] 0 c.requires.locked.locking; tried = c.requires.locked.tried } in
    let copies : is_load_page w.call ≡ true = ap is_load_page c.in-LoadPage.is in
    let l = locked.locking in
    record {
      based = record { valid = b.valid; caller = b.caller; is_call = b.is_call; few = b.few };
      stands = (
        record {
          decided = record { state = known w; holding = l.holding; long = omega (arith, l.long); is_ok = is_ok; change = refl; ends = l.ends };
          copies = copies;
          many = ap (λ z. length z) l.page;
          few = c.requires.few;
          same = c.requires.same;
        },
        omega arith,
      );
      meaning = sym (page_ok (record w { reply = r; phase = phases.Loads 0 }) locked (ptes_in w) said is_ok copies (places_with w.places.items w.ptes.items c.requires.same) (with_long w.places.items w.ptes.items c.requires.same) l.page);
      count = omega (arith, ap most_copied c.in-LoadPage.is);
      end = refl;
      config = refl;
      call = refl;
      core = refl;
      mode = refl;
    }

pub put-requires : goal.put-requires
put-requires c =
    let w = c.args.self.now in
    let r = c.decide-self.result in
    let is_ok : is_done r ≡ true = sym c.if-not-is_ok.ensures in
    let l = locking_other w w.tried r w.phase [] 0 c.requires.locked.locking in
    record { state = known w; holding = l.holding; long = omega (arith, l.long); is_ok = is_ok; change = refl; ends = l.ends }

pub returns-in_default-clause-at : goal.returns-in_default-clause-at
unfolding draws drawn
returns-in_default-clause-at c =
    let w = c.args.self.now in
    let r = c.decide-self.result in
    let is_ok : is_done r ≡ true = sym c.if-not-is_ok.ensures in
    let said = load_reply w c.requires.locked r w.ptes.items c.requires.load (c.decide-self.ensures.by_records ∙ ap (replied w.config w.mode w.call w.held) c.deref.ensures.0) ∙ ap (words_reply (known w) w.call) (sym (ptes_with w.places.items w.ptes.items c.requires.same)) in
    let locked : IsLocked (record w { reply = r }) = record { locking = locking_other w w.tried r w.phase [] 0 c.requires.locked.locking; tried = c.requires.locked.tried } in
    at_from _ _ _ _ _ _ _ _ _ c.put.ensures.at
    (ap (λ p. put_pte (last_place w.places.items) w.call (draws (record w { reply = r }) p w.stood.items)) c.requires.locked.locking.input
    ∙ sym (pte_ok (record w { reply = r }) locked (ptes_in w) said is_ok (other_page w.call c.in_default.not-LoadPage) (places_with w.places.items w.ptes.items c.requires.same)))
    (omega arith) refl refl refl refl refl
