use Rattle.std.proofs.Common.{◌≡◌, ◌∙◌, ◌+◌, ◌-◌, ◌<◌, ◌^◌, ℕ, List, [], ◌∷◌, ◌++◌, length, drop, sym, ap, refl, subst, arith, append-nil}
use Rattle.std.proofs.Math.Path.{fun_ext}
use Rattle.mon_types.specs.Objects.{width}
use Rattle.protocol.specs.CallTree.{reads, number_in}
use Rattle.mon_types.specs.declared.object.ObjectId.{ObjectId}
use Rattle.arrayvec.specs.ArrayVec.{ArrayVec}
use Rattle.protocol.specs.declared.action.Action.TheVariants as actions
use Rattle.protocol.specs.declared.action.Outcome.{Outcome}
use Rattle.core_behaviour.specs.Called.{found_by}
use Rattle.call_machine.specs.declared.work.Work.{Work}
use Rattle.call_machine.specs.declared.phase.Phase.TheVariants as phases
use Rattle.call_machine.specs.Found.{widths, found_with}
use Rattle.call_machine.specs.Meaning.{phase_tree, goes_on, issuer, objects_in, found, row_part, after, ends_after}
use Rattle.call_machine.specs.Count.{phase_left}
use Rattle.call_machine.specs.Stands.{IsLocking, phase_stands}
use Rattle.call_machine.proofs.At.{at_from, locking_other}
use Rattle.call_machine.proofs.Bounds.{room_for_words}
use Rattle.call_machine.proofs.LockLoops.{small_width}
use Rattle.call_machine.proofs.Steps.{reads_step, reads_end}
use Rattle.call_machine.proofs.Holding.{read_found, read_part, read_locking, read_tree, word_room}
use Rattle.call_machine.proofs.work.Work.word_read.Goals as goal

-- what was found, with one word more
one_more : (w : Work) (o : ObjectId) (others : List ObjectId) (part word : ℕ) (l : IsLocking w (o ∷ others) part) (less : word < 2 ^ 64) (stood : ArrayVec ℕ) (is : stood.items ≡ w.stood.items ++ word ∷ []) (outcome : Outcome)
    → word ≡ number_in outcome
    → (o, drop (widths (objects_in w)) stood.items) ∷ found_with (objects_in w) stood.items [] ≡ found_by (actions.Read o part) outcome ((o, row_part w) ∷ found w)
one_more w o others part word l less stood is outcome e =
    ap (λ f. (o, drop (widths (objects_in w)) stood.items) ∷ f) (read_found w o others part word l less stood is)
    ∙ ap (λ ws. (o, ws) ∷ found w) (read_part w o others part word l less stood is)
    ∙ ap (λ x. (o, row_part w ++ x ∷ []) ∷ found w) e

pub push-requires : goal.push-requires
push-requires c =
    let w = c.args.self.now in
    let room : length w.stood.items < 160 = omega (arith, word_room w c.args.object c.requires.others c.args.at c.requires.locking c.requires.at, room_for_words w.call) in
    (omega arith, room)

pub overflow_add-at : goal.overflow_add-at
overflow_add-at c = omega (arith, c.requires.at, small_width c.args.object)

pub row_read-requires : goal.row_read-requires
row_read-requires c =
    let w = c.args.self.now in
    let o = c.args.object in
    let end : c.args.at + 1 ≡ width o = omega (arith, c.if-at-width_of.false, c.width_of.ensures, c.requires.at) in
    record {
      others = c.requires.others;
      locking = subst (λ n. IsLocking (record w { stood = c.push.new.self }) (o ∷ c.requires.others) n) end
          (read_locking w o c.requires.others c.args.at c.word_of.result c.requires.locking c.word_of.type_inv c.push.new.self c.push.ensures.items);
      tried = c.requires.tried;
      unloaded = record { places = c.requires.unloaded.places; ptes = c.requires.unloaded.ptes };
    }

pub returns-then-at-width_of-clause-at : goal.returns-then-at-width_of-clause-at
unfolding phase_tree phase_stands phase_left ends_after
returns-then-at-width_of-clause-at c =
    let w = c.args.self.now in
    let o = c.args.object in
    let at = c.args.at in
    let b = c.requires.locking.holding.based in
    let stood = c.push.new.self in
    let next = λ (words : List ℕ). goes_on w.config (issuer w) w.call ((o, row_part w ++ words) ∷ found w) in
    let step = reads_step o (width o) at next c.requires.at in
    record {
      based = record { valid = b.valid; caller = b.caller; is_call = b.is_call; few = b.few };
      stands = record {
        others = c.requires.others;
        locking = locking_other (record w { stood = stood }) w.tried w.reply (phases.Reads o (at + 1)) (o ∷ c.requires.others) (at + 1)
            (read_locking w o c.requires.others at c.word_of.result c.requires.locking c.word_of.type_inv stood c.push.ensures.items);
        tried = c.requires.tried;
        unloaded = record { places = c.requires.unloaded.places; ptes = c.requires.unloaded.ptes };
        at = omega (arith, c.if-at-width_of.true, c.width_of.ensures);
      };
      meaning =
          ap (reads o (width o - (at + 1)) (at + 1)) (fun_ext (read_tree w o c.requires.others at c.word_of.result c.requires.locking c.word_of.type_inv stood c.push.ensures.items c.args.outcome.now c.word_of.ensures))
          ∙ sym (ap (λ t. after t c.args.outcome.now) step);
      count = omega (arith, ap (λ ws. length ws) c.push.ensures.items, c.push.ensures.len, word_room w o c.requires.others at c.requires.locking c.requires.at);
      end = sym (ap (ends_after w) step);
      config = refl;
      call = refl;
      core = refl;
      mode = refl;
    }

pub returns-else-at-width_of-clause-at : goal.returns-else-at-width_of-clause-at
unfolding phase_tree phase_left ends_after
returns-else-at-width_of-clause-at c =
    let w = c.args.self.now in
    let o = c.args.object in
    let at = c.args.at in
    let stood = c.push.new.self in
    let next = λ (words : List ℕ). goes_on w.config (issuer w) w.call ((o, row_part w ++ words) ∷ found w) in
    let step = reads_step o (width o) at next c.requires.at in
    let last = read_tree w o c.requires.others at c.word_of.result c.requires.locking c.word_of.type_inv stood c.push.ensures.items c.args.outcome.now c.word_of.ensures [] in
    at_from _ _ _ _ _ _ _ _ _ c.row_read.ensures.at
    (ap (λ ws. goes_on w.config (issuer w) w.call ((o, ws) ∷ found_with (objects_in w) stood.items [])) (sym (append-nil (drop (widths (objects_in w)) stood.items)))
    ∙ last
    ∙ sym (reads_end o (width o) (at + 1) (λ words. next (number_in c.args.outcome.now ∷ words)) (omega (arith, c.if-at-width_of.false, c.width_of.ensures)))
    ∙ sym (ap (λ t. after t c.args.outcome.now) step))
    (omega (arith, ap (λ ws. length ws) c.push.ensures.items, c.push.ensures.len, word_room w o c.requires.others at c.requires.locking c.requires.at))
    (sym (ap (ends_after w) step)) refl refl refl refl

pub returns-then-at-width_of-clause-found : goal.returns-then-at-width_of-clause-found
returns-then-at-width_of-clause-found c =
    one_more c.args.self.now c.args.object c.requires.others c.args.at c.word_of.result c.requires.locking c.word_of.type_inv c.push.new.self c.push.ensures.items c.args.outcome.now c.word_of.ensures

pub returns-else-at-width_of-clause-found : goal.returns-else-at-width_of-clause-found
returns-else-at-width_of-clause-found c =
    c.row_read.ensures.found
    ∙ one_more c.args.self.now c.args.object c.requires.others c.args.at c.word_of.result c.requires.locking c.word_of.type_inv c.push.new.self c.push.ensures.items c.args.outcome.now c.word_of.ensures
