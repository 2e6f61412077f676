use Rattle.std.proofs.Common.{ℕ, List, ◌≡◌, ◌∙◌, ◌+◌, None, get_or, set, drop, map, length, sym, ap, refl, subst, arith, length-set}
use Rattle.mon_types.specs.Objects.{width}
use Rattle.mon_types.specs.declared.object.ObjectId.TheVariants as objects
use Rattle.mon_types.specs.declared.region.Region.{Region}
use Rattle.mon_types.specs.declared.region.Region.TheVariants as regions
use Rattle.mon_records.specs.Members.{In}
use Rattle.call_machine.specs.Rest.{early_rest, early_write, row_start}
use Rattle.call_machine.specs.Meaning.{phase_tree, objects_in, known, draws, drawn, after, ends_after}
use Rattle.call_machine.specs.Count.{phase_left}
use Rattle.call_machine.specs.Stands.{phase_stands}
use Rattle.call_machine.proofs.At.{at_from}
use Rattle.call_machine.proofs.EarlyWrites.{regions_there}
use Rattle.call_machine.proofs.Loads.{all_at, start_within, early_changes, early_many, holds_few}
use Rattle.call_machine.proofs.Steps.{early_step}
use Rattle.call_machine.proofs.work.Work.own_written.Goals as goal

pub row_start-place-requires : goal.row_start-place-requires
row_start-place-requires c = c.deref.ensures.1

pub put_word-requires : goal.put_word-requires
unfolding phase_stands width
put_word-requires c =
    let w = c.args.self.now in
    let d = c.requires.stands.0 in
    let p = get_or w.held.regions.items c.args.at (0, regions.Free) in
    let there : In (objects.Region p.0) (objects_in w) =
    subst (λ l. In (objects.Region (get_or {A = ℕ × Region} l c.args.at (0, regions.Free)).0) (objects_in w)) (sym (ap (λ h. h.regions.items) d.holding.front.records))
    (all_at (λ x. In (objects.Region x.0) (objects_in w)) _ c.args.at (0, regions.Free) (omega (arith, c.requires.stands.2, ap (λ h. length h.regions.items) d.holding.front.records)) (regions_there d.state (objects_in w))) in
    let place = c.row_start-place.ensures ∙ ap (λ l. row_start (map (λ x. x.object) l) (objects.Region c.own_word-r.result.0)) c.deref.ensures.0 ∙ ap (λ r. row_start (objects_in w) (objects.Region r)) c.own_word-r.ensures.region in
    omega (arith, place, start_within (objects_in w) (objects.Region p.0) there, d.long)

pub withdraw-requires-clause-decided : goal.withdraw-requires-clause-decided
unfolding phase_stands
withdraw-requires-clause-decided c =
    let w = c.args.self.now in
    let d = c.requires.stands.0 in
    let h = d.holding in
    let p = get_or w.held.regions.items c.args.at (0, regions.Free) in
    record {
      state = d.state;
      holding = record {
        based = record { valid = h.based.valid; caller = h.based.caller; is_call = h.based.is_call; few = h.based.few };
        early = h.early;
        machine = h.machine;
        mode = h.mode;
        whole = h.whole;
        ranges = h.ranges;
        front = h.front;
      };
      long = ap (λ l. length l) c.put_word.ensures ∙ length-set w.stood.items c.row_start-place.result c.own_word-r.result.1 ∙ d.long;
      is_ok = d.is_ok;
      change = early_changes d.state (known (record w { stood = c.put_word.new.words })) w.core w.call p.1 c.requires.stands.3;
      ends = d.ends;
    }

pub withdraw-requires-clause-input : goal.withdraw-requires-clause-input
unfolding phase_stands
withdraw-requires-clause-input c = c.requires.stands.1

pub withdraw-requires-clause-from : goal.withdraw-requires-clause-from
unfolding phase_stands
withdraw-requires-clause-from c = omega (arith, c.requires.stands.2, c.from.ensures)

pub returns : goal.returns
unfolding phase_stands phase_tree phase_left draws drawn early_write ends_after
returns c =
    let w = c.args.self.now in
    let out = c.args.outcome.now in
    let p = get_or w.held.regions.items c.args.at (0, regions.Free) in
    let word = c.own_word-r.result.1 in
    let next = λ (now : List ℕ). early_rest w.call (objects_in w) (drop (c.args.at + 1) w.held.regions.items) now (draws w w.input) in
    let step = early_step w.call (objects_in w) w.held.regions.items c.args.at (0, regions.Free) w.stood.items (draws w w.input) c.requires.stands.2
    ∙ ap (λ o. early_write o (objects_in w) p.0 w.stood.items next) c.own_word-r.ensures.word in
    let place : c.row_start-place.result ≡ row_start (objects_in w) (objects.Region p.0) =
    c.row_start-place.ensures ∙ ap (λ l. row_start (map (λ x. x.object) l) (objects.Region c.own_word-r.result.0)) c.deref.ensures.0 ∙ ap (λ r. row_start (objects_in w) (objects.Region r)) c.own_word-r.ensures.region in
    at_from _ _ _ _ _ _ _ _ _ c.withdraw.ensures.at
    (ap (λ l. early_rest w.call (objects_in w) (drop (c.from.result + 1) w.held.regions.items) l (draws w None)) (c.put_word.ensures ∙ ap (λ k. set w.stood.items k word) place)
    ∙ ap (λ n. early_rest w.call (objects_in w) (drop (n + 1) w.held.regions.items) (set w.stood.items (row_start (objects_in w) (objects.Region p.0)) word) (draws w None)) c.from.ensures
    ∙ ap (λ i. early_rest w.call (objects_in w) (drop (c.args.at + 1) w.held.regions.items) (set w.stood.items (row_start (objects_in w) (objects.Region p.0)) word) (draws w i)) (sym c.requires.stands.1)
    ∙ sym (ap (λ t. after t out) step))
    (omega (arith, early_many w.call p.1 c.requires.stands.3, c.from.ensures, c.requires.stands.2, (holds_few w c.requires.stands.0.state c.requires.stands.0.holding).regions)) (sym (ap (ends_after w) step)) refl refl refl refl
