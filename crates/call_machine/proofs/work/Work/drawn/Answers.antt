use Rattle.std.proofs.Common.{◌≡◌, ◌∙◌, ◌-◌, ℕ, cond, eqb, filter, Some, None, List, [], length, sym, ap, refl, subst, arith}
use Rattle.std.specs.List.{range_with_len}
use Rattle.dram_map.specs.Addresses.{word_total, region_of_word}
use Rattle.mon_types.specs.Shape.{Shape}
use Rattle.mon_model.specs.Step.{effect}
use Rattle.mon_model.specs.Tries.{freed_by}
use Rattle.hist.specs.History.{digest_of}
use Rattle.mon_calls.specs.Left.{left_by}
use Rattle.mon_records.specs.Answers.{freed}
use Rattle.protocol.specs.Moves.{action_outcome}
use Rattle.protocol.specs.CallTree.{zeros, words_freed, words_in_region, number_in}
use Rattle.call_machine.specs.Found.{held_rows}
use Rattle.call_machine.specs.Named.{IsNamed}
use Rattle.call_machine.specs.Rest.{places, writes_from, region_words_from, unlocks_of}
use Rattle.call_machine.specs.Meaning.{phase_tree, objects_in, draws, drawn, ends_after}
use Rattle.call_machine.specs.Count.{phase_left, most_zeros}
use Rattle.call_machine.proofs.At.{at_from}
use Rattle.call_machine.proofs.Bounds.{room_for_words}
use Rattle.call_machine.proofs.Draws.{left_is, effect_ranges}
use Rattle.call_machine.proofs.Finishing.{records_named}
use Rattle.call_machine.proofs.Loads.{holds_few, wanted_long, ends_is, nothing_freed}
use Rattle.call_machine.proofs.Regions.{region_many}
use Rattle.call_machine.proofs.work.Work.drawn.Goals as goal

-- the words of a region, from the first of DRAM on
from_all : (m : Shape) (r : ℕ) → words_in_region m r ≡ region_words_from m r 0
from_all m r =
    ap (λ n. filter (λ i. eqb (region_of_word m i) r) (range_with_len 0 n)) {x = word_total m} {y = word_total m - 0} (omega arith)

pub ticket_of-ticket-requires : goal.ticket_of-ticket-requires
unfolding phase_tree draws action_outcome
ticket_of-ticket-requires c = (_, c.requires.outcome.1)

pub put_rows-requires-clause-named : goal.put_rows-requires-clause-named
put_rows-requires-clause-named c =
    let w = c.args.self.now in
    let d = c.requires.decided in
    let digest = c.digest_in-digest.result in
    let k = c.ticket_of-ticket.result in
    subst IsNamed (sym (c.apply.ensures.by_records ∙ left_is w d.state d.holding digest k))
    (records_named (effect d.state w.core w.call digest k) (objects_in w) (effect_ranges w d.state d.holding digest k c.ticket_of-ticket.type_inv))

pub put_rows-requires-clause-room : goal.put_rows-requires-clause-room
put_rows-requires-clause-room c =
    let w = c.args.self.now in
    let d = c.requires.decided in
    omega (arith, ap (λ h. length (held_rows h)) c.apply.ensures.by_records, wanted_long w d.state d.holding c.digest_in-digest.result c.ticket_of-ticket.result c.ticket_of-ticket.type_inv, (holds_few w d.state d.holding).words, room_for_words w.call)

pub zero-requires-clause-drawn : goal.zero-requires-clause-drawn
zero-requires-clause-drawn c =
    let w = c.args.self.now in
    let d = c.requires.decided in
    record {
      long = d.long;
      wanted = ap (λ l. length l) c.put_rows.ensures ∙ ap (λ h. length (held_rows h)) c.apply.ensures.by_records
          ∙ wanted_long w d.state d.holding c.digest_in-digest.result c.ticket_of-ticket.result c.ticket_of-ticket.type_inv ∙ sym d.long;
      ends = λ e. absurd (cc);
    }

pub write-requires : goal.write-requires
write-requires c =
    let w = c.args.self.now in
    let d = c.requires.decided in
    let b = d.holding.based in
    record {
      based = record { valid = b.valid; caller = b.caller; is_call = b.is_call; few = b.few };
      drawn = record {
        long = d.long;
        wanted = ap (λ l. length l) c.put_rows.ensures ∙ ap (λ h. length (held_rows h)) c.apply.ensures.by_records
            ∙ wanted_long w d.state d.holding c.digest_in-digest.result c.ticket_of-ticket.result c.ticket_of-ticket.type_inv ∙ sym d.long;
        ends = λ e. absurd (cc);
      };
      from = omega arith;
    }

pub returns-in-Free : goal.returns-in-Free
unfolding phase_tree phase_left draws drawn ends_after freed
returns-in-Free c =
    let w = c.args.self.now in
    let d = c.requires.decided in
    let r = c.in-Free.r in
    let n = number_in c.args.outcome.now in
    let rows = c.put_rows.ensures ∙ ap held_rows c.apply.ensures.by_records
    ∙ ap (λ g. held_rows (left_by w.mode w.call g c.ticket_of-ticket.result w.held)) c.digest_in-digest.ensures ∙ ap (λ k. held_rows (left_by w.mode w.call (digest_of w.input) k w.held)) c.ticket_of-ticket.ensures in
    let freed_is : words_freed w.config (freed w.reply w.call) ≡ region_words_from w.config (freed_by w.call) 0 =
    ap (λ x. words_freed w.config (freed w.reply x)) c.in-Free.is ∙ ap (λ b. words_freed w.config (cond b (Some r) None)) d.is_ok ∙ from_all w.config r ∙ ap (λ x. region_words_from w.config (freed_by x) 0) (sym c.in-Free.is) in
    let next = λ (wanted : List ℕ). writes_from (places (objects_in w)) w.stood.items wanted 0 (unlocks_of (objects_in w)) in
    at_from _ _ _ _ _ _ _ _ _ c.zero.ensures
    (ap (λ l. zeros l (next c.put_rows.new.words.items)) (sym freed_is) ∙ ap (λ x. zeros (words_freed w.config (freed w.reply w.call)) (next x)) rows)
    (omega (arith, region_many w.config (freed_by w.call) d.holding.based.valid, ap (most_zeros w.config) c.in-Free.is, (holds_few w d.state d.holding).locks, (holds_few w d.state d.holding).words, d.long))
    (ends_is w c.core_change.result d.state d.holding d.is_ok d.change c.core_change.ensures.in_states) refl refl refl refl

pub returns-in_default : goal.returns-in_default
unfolding phase_tree phase_left draws drawn ends_after zeros freed
returns-in_default c =
    let w = c.args.self.now in
    let d = c.requires.decided in
    let rows = c.put_rows.ensures ∙ ap held_rows c.apply.ensures.by_records
    ∙ ap (λ g. held_rows (left_by w.mode w.call g c.ticket_of-ticket.result w.held)) c.digest_in-digest.ensures ∙ ap (λ k. held_rows (left_by w.mode w.call (digest_of w.input) k w.held)) c.ticket_of-ticket.ensures in
    let none : words_freed w.config (freed w.reply w.call) ≡ [] = nothing_freed w.config w.call w.reply c.in_default.not-Free in
    let next = λ (wanted : List ℕ). writes_from (places (objects_in w)) w.stood.items wanted 0 (unlocks_of (objects_in w)) in
    at_from _ _ _ _ _ _ _ _ _ c.write.ensures
    (ap next rows ∙ ap (λ l. zeros l (next (held_rows (left_by w.mode w.call (digest_of w.input) (number_in c.args.outcome.now) w.held)))) (sym none))
    (omega (arith, (holds_few w d.state d.holding).locks, (holds_few w d.state d.holding).words, d.long))
    (ends_is w c.core_change.result d.state d.holding d.is_ok d.change c.core_change.ensures.in_states) refl refl refl refl
