use Rattle.std.proofs.Common.{ℕ, List, ap, sym, ◌∙◌, arith, inl, inr}
use Rattle.std.specs.Borrow.{Bor}
use Rattle.std.specs.Option.{option_map}
use Rattle.std.proofs.lemmas.Bool.{eqb-true}
use Rattle.rv_asm.specs.Text.{label_of, statement_text}
use Rattle.rv_asm.specs.Parts.{spots_in}
use Rattle.rv_asm.specs.Reading.{words_in}
use Rattle.rv_asm.proofs.Spots.{line_added, all_added, has_no_label, has_label_kept, words_in_bounded}
use Rattle.rv_asm.proofs.label.find_labels.Goals as goal
use Rattle.rv_asm.proofs.label.find_labels.Goals.{in-Some+in_ok-keep_first, in_default}

pub overflow_add-spot-in-loop-rest : goal.overflow_add-spot-in-loop-rest
overflow_add-spot-in-loop-rest c =
    elim (words_in_bounded c.args.limit c.loop-rest.spot.words c.split_label.result.1.now) [
      | inl few ↦ omega (arith, few, c.count_words.ensures, c.loop-rest.invariant.lines, c.loop-rest.invariant.words)
      | inr within ↦ omega (arith, within, c.count_words.ensures)
    ]

pub loop-rest-preserved : goal.loop-rest-preserved
loop-rest-preserved c = record {
  spots = λ name. line_added c.args.limit (spots_in c.loop-rest.labels) (spots_in c.match-label.labels) c.loop-rest.spot.line c.loop-rest.spot.words c.count_words.result c.loop-rest.rest.now c.next_line.result.0.now c.next_line.result.1.now name _ c.next_line.ensures.lines (c.count_words.ensures ∙ ap (words_in c.args.limit c.loop-rest.spot.words) (c.split_label.ensures.statement ∙ ap statement_text c.line_body.ensures)) (elim c.match-label.branch [
    | in-Some+in_ok-keep_first w ↦ rw w.labels-is (has_label_kept (spots_in c.loop-rest.labels) (spots_in w.keep_first.new.labels) c.loop-rest.spot.line c.loop-rest.spot.words c.next_line.result.0.now w.in-Some.name.now (sym (c.split_label.ensures.label ∙ ap label_of c.line_body.ensures) ∙ ap (option_map (λ (l : Bor (List ℕ)). l.now)) w.in-Some.is) w.in_ok-keep_first.ensures)
    | in_default w ↦ rw w.labels-is (has_no_label (spots_in c.loop-rest.labels) c.loop-rest.spot.line c.loop-rest.spot.words c.next_line.result.0.now (sym (c.split_label.ensures.label ∙ ap label_of c.line_body.ensures) ∙ ap (option_map (λ (l : Bor (List ℕ)). l.now)) w.in_default.is))
  ]) (c.loop-rest.invariant.spots name);
  lines = omega arith;
  words =
      elim (words_in_bounded c.args.limit c.loop-rest.spot.words c.split_label.result.1.now) [
        | inl few ↦ omega (arith, few, c.count_words.ensures)
        | inr within ↦ omega (arith, within, c.count_words.ensures)
      ];
}

pub returns : goal.returns
returns c name = all_added c.args.limit (spots_in c.loop-rest.labels) c.loop-rest.spot.line c.loop-rest.spot.words c.loop-rest.rest.now name _ (eqb-true _ _ (sym c.is_empty.ensures ∙ c.loop-rest-test.false)) (c.loop-rest.invariant.spots name)
