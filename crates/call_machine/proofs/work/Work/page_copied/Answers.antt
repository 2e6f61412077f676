use Rattle.std.proofs.Common.{◌≡◌, ◌∙◌, ◌+◌, Some, length, ap, refl, arith}
use Rattle.sv39_pte.specs.Tables.{last_place}
use Rattle.mon_model.specs.Measure.{page_digest}
use Rattle.protocol.specs.CallTree.{put_pte, page_read}
use Rattle.call_machine.specs.Meaning.{draws, drawn, copied}
use Rattle.call_machine.proofs.At.{at_from}
use Rattle.call_machine.proofs.work.Work.page_copied.Goals as goal

pub returns-clause-at : goal.returns-clause-at
unfolding draws drawn copied
returns-clause-at c =
    let w = c.args.self.now in
    let same : record { digest = c.page_digest.result; at = w.answers + c.len.result } ≡ page_read (w.answers + length w.ptes.items) w.page.items =
    ap (λ d. record { digest = d; at = w.answers + c.len.result }) (c.page_digest.ensures ∙ ap page_digest (c.array_of.ensures ∙ c.deref.ensures.0)) ∙ ap (λ n. record { digest = page_digest w.page.items; at = w.answers + n }) c.len.ensures.value in
    at_from _ _ _ _ _ _ _ _ _ c.put.ensures.at
    (ap (λ p. put_pte (last_place w.places.items) w.call (draws w (Some p) w.stood.items)) same) (omega arith) refl refl refl refl refl
