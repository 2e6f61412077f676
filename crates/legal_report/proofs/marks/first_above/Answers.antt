use Rattle.std.proofs.Common.{leb, leb-true, arith, rules, ◌∙◌}
use Rattle.std.proofs.lemmas.Bool.{leb-false}
use Rattle.std.proofs.lemmas.List.Sorted.{IsPartitionPoint-from_clause, IsPartitionedBy-leb}
use Rattle.legal_report.proofs.Sought.{sought_above}
use Rattle.legal_report.proofs.marks.first_above.Goals as goal

pub returns : goal.returns
returns c =
    let parted = IsPartitionedBy-leb (λ x. x) c.args.tickets.now c.args.ticket c.requires in
    let point = IsPartitionPoint-from_clause (λ x. leb x c.args.ticket) _ _ c.partition_point-at.ensures.partitioned parted (λ a r q k. search rules) in
    c.ticket_at.ensures
    ∙ sought_above c.args.tickets.now c.args.ticket c.partition_point-at.result (λ k d lt. leb-true _ _ (point.0 k d (omega arith) lt)) (λ k d le lt. leb-false _ _ (point.1 k d le lt))
