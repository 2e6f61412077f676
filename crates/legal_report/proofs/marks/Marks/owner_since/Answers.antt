use Rattle.std.proofs.Common.{◌≡◌, ltb, arith, rules, ap, sym, subst, ◌∙◌, List, length, slice_get, None, Some}
use Rattle.std.proofs.lemmas.Bool.{ltb-true, ltb-false}
use Rattle.std.proofs.lemmas.List.Sorted.{IsPartitionPoint-from_clause, IsPartitionedBy-ltb}
use Rattle.legal_report.specs.declared.marks.Begin.{Begin}
use Rattle.legal_report.proofs.Sought.{begins_non_decreasing, sought_there, sought_other, sought_none, none_there}
use Rattle.legal_report.proofs.marks.Marks.owner_since.Goals as goal

pub returns-in-Some : goal.returns-in-Some
returns-in-Some c =
    let begins = c.as_slice-begins.result.now in
    let same : begins ≡ c.args.self.now.begins = search rules in
    let rise = begins_non_decreasing 0 c.args.self.now.begins c.requires in
    let parted = IsPartitionedBy-ltb (λ (b : Begin). b.since) c.args.self.now.begins c.args.since rise in
    let point = IsPartitionPoint-from_clause (λ (b : Begin). ltb b.since c.args.since) c.args.self.now.begins c.partition_point-at.result (rw same at c.partition_point-at.ensures.partitioned) parted (λ a r q k. search rules) in
    sym
    (sought_there c.args.self.now.begins c.args.since c.partition_point-at.result c.in-Some.begin (ap (λ (bs : List Begin). slice_get bs c.partition_point-at.result) (sym same) ∙ sym c.begin_at.ensures ∙ c.in-Some.is)
    c.if-begin-since.true (λ k d lt. ltb-true _ _ (point.0 k d (omega arith) lt)))

pub returns-in_default : goal.returns-in_default
returns-in_default c =
    let begins = c.as_slice-begins.result.now in
    let same : begins ≡ c.args.self.now.begins = search rules in
    let rise = begins_non_decreasing 0 c.args.self.now.begins c.requires in
    let parted = IsPartitionedBy-ltb (λ (b : Begin). b.since) c.args.self.now.begins c.args.since rise in
    let point = IsPartitionPoint-from_clause (λ (b : Begin). ltb b.since c.args.since) c.args.self.now.begins c.partition_point-at.result (rw same at c.partition_point-at.ensures.partitioned) parted (λ a r q k. search rules) in
    sym
    (sought_other c.args.self.now.begins c.args.since c.partition_point-at.result c.in-Some.begin (ap (λ (bs : List Begin). slice_get bs c.partition_point-at.result) (sym same) ∙ sym c.begin_at.ensures ∙ c.in-Some.is)
    c.if-begin-since.false (λ k d lt. ltb-true _ _ (point.0 k d (omega arith) lt)) (λ k d le lt. ltb-false _ _ (point.1 k d le lt)) rise)

pub returns-in_default-2 : goal.returns-in_default-2
returns-in_default-2 c =
    let begins = c.as_slice-begins.result.now in
    let same : begins ≡ c.args.self.now.begins = search rules in
    let rise = begins_non_decreasing 0 c.args.self.now.begins c.requires in
    let parted = IsPartitionedBy-ltb (λ (b : Begin). b.since) c.args.self.now.begins c.args.since rise in
    let point = IsPartitionPoint-from_clause (λ (b : Begin). ltb b.since c.args.since) c.args.self.now.begins c.partition_point-at.result (rw same at c.partition_point-at.ensures.partitioned) parted (λ a r q k. search rules) in
    sym
    (sought_none c.args.self.now.begins c.args.since c.partition_point-at.result (none_there c.args.self.now.begins c.partition_point-at.result (ap (λ (bs : List Begin). slice_get bs c.partition_point-at.result) (sym same) ∙ sym c.begin_at.ensures ∙ c.in_default.is))
    (λ k d lt. ltb-true _ _ (point.0 k d (omega arith) lt)))
