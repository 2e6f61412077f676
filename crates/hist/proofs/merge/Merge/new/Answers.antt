use Rattle.std.proofs.Common.{◌≤◌, length, ◌∙◌, ap, arith}
use Rattle.std.proofs.lemmas.List.{length-set, length-map}
use Rattle.hist.specs.History.{entries_of}
use Rattle.hist.specs.Logged.{Logged}
use Rattle.hist.proofs.Begun.{holds_more, are_left, history_left, holds_all}
use Rattle.hist.proofs.merge.Merge.new.Goals as goal

pub loop-i-preserved : goal.loop-i-preserved
loop-i-preserved c =
    let few : length c.args.logs.now ≤ 16 = omega (arith, c.requires.few, length-map c.args.logs.now (λ (log : Logged). log.events)) in
    let same = c.from_entry.ensures.same ∙ ap entries_of c.events.ensures ∙ ap (λ (log : Logged). entries_of log.events) c.index-logs-i.is in (
      length-set c.loop-i.rests c.loop-i.i c.from_entry.result ∙ c.loop-i.invariant.0,
      holds_more c.loop-i.rests c.args.logs.now c.loop-i.i c.from_entry.result c.index-logs-i.result (omega (arith, few)) c.loop-i-test.true (same, c.from_entry.ensures.begins) c.loop-i.invariant.1,
    )

pub invariant_of-result : goal.invariant_of-result
invariant_of-result c = are_left c.loop-i.rests c.args.logs.now (holds_all c.loop-i.rests c.args.logs.now c.loop-i.i c.loop-i-test.false c.loop-i.invariant.1) c.requires.apart

pub returns : goal.returns
returns c = history_left c.loop-i.rests c.args.logs.now (holds_all c.loop-i.rests c.args.logs.now c.loop-i.i c.loop-i-test.false c.loop-i.invariant.1)
