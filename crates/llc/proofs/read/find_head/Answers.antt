use Rattle.std.proofs.Common.{sym, ◌∙◌, arith}
use Rattle.std.proofs.lemmas.Result.{err_from_is_err_and}
use Rattle.llc.proofs.Walking.{fault_met, head_met, no_head_yet, no_head}
use Rattle.llc.proofs.read.find_head.Goals as goal

pub returns-in_err-head-clause-read : goal.returns-in_err-head-clause-read
returns-in_err-head-clause-read c =
    let p = err_from_is_err_and c.from_residual.result c.from_residual.ensures.1 in
    rw (p.1, p.2) (fault_met c.loop-rest.line c.next_line.result.0.now _ _ c.in_err-head.field-0.0 _ c.next_line.ensures.lines
    (sym c.read_first.ensures ∙ c.in_err-head.was) c.loop-rest.invariant.read)

pub returns-in-Some-clause-read : goal.returns-in-Some-clause-read
returns-in-Some-clause-read c =
    head_met c.loop-rest.line c.next_line.result.0.now _ _ c.in_ok-head.field-0 c.in-Some.head _ c.next_line.ensures.lines
    (sym c.read_first.ensures ∙ c.in_ok-head.was) c.in-Some.is c.loop-rest.invariant.read

pub loop-rest-preserved : goal.loop-rest-preserved
loop-rest-preserved c = record {
  read =
      no_head_yet c.loop-rest.line c.next_line.result.0.now _ _ c.in_ok-head.field-0 _ c.next_line.ensures.lines
      (sym c.read_first.ensures ∙ c.in_ok-head.was) c.in_default.is c.loop-rest.invariant.read;
  within = omega (arith, c.loop-rest.invariant.within, c.next_line.ensures.shorter);
}

pub returns-clause-read : goal.returns-clause-read
returns-clause-read c =
    no_head c.loop-rest.line c.loop-rest.rest.now _ (sym c.is_empty.ensures ∙ c.loop-rest-test.false) c.loop-rest.invariant.read
