use Rattle.std.proofs.Common.{sym, ◌∙◌, arith}
use Rattle.std.proofs.lemmas.List.{append-nil}
use Rattle.std.proofs.lemmas.Result.{err_from_is_err_and}
use Rattle.llc.proofs.Walking.{access_added, access_fails, all_accesses}
use Rattle.llc.proofs.read.read_accesses.Goals as goal

pub returns-in_err-access : goal.returns-in_err-access
returns-in_err-access c =
    let p = err_from_is_err_and c.from_residual.result c.from_residual.ensures.1 in
    rw (p.1, p.2) (access_fails c.args.config.now c.loop-rest.addresses c.loop-rest.line c.next_line.result.0.now _ _ c.in_err-access.field-0.0 _
    c.next_line.ensures.lines (sym c.read_access.ensures ∙ c.in_err-access.was) c.loop-rest.invariant.read)

pub loop-rest-preserved-in_ok-push : goal.loop-rest-preserved-in_ok-push
loop-rest-preserved-in_ok-push c = record {
  read =
      access_added c.args.config.now c.loop-rest.addresses c.push.new.self c.loop-rest.line c.next_line.result.0.now _ _ c.in_ok-access.access _
      c.next_line.ensures.lines (sym c.read_access.ensures ∙ c.in_ok-access.was) (rw c.in-Some.is c.in_ok-push.ensures.ok) c.loop-rest.invariant.read;
  within = omega (arith, c.loop-rest.invariant.within, c.next_line.ensures.shorter);
}

pub loop-rest-preserved : goal.loop-rest-preserved
loop-rest-preserved c = record {
  read =
      access_added c.args.config.now c.loop-rest.addresses c.loop-rest.addresses c.loop-rest.line c.next_line.result.0.now _ _ c.in_ok-access.access _
      c.next_line.ensures.lines (sym c.read_access.ensures ∙ c.in_ok-access.was) (rw c.in_default.is (sym (append-nil _))) c.loop-rest.invariant.read;
  within = omega (arith, c.loop-rest.invariant.within, c.next_line.ensures.shorter);
}

pub returns : goal.returns
returns c =
    all_accesses c.args.config.now c.loop-rest.addresses c.loop-rest.line c.loop-rest.rest.now _ (sym c.is_empty.ensures ∙ c.loop-rest-test.false) c.loop-rest.invariant.read
