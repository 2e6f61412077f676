use Rattle.std.proofs.lemmas.Result.{err_from_is_err_and}
use Rattle.sanctum.specs.Causes.{Rises}
use Rattle.sanctum.proofs.Traced.{llc_refused}
use Rattle.sanctum.proofs.trace.count_trace.Goals as goal

pub returns-in_err-trace-clause-serves : goal.returns-in_err-trace-clause-serves
returns-in_err-trace-clause-serves g c =
    let p = err_from_is_err_and c.from_residual.result c.from_residual.ensures.1 in
    let e = c.in_err-trace.ensures in
    rw (p.1, p.2)
    (llc_refused (g.D.Depot.contents c.args.depot.now) (Rises (g.D.Depot.faults c.args.depot.now) (g.D.Depot.faults c.read_trace.new.depot)) c.args.name.now c.in_err-trace.field-0.0 e.only e.exact e.read)
