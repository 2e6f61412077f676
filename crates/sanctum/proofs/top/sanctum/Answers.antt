use Rattle.sm_ports.specs.Causes.{Rose}
use Rattle.sanctum.specs.Words.{command_of}
use Rattle.sanctum.specs.Causes.{Rises}
use Rattle.sanctum.proofs.Ends.{one_line, complete}
use Rattle.sanctum.proofs.top.sanctum.Goals as goal

pub returns-clause-complete : goal.returns-clause-complete
returns-clause-complete g c =
    let e = c.carry_out.ensures in
    complete (command_of c.args.words.now) (g.D.Depot.contents c.args.depot.now) (Rises (g.D.Depot.faults c.args.depot.now) (g.D.Depot.faults c.carry_out.new.depot)) (g.K.Sink.taken c.args.out.now)
    (g.K.Sink.taken c.carry_out.new.out) c.carry_out.result (Rose (g.K.Sink.faults c.args.out.now) (g.K.Sink.faults c.carry_out.new.out)) e.ends e.write_fault

pub returns-clause-one_line : goal.returns-clause-one_line
returns-clause-one_line g c =
    one_line (command_of c.args.words.now) (g.D.Depot.contents c.args.depot.now) (Rises (g.D.Depot.faults c.args.depot.now) (g.D.Depot.faults c.carry_out.new.depot)) (g.K.Sink.taken c.args.out.now) (g.K.Sink.taken c.carry_out.new.out) c.carry_out.result
    c.carry_out.ensures.ends
