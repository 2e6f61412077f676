use Rattle.sanctum.specs.Words.{command_of, order_said}
use Rattle.sanctum.specs.Causes.{Rises}
use Rattle.sanctum.proofs.Ends.{answered, none_answered}
use Rattle.sanctum.proofs.top.answer.Goals as goal

pub returns-in-Some-clause-answers : goal.returns-in-Some-clause-answers
returns-in-Some-clause-answers g c =
    answered (command_of c.args.words.now) (order_said c.in-Some.order) (g.D.Depot.contents c.args.depot.now) (Rises (g.D.Depot.faults c.args.depot.now) (g.D.Depot.faults c.serve.new.depot)) c.serve.result
    c.in-Some.ensures c.serve.ensures.serves

pub returns-in-None-clause-answers : goal.returns-in-None-clause-answers
returns-in-None-clause-answers g c =
    none_answered (command_of c.args.words.now) (g.D.Depot.contents c.args.depot.now) (Rises (g.D.Depot.faults c.args.depot.now) (g.D.Depot.faults c.args.depot.now)) c.in-None.ensures
