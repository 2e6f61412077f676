use Rattle.std.proofs.Common.{◌∙◌, refl}
use Rattle.lab.proofs.Turns.{runs_none, runs_more}
use Rattle.lab.proofs.bench.Bench.run_out.Goals as goal

pub rounds-init : goal.rounds-init
rounds-init c = record { runs = λ image script run s. runs_none image script run c.args.self.now s; reached = c.requires; config = refl }

pub rounds-preserved : goal.rounds-preserved
rounds-preserved c = record {
  runs = λ image script run s. runs_more image script run c.rounds.self c.round.new.self (c.rounds.invariant.runs image script run s) c.round.ensures.goes;
  reached = c.round.ensures.reached;
  config = c.round.ensures.config ∙ c.rounds.invariant.config;
}

pub returns-then-round-eq0-clause-runs : goal.returns-then-round-eq0-clause-runs
returns-then-round-eq0-clause-runs c = λ image script run s. runs_more image script run c.rounds.self c.round.new.self (c.rounds.invariant.runs image script run s) c.round.ensures.goes
