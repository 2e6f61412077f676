use Rattle.protocol.specs.Runs.{memory_after}
use Rattle.core_behaviour.specs.Runs.{start_words}
use Rattle.lab.proofs.Ends.{leaves}
use Rattle.lab.proofs.bench.Bench.finish.Goals as goal

pub returns : goal.returns
returns c = λ image script run s.
    leaves image script run c.args.self c.fill-left.result c.into_tables-tables.result s c.fill-left.ensures.logs c.fill-left.ensures.answers c.fill-left.ensures.modes
    (c.into_tables-tables.ensures (memory_after image.config (start_words image) run) s.words.holds)
