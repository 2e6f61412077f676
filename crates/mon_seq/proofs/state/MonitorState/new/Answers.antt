use Rattle.std.proofs.Common.{◌≡◌, sym, subst, rules}
use Rattle.mon_model.specs.State.{State, start}
use Rattle.mon_facts.specs.Tables.{AreTables}
use Rattle.mon_facts.proofs.TablesKept.{start_sound}
use Rattle.mon_seq.proofs.state.MonitorState.new.Goals as goal

pub returns-clause-tables : goal.returns-clause-tables
returns-clause-tables c =
    let s : State = record { shape = c.args.config; regions = c.in_ok-regions.regions.items; enclaves = c.in_ok-enclaves.enclaves.items; threads = c.in_ok-threads.threads.items; flushed = c.in_ok-flushed.flushed.items; modes = c.in_ok-modes.modes.items; loaded = c.in_ok-loaded.loaded.items } in
    let is : s ≡ start c.args.config = search rules in
    subst AreTables (sym is) (start_sound c.args.config c.cores.ensures.valid)
