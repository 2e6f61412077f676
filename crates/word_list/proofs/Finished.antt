-- The tables of a finished run.
use Rattle.std.proofs.Common.{sym}
use Rattle.core_behaviour.specs.Runs.{finished_run}
use Rattle.word_list.specs.Tables.{TablesAreThoseOfARun}

pub tables_are : TablesAreThoseOfARun
unfolding finished_run
tables_are image run t are = record {
  regions = sym are.regions;
  enclaves = sym are.enclaves;
  threads = sym are.threads;
  flushed = sym are.flushed;
  words = sym are.words;
}
