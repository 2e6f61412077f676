use Rattle.std.proofs.Common.{◌≡◌, ◌-◌, ◌++◌, length}
use Rattle.dram_map.specs.Words.{word_at}
use Rattle.sv39_pte.specs.Tables.{path_by}
use Rattle.solo.proofs.ptes.path.Given as goal

abbrev pub invariant-loop-step : goal.invariant-loop-step
invariant-loop-step l = record {
  goes_on : path_by l.config (word_at l.memory) l.va 2 l.count l.root ≡ l.places.items ++ path_by l.config (word_at l.memory) l.va (2 - l.step) (l.count - l.step) l.page;
  places : length l.places.items ≡ l.step;
}
