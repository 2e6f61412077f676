-- A core before its first step. This project's own.
use Rattle.std.specs.Prelude.{false, []}
use Rattle.mon_types.specs.Budgets.{event_budget}
use Rattle.core_machine.specs.declared.progress.Progress.{Progress}
use Rattle.lab.specs.declared.lab_core.LabCore.{LabCore}

-- it has logged nothing and was given nothing, and no step has found its end
abbrev pub new_core : Progress → LabCore
new_core machine = record {
  machine = machine;
  log = record { events = []; spare = event_budget };
  answers = [];
  ended = false;
}
