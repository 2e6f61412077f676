-- What the lines `pc` and `reg` make of a core's pc and registers: in OS mode they set them, and in an enclave they do
-- nothing. This project's own.
use Rattle.std.specs.Prelude.{ℕ}
use Rattle.mon_types.specs.declared.thread.Mode.{Mode}
use Rattle.mon_types.specs.declared.thread.Mode.TheVariants as modes
use Rattle.core_context.specs.declared.context.Context.{Context}
use Rattle.core_context.specs.Registers.{with_register}

-- the line `pc`
abbrev pub pc_by : Mode → Context → ℕ → Context
pc_by modes.Os context pc = record context { pc = pc }
pc_by (modes.Inside e t) context pc = context

-- the line `reg`
abbrev pub reg_by : Mode → Context → ℕ → ℕ → Context
reg_by modes.Os context x value = with_register context x value
reg_by (modes.Inside e t) context x value = context
