-- What a call that answers Ok does to the core that makes it. This project's own.
use Rattle.std.specs.Prelude.{ℕ, Bool, true, false}
use Rattle.mon_types.specs.declared.thread.Mode.{Mode}
use Rattle.mon_types.specs.declared.thread.Mode.TheVariants as modes
use Rattle.mon_types.specs.declared.call.Call.{Call}
use Rattle.mon_types.specs.declared.call.Call.TheVariants as calls

-- the call of which each core's cell has the last ticket
abbrev pub is_flush : Call → Bool
is_flush calls.Flush = true
is_flush _ = false

-- the one call that reads a page, and so has a digest
abbrev pub is_load_page : Call → Bool
is_load_page (calls.LoadPage e va page src perms) = true
is_load_page _ = false

-- the calls that clear the core's translations: flush, enter, exit, aex and set_satp
abbrev pub clears : Call → Bool
clears calls.Flush = true
clears (calls.Enter e t) = true
clears calls.Exit = true
clears (calls.Aex saved) = true
clears (calls.SetSatp v) = true
clears _ = false

-- for whom the core runs after the call: an enter, exit or aex changes it
abbrev pub mode_by : Call → Mode → Mode
mode_by (calls.Enter e t) before = modes.Inside e t
mode_by calls.Exit before = modes.Os
mode_by (calls.Aex saved) before = modes.Os
mode_by _ before = before

-- the core's flush ticket after the call at ticket k
abbrev pub cell_by : Call → ℕ → ℕ → ℕ
cell_by calls.Flush before k = k
cell_by _ before k = before
