-- What each line that is generated is about. This project's own.
use Rattle.std.specs.Prelude.{◌≡◌, ℕ, ◌≤◌, ⊤}
use Rattle.mon_types.specs.Owns.{os_word}
use Rattle.mon_types.specs.declared.call.Call.{Call}
use Rattle.mon_types.specs.declared.call.Call.TheVariants as calls
use Rattle.mon_types.specs.declared.script.Line.{Line}
use Rattle.mon_types.specs.declared.script.Line.TheVariants as lines

-- a region of the plain machine that lines are about
abbrev pub IsTarget : ℕ → Type 0
IsTarget r = (1 ≤ r) × (r ≤ 7)

-- one of the five calls that are generated, about such a region; none is assigned to an enclave
abbrev pub IsGeneratedCall : Call → Type 0
IsGeneratedCall (calls.Block r) = IsTarget r
IsGeneratedCall (calls.Free r) = IsTarget r
IsGeneratedCall (calls.Assign r to) = IsTarget r × (to ≡ os_word)
IsGeneratedCall calls.Flush = ⊤
IsGeneratedCall (calls.RegionInfo r) = IsTarget r
IsGeneratedCall _ = ⊥

-- such a call, or a load from the pages of such regions
abbrev pub IsGenerated : Line → Type 0
IsGenerated (lines.Make call) = IsGeneratedCall call
IsGenerated (lines.LoadWord va) = (0x8000_1000 ≤ va) × (va ≤ 0x8000_7000)
IsGenerated _ = ⊥
