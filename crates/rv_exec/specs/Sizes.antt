-- How many bytes the accesses of effects have, as in the RISC-V Unprivileged ISA (Load and Store Instructions; Atomic
-- Memory Operations).
use Rattle.std.specs.Prelude.{◌≡◌, ℕ, ⊤, ◌⊎◌}
use Rattle.rv_exec.specs.declared.effect.Effect.{Effect}
use Rattle.rv_exec.specs.declared.effect.Effect.TheVariants as effects
use Rattle.rv_exec.specs.Loads.{IsSize}

-- how many bytes an atomic instruction has
abbrev pub IsAmoSize : ℕ → Type 0
IsAmoSize size = (size ≡ 4) ⊎ (size ≡ 8)

-- a load and a store have 1, 2, 4 or 8 bytes, an atomic instruction 4 or 8, and no other effect has an access
abbrev pub HasSizes : Effect → Type 0
HasSizes (effects.Next pc rd value) = ⊤
HasSizes (effects.Load address size signed rd) = IsSize size
HasSizes (effects.Store address size value) = IsSize size
HasSizes (effects.Amo address size op value rd) = IsAmoSize size
HasSizes effects.Call = ⊤
HasSizes effects.Fence = ⊤
HasSizes effects.Flush = ⊤
HasSizes (effects.Trap cause value) = ⊤
