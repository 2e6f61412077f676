-- What a call on threads names. This project's own.
use Rattle.std.specs.Prelude.{ℕ, ◌<◌, List, []}
use Rattle.mon_types.specs.declared.call.Call.{Call}
use Rattle.mon_types.specs.declared.call.Call.TheVariants as calls

-- the enclave slot that a load_thread or an enter names
abbrev pub named_slot : Call → ℕ
named_slot (calls.LoadThread e t entry sp) = e
named_slot (calls.Enter e t) = e
named_slot _ = 0

-- the entry that a load_thread gives
abbrev pub named_entry : Call → ℕ
named_entry (calls.LoadThread e t entry sp) = entry
named_entry _ = 0

-- the stack pointer that it gives
abbrev pub named_sp : Call → ℕ
named_sp (calls.LoadThread e t entry sp) = sp
named_sp _ = 0

-- the words that an aex saves
abbrev pub saved_named : Call → List ℕ
saved_named (calls.Aex saved) = saved
saved_named _ = []

-- a load_thread into an enclave slot
abbrev pub IsLoadThread : Call → Type 0
IsLoadThread (calls.LoadThread e t entry sp) = e < 8
IsLoadThread _ = ⊥

-- an enter of an enclave slot
abbrev pub IsEnter : Call → Type 0
IsEnter (calls.Enter e t) = e < 8
IsEnter _ = ⊥

-- an aex
abbrev pub IsAex : Call → Type 0
IsAex (calls.Aex saved) = Unit {0}
IsAex _ = ⊥
