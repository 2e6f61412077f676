use Rattle.std.proofs.Common.{◌≡◌, ◌++◌, drop}
use Rattle.call_machine.specs.Found.{enclave_rows}
use Rattle.call_machine.proofs.rows.add_enclaves.Given as goal

-- the rows that are left, behind what stands, make all
abbrev pub invariant-loop-item : goal.invariant-loop-item
invariant-loop-item l = l.words.items ++ enclave_rows (drop l.item-index l.items) ≡ l.initial.words.items ++ enclave_rows l.items
