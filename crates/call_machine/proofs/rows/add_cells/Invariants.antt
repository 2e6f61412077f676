use Rattle.std.proofs.Common.{◌≡◌, ◌++◌, drop}
use Rattle.call_machine.specs.Found.{cell_rows}
use Rattle.call_machine.proofs.rows.add_cells.Given as goal

-- the rows that are left, behind what stands, make all
abbrev pub invariant-loop-item : goal.invariant-loop-item
invariant-loop-item l = l.words.items ++ cell_rows (drop l.item-index l.items) ≡ l.initial.words.items ++ cell_rows l.items
