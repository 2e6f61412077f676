use Rattle.std.proofs.Common.{◌∷◌, ◌++◌}
use Rattle.mon_model.specs.Measure.{number_bytes}
use Rattle.mon_measure.proofs.Hashing.{adds_both}
use Rattle.mon_measure.proofs.chain.add_item.Goals as goal

pub returns-in-Create : goal.returns-in-Create
returns-in-Create c = rw c.in-Create.is (rw c.fields.ensures at c.update.ensures)

pub returns-in-Table : goal.returns-in-Table
returns-in-Table c = rw c.in-Table.is (rw c.fields-in-Table.ensures at c.update-in-Table.ensures)

pub returns-in-Page : goal.returns-in-Page
returns-in-Page c =
    let head = 3 ∷ number_bytes c.in-Page.va ++ number_bytes c.in-Page.perms in
    rw c.in-Page.is
    (adds_both c.args.hasher.now c.update-in-Page.new.self c.update-in-Page-2.new.self head c.in-Page.digest (rw c.fields-in-Page.ensures at c.update-in-Page.ensures) c.update-in-Page-2.ensures)

pub returns-in-Thread : goal.returns-in-Thread
returns-in-Thread c = rw c.in-Thread.is (rw c.fields-in-Thread.ensures at c.update-in-Thread.ensures)
