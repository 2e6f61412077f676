use Rattle.std.proofs.Common.{◌≡◌, ◌∙◌, ◌-◌, ◌<◌, ℕ, List, [], ◌∷◌, length, take, drop, ap, refl, arith, length-drop, length-append}
use Rattle.mon_types.specs.Objects.{width}
use Rattle.call_machine.specs.Found.{widths, with_row}
use Rattle.call_machine.specs.Meaning.{objects_in}
use Rattle.call_machine.proofs.At.{at_from, take_whole}
use Rattle.call_machine.proofs.Bounds.{room_for_locks}
use Rattle.call_machine.proofs.Holding.{lock_room, record_room, row_between, row_found, row_tree}
use Rattle.call_machine.proofs.work.Work.row_read.Goals as goal

-- the end of a list
end_of : (xs ys : List ℕ) (n m : ℕ) → xs ≡ ys → n ≡ m → take (length xs - n) (drop n xs) ≡ drop m ys
end_of xs ys n m e f =
    ap (λ l. take (length l - n) (drop n l)) e ∙ ap (λ k. take (length ys - k) (drop k ys)) f
    ∙ take_whole (drop m ys) (length ys - m) (omega (arith, length-drop m ys))

pub take_row-requires-clause-room : goal.take_row-requires-clause-room
take_row-requires-clause-room c = record_room c.args.self.now c.args.object c.requires.others (width c.args.object) c.requires.locking

pub push-requires : goal.push-requires
push-requires c =
    let w = c.args.self.now in
    let room : length w.locks.items < 65 = omega (arith, lock_room w c.args.object c.requires.others (width c.args.object) c.requires.locking, room_for_locks w.call) in
    (omega arith, room)

pub go_on-requires : goal.go_on-requires
go_on-requires c =
    let w = c.args.self.now in
    let from : c.len.result - c.from.result ≡ widths (objects_in w) = omega (arith, c.len.ensures.value, c.from.ensures, c.width_of.ensures, c.requires.locking.long) in
    row_between w c.args.object c.requires c.take_row.new.held c.push.new.self
    (c.take_row.ensures ∙ ap (λ ws. with_row w.config c.args.object ws w.held) (end_of c.deref.result.now w.stood.items _ _ c.deref.ensures.0 from))
    c.push.ensures.items

pub returns-clause-at : goal.returns-clause-at
returns-clause-at c =
    let w = c.args.self.now in
    let from : c.len.result - c.from.result ≡ widths (objects_in w) = omega (arith, c.len.ensures.value, c.from.ensures, c.width_of.ensures, c.requires.locking.long) in
    at_from _ _ _ _ _ _ _ _ _ c.go_on.ensures.at
    (row_tree w c.args.object c.requires c.take_row.new.held c.push.new.self
    (c.take_row.ensures ∙ ap (λ ws. with_row w.config c.args.object ws w.held) (end_of c.deref.result.now w.stood.items _ _ c.deref.ensures.0 from))
    c.push.ensures.items)
    (omega (arith, ap (λ l. length l) c.push.ensures.items, length-append w.locks.items (record { object = c.args.object } ∷ []))) refl refl refl refl refl

pub returns-clause-found : goal.returns-clause-found
returns-clause-found c =
    let w = c.args.self.now in
    let from : c.len.result - c.from.result ≡ widths (objects_in w) = omega (arith, c.len.ensures.value, c.from.ensures, c.width_of.ensures, c.requires.locking.long) in
    c.go_on.ensures.found
    ∙ row_found w c.args.object c.requires c.take_row.new.held c.push.new.self
    (c.take_row.ensures ∙ ap (λ ws. with_row w.config c.args.object ws w.held) (end_of c.deref.result.now w.stood.items _ _ c.deref.ensures.0 from))
    c.push.ensures.items
