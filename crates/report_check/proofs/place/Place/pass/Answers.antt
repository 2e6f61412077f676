use Rattle.std.proofs.Common.{◌≡◌, List, [], ◌∷◌, ◌++◌, Result, Ok, Err, sym, ap, subst}
use Rattle.std.specs.Prelude.{OnOk}
use Rattle.report_lines.specs.declared.event.EventLine.{EventLine}
use Rattle.legal_report.specs.Kept.{calls_told}
use Rattle.report_check.specs.Holds.{touch_of}
use Rattle.report_check.specs.Place.{IsPassed}
use Rattle.report_check.specs.declared.holds.Touch.{Touch}
use Rattle.report_check.specs.declared.place.Place.{Place}
use Rattle.report_check.proofs.Standing.{stands_entered, stands_touched, stands_stopped}
use Rattle.report_check.proofs.place.Place.pass.Goals as goal

on_ok_then : {A E : Type 0} (r : Result A E) (P Q : Type 0) → (P → Q) → OnOk r P → OnOk r Q
on_ok_then (Ok x) P Q f p = f p
on_ok_then (Err e) P Q f p = tt

pub returns-in-Entry : goal.returns-in-Entry
returns-in-Entry c =
    let calls = calls_told c.args.calls.now in
    subst (λ (e : EventLine). IsPassed calls c.args.core e c.args.self.now c.enter.new.self) (sym c.in-Entry.is)
    (λ before stands. stands_entered calls c.args.core c.in-Entry.ticket before c.with_ticket.result c.args.self.now c.enter.new.self c.with_ticket.ensures stands c.enter.ensures)

pub returns-in-Touch : goal.returns-in-Touch
returns-in-Touch c =
    let calls = calls_told c.args.calls.now in
    let old = c.args.self.now in
    let new : Place = record old { held = c.add.new.self } in
    on_ok_then c.add.result (c.add.new.self ≡ old.held ++ touch_of c.in-Touch.region c.in-Touch.since ∷ []) (IsPassed calls c.args.core c.args.event old new)
    (λ is.
    subst (λ (e : EventLine). IsPassed calls c.args.core e old new) (sym c.in-Touch.is)
    (λ before stands. stands_touched calls c.args.core before c.in-Touch.region c.in-Touch.since old new stands (ap (λ (h : List Touch). record old { held = h }) is)))
    c.add.ensures

pub returns-in-Stop : goal.returns-in-Stop
returns-in-Stop c =
    let calls = calls_told c.args.calls.now in
    subst (λ (e : EventLine). IsPassed calls c.args.core e c.args.self.now c.halt.new.self) (sym c.in-Stop.is)
    (λ before stands. stands_stopped calls c.args.core before c.in-Stop.line c.in-Stop.why c.args.self.now c.halt.new.self stands c.halt.ensures)
