-- What stands of some logs, or is noted of what some cores have under way, does so of the same ones.
use Rattle.std.proofs.Common.{◌≡◌, ℕ, ◌<◌, List, [], subst}
use Rattle.mon_types.specs.Shape.{Shape}
use Rattle.hist.specs.declared.event.Entry.{Entry}
use Rattle.hist.specs.declared.event.Event.{Event}
use Rattle.hist.specs.History.{entries_of}
use Rattle.hist.specs.Legal.{AreOwn}
use Rattle.hist.specs.Busy.{own, UnderWay}
use Rattle.hist_stands.specs.Stamp.{AreStamped}
use Rattle.hist_stands.specs.Stands.{Stands}
use Rattle.hist_stands.specs.Found.{Notes}

pub alike_stands : (shape : Shape) (h : List Entry) (log other : ℕ → List Event)
    → ((core : ℕ) → core < shape.cores → log core ≡ other core) → Stands shape h log → Stands shape h other
alike_stands shape h log other same stands = record {
  legal = stands.legal;
  cores = stands.cores;
  serials = λ core lt.
      subst (λ (es : List Event). AreOwn core 0 0 (entries_of es)) (same core lt) (stands.serials core lt);
  mine = λ core lt. subst (λ (es : List Event). entries_of es ≡ own core h) (same core lt) (stands.mine core lt);
  stamped = λ core lt. subst (AreStamped shape h core []) (same core lt) (stands.stamped core lt);
}

pub alike_noted : (shape : Shape) (h : List Entry) (now other : ℕ → UnderWay)
    → ((core : ℕ) → now core ≡ other core) → Notes shape h now → Notes shape h other
alike_noted shape h now other same notes = subst (Notes shape h) (λ i core. same core i) notes
