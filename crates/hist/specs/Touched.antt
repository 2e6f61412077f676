-- Which periods a core has touched since its last clearing entry, as a walk over its log tells. This project's own.
use Rattle.std.specs.Prelude.{ℕ, Bool, false, ◌==◌, ◌&&◌, ◌||◌, if◌then◌else◌, List, fold}
use Rattle.mon_types.specs.Replies.{is_done}
use Rattle.mon_model.specs.OnCore.{clears}
use Rattle.hist.specs.declared.event.Event.{Event}
use Rattle.hist.specs.declared.event.Event.TheVariants as events

-- whether the period (r, a) is touched after one more event: a clearing entry ends all touches
abbrev pub touched_by : ℕ → ℕ → Bool → Event → Bool
touched_by r a before (events.Entry e) = if is_done e.reply && clears e.call then false else before
touched_by r a before (events.Touch q b) = (q == r && b == a) || before
touched_by r a before (events.Stop line why) = before

-- whether it is touched after the events of a log
abbrev pub is_touched : ℕ → ℕ → List Event → Bool
is_touched r a log = fold (touched_by r a) false log
