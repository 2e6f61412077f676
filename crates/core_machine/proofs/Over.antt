-- A call that is over is taken in.
use Rattle.std.proofs.Common.{◌≡◌, ◌∙◌, ◌+◌, ◌-◌, ◌*◌, ◌<◌, ◌≤◌, ℕ, Option, Some, None, List, length, ap, sym, refl, subst, arith}
use Rattle.mon_types.specs.Budgets.{event_budget, answer_budget}
use Rattle.mon_types.specs.declared.reply.Reply.{Reply}
use Rattle.hist.specs.declared.event.Event.{Event}
use Rattle.core_context.specs.declared.after.After.{After}
use Rattle.core_context.specs.declared.origin.Origin.{Origin}
use Rattle.protocol.specs.CallTree.{Over}
use Rattle.core_behaviour.specs.Course.{Course}
use Rattle.call_machine.specs.Meaning.{tree_of}
use Rattle.core_machine.specs.declared.own.Own.{Own}
use Rattle.core_machine.specs.declared.work.Purpose.{Purpose}
use Rattle.core_machine.specs.declared.work.Purpose.TheVariants as purposes
use Rattle.core_machine.specs.declared.work.Work.TheVariants as works
use Rattle.core_machine.specs.declared.progress.Progress.{Progress}
use Rattle.core_machine.specs.Own.{core_of, IsCounted, left_by}
use Rattle.core_machine.specs.Meaning.{after_call, behind_line, Stands}
use Rattle.core_machine.specs.Kept.{IsOwn, IsScript, IsBegun, IsOfCore, IsDrawn, CallStands, work_stands, IsSound, weigh, weight}
use Rattle.core_machine.specs.Follows.{GoesOn, Leads}
use Rattle.core_machine.proofs.Begins.{over_leads, left_counts, left_own}

module _ (k : Progress) (origin : Origin) (purpose : Purpose) (serial : ℕ) (reply : Reply) (change : After) (is : k.work ≡ works.Calls origin purpose serial) (sound : IsSound k)
    (ends : k.call.work.ends ≡ Some (reply, change)) where
  abbrev own_left : Own
  own_left = left_by origin k.call.work.call change reply k.own

  here : IsBegun k × IsOfCore k × CallStands k purpose serial k.call.work.ends
  unfolding work_stands
  here = subst (work_stands k) is sound.stands

  drawn : IsDrawn k purpose serial
  unfolding CallStands
  drawn = subst (CallStands k purpose serial) ends here.2

  pub begun_there : IsBegun k
  begun_there = here.0

  pub own_new : IsOwn own_left
  own_new = left_own origin k.call.work.call change reply k.own sound.own

  pub behind_call : tree_of k.call.work ≡ Over → (log : List Event) (answers : List ℕ) (course : Course) → Stands k k.work (core_of k.own log answers) course → course ≡ after_call k purpose (core_of own_left log answers)
  behind_call over log answers course st = over_leads k origin purpose serial reply change is over ends here.1.core log answers course st

-- after a retry
module _ (k : Progress) (origin : Origin) (serial : ℕ) (reply : Reply) (change : After) (is : k.work ≡ works.Calls origin purposes.Retry serial) (sound : IsSound k)
    (ends : k.call.work.ends ≡ Some (reply, change)) where
  abbrev line_next : Progress
  line_next = record k { own = own_left k origin purposes.Retry serial reply change is sound ends; work = works.Line }

  pub retry_sound : IsSound line_next
  unfolding work_stands
  retry_sound =
      let d = drawn k origin purposes.Retry serial reply change is sound ends in
      let b = begun_there k origin purposes.Retry serial reply change is sound ends in
      record {
        own = own_new k origin purposes.Retry serial reply change is sound ends;
        script = record { scripted = sound.script.scripted; few = sound.script.few; at = sound.script.at };
        stands = (
          record { there = b.there; events = b.events; answers = b.answers },
          record { events = omega (arith, d.events); answers = omega (arith, d.answers) },
        );
      }

  pub retry_goes_on : tree_of k.call.work ≡ Over → GoesOn k line_next
  unfolding Stands
  retry_goes_on over = record {
    number = refl;
    counts = refl;
    goes = λ log answers course h st. (
      left_counts origin k.call.work.call change reply k.own log answers h,
      behind_call k origin purposes.Retry serial reply change is sound ends over log answers course st,
    );
  }

  pub retry_low : weight line_next < weight k
  retry_low =
      let b = begun_there k origin purposes.Retry serial reply change is sound ends in
      omega (arith, ap (weigh (length k.lines - k.at)) is, b.there)

-- after a line's own call
module _ (k : Progress) (origin : Origin) (serial : ℕ) (reply : Reply) (change : After) (is : k.work ≡ works.Calls origin purposes.Line serial) (sound : IsSound k)
    (ends : k.call.work.ends ≡ Some (reply, change)) where
  abbrev line_over : Progress
  line_over = record k { own = own_left k origin purposes.Line serial reply change is sound ends }

  pub few_events : k.own.counts.events < event_budget
  few_events =
      let d = drawn k origin purposes.Line serial reply change is sound ends in
      let b = begun_there k origin purposes.Line serial reply change is sound ends in
      omega (arith, d.events, b.events)

  pub few_answers : k.own.counts.answers ≤ answer_budget
  few_answers =
      let d = drawn k origin purposes.Line serial reply change is sound ends in
      let b = begun_there k origin purposes.Line serial reply change is sound ends in
      omega (arith, d.answers, b.answers)

  pub there : k.at < length k.lines
  there = (begun_there k origin purposes.Line serial reply change is sound ends).there

  pub line_goes_on : (new : Progress) → tree_of k.call.work ≡ Over → Leads line_over new (behind_line k) → GoesOn k new
  line_goes_on new over l = record {
    number = l.number;
    counts = l.counts;
    goes = λ log answers course h st.
        let led = l.goes log answers (left_counts origin k.call.work.call change reply k.own log answers h) in
        let e = behind_call k origin purposes.Line serial reply change is sound ends over log answers course st in
        (led.0, subst (Stands new new.work (core_of new.own log answers)) (sym e) led.1);
  }

  pub line_low : (new : Progress) → new.lines ≡ k.lines → new.at ≡ k.at + 1 → new.work ≡ works.Begins → weight new < weight k
  line_low new lines at work =
      omega (arith, ap (weigh (length k.lines - k.at)) is, ap (weigh (length new.lines - new.at)) work, ap (λ l. length l) lines, at, there)
