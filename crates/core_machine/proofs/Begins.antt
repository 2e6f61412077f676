-- A call is begun, and one that is over is taken in.
use Rattle.std.proofs.Common.{◌≡◌, ◌⊎◌, inl, ◌∙◌, ◌+◌, ◌<◌, ◌≤◌, ℕ, Bool, true, false, cond, Option, Some, None, List, [], ◌∷◌, length, ap, sym, refl, subst, arith}
use Rattle.mon_types.specs.Shape.{Shape}
use Rattle.mon_types.specs.Replies.{is_done}
use Rattle.mon_types.specs.declared.thread.Mode.{Mode}
use Rattle.mon_types.specs.declared.call.Call.{Call}
use Rattle.mon_types.specs.declared.reply.Reply.{Reply}
use Rattle.hist.specs.declared.event.Event.{Event}
use Rattle.core_context.specs.declared.after.After.{After}
use Rattle.core_context.specs.declared.origin.Origin.{Origin}
use Rattle.mon_records.specs.Rebuilt.{state_of}
use Rattle.protocol.specs.declared.action.Action.{Action}
use Rattle.protocol.specs.declared.action.Outcome.{Outcome}
use Rattle.protocol.specs.CallTree.{Over, Issuer, call_tree}
use Rattle.core_behaviour.specs.Course.{Course}
use Rattle.core_behaviour.specs.Core.{Core, issuer_now}
use Rattle.core_behaviour.specs.Called.{in_call, reply_in, found_in, change_by, left_if, called, left_by as core_left}
use Rattle.call_machine.specs.declared.work.Work.{Work as CallWork}
use Rattle.call_machine.specs.Kept.{Called}
use Rattle.call_machine.specs.Meaning.{tree_of, so_far}
use Rattle.core_machine.specs.declared.own.Own.{Own}
use Rattle.core_machine.specs.declared.work.Purpose.{Purpose}
use Rattle.core_machine.specs.declared.work.Work.{Work}
use Rattle.core_machine.specs.declared.work.Work.TheVariants as works
use Rattle.core_machine.specs.declared.progress.Progress.{Progress}
use Rattle.core_machine.specs.Own.{core_of, IsCounted, left_by}
use Rattle.core_machine.specs.Remains.{IsOpen, most_loads}
use Rattle.core_machine.specs.Meaning.{after_call, call_course, IsTold, Stands}
use Rattle.core_machine.specs.Kept.{IsOwn, IsScript, IsBegun, IsOfCore, MayCall, CallStands, work_stands, IsSound}
use Rattle.core_machine.specs.Follows.{Leads}
use Rattle.core_machine.proofs.Opening.{calls_open}
use Rattle.core_machine.proofs.Calls.{begun_course}

-- the issuer, by what is kept
abbrev pub issuer_of : Own → Issuer
issuer_of own = record { core = own.number; serial = own.serial; mode = own.mode; answers = own.counts.answers }

issuer_is : (own : Own) (log : List Event) (answers : List ℕ) → IsCounted own log answers → issuer_of own ≡ issuer_now (core_of own log answers)
issuer_is own log answers h =
    ap (λ n. record { core = own.number; serial = n; mode = own.mode; answers = own.counts.answers }) (sym h.serial)
    ∙ ap (λ m. record { core = own.number; serial = (issuer_now (core_of own log answers)).serial; mode = m; answers = own.counts.answers }) (sym h.mode)
    ∙ ap (λ n. record { core = own.number; serial = (issuer_now (core_of own log answers)).serial; mode = (issuer_now (core_of own log answers)).mode; answers = n }) (sym h.answers)

-- ---- the begin

-- what `begin_again` leaves
pub record IsBegunCall (own : Own) (asked : Call) (w : CallWork) : Type 0 where
  pub tree : tree_of w ≡ call_tree own.config (issuer_of own) asked
  pub ends : w.ends ≡ None
  pub found : so_far w ≡ []
  pub config : w.config ≡ own.config
  pub call : w.call ≡ asked
  pub core : w.core ≡ own.number
  pub mode : w.mode ≡ own.mode

module _ (k : Progress) (origin : Origin) (purpose : Purpose) (call : Call) (v : Called) (b : IsBegunCall k.own call v.work) where
  abbrev calling : Progress
  calling = record k { call = v; work = works.Calls origin purpose k.own.serial }

  pub call_sound : IsOwn k.own → IsScript k → IsBegun k → MayCall k purpose call → IsSound calling
  unfolding work_stands CallStands
  call_sound own script begun may = record {
    own = record { valid = own.valid; core = own.core; slot = own.slot; thread = own.thread; calls = own.calls };
    script = record { scripted = script.scripted; few = script.few; at = script.at };
    stands = (
      record { there = begun.there; events = begun.events; answers = begun.answers },
      record { config = b.config; core = b.core },
      subst (CallStands calling purpose k.own.serial) (sym b.ends) (record {
        loads = most_loads call;
        opens = subst (λ q. IsOpen k.own.config k.own.mode q (most_loads call) (tree_of v.work)) (sym b.call)
            (subst (IsOpen k.own.config k.own.mode call (most_loads call)) (sym b.tree) (calls_open k.own.config (issuer_of k.own) call));
        mode = b.mode;
        serial = refl;
        events = may.events;
        answers = may.answers;
      }),
    );
  }

  pub call_leads : Leads k calling (λ c. called k.own.config origin call c (after_call k purpose))
  unfolding Stands IsTold reply_in found_in
  call_leads = record {
    number = refl;
    counts = refl;
    goes = λ log answers h. (
      record { events = h.events; answers = h.answers; serial = h.serial; mode = h.mode },
      (
        [],
        begun_course k origin purpose call v.work k.own.config (core_of k.own log answers)
            (b.tree ∙ ap (λ i. call_tree k.own.config i call) (issuer_is k.own log answers h)) b.call b.config (b.mode ∙ sym h.mode),
        subst (IsTold v.work []) (sym b.ends) (refl, inl b.found),
      ),
    );
  }

-- ---- the end

-- what the whole core is after it
left_is : (origin : Origin) (call : Call) (change : After) (reply : Reply) (own : Own) (log : List Event) (answers : List ℕ)
    → core_of (left_by origin call change reply own) log answers ≡ core_left origin call change reply (core_of own log answers)
left_is origin call change reply own log answers = refl

over_course : (k : Progress) (origin : Origin) (purpose : Purpose) (before : List (Action × Outcome)) (c : Core) (reply : Reply) (change : After)
    → tree_of k.call.work ≡ Over → IsTold k.call.work before (Some (reply, change)) → k.call.work.core ≡ c.number
    → call_course k origin purpose before c ≡ after_call k purpose (core_left origin k.call.work.call change reply c)
unfolding in_call IsTold
over_course k origin purpose before c reply change over told core =
    let w = k.call.work in
    let s = state_of w.config w.mode (found_in before) in
    ap (λ t. in_call t before c (λ d ms. after_call k purpose (left_if origin w.call (state_of w.config w.mode (found_in ms)) (reply_in ms) d))) over
    ∙ ap (λ r. after_call k purpose (left_if origin w.call s r c)) told.0
    ∙ ap (λ n. after_call k purpose (core_left origin w.call (change_by (is_done reply) s n w.call) reply c)) (sym core)
    ∙ ap (λ x. after_call k purpose (core_left origin w.call x reply c)) (sym told.1)

-- what is to be done behind a call that is over
pub over_leads : (k : Progress) (origin : Origin) (purpose : Purpose) (serial : ℕ) (reply : Reply) (change : After) → k.work ≡ works.Calls origin purpose serial → tree_of k.call.work ≡ Over
    → k.call.work.ends ≡ Some (reply, change) → k.call.work.core ≡ k.own.number
    → (log : List Event) (answers : List ℕ) (course : Course) → Stands k k.work (core_of k.own log answers) course
    → course ≡ after_call k purpose (core_of (left_by origin k.call.work.call change reply k.own) log answers)
unfolding Stands
over_leads k origin purpose serial reply change is over ends core log answers course st =
    let s : Stands k (works.Calls origin purpose serial) (core_of k.own log answers) course = subst (λ w. Stands k w (core_of k.own log answers) course) is st in
    s.1 ∙ over_course k origin purpose s.0 (core_of k.own log answers) reply change over (subst (IsTold k.call.work s.0) ends s.2) core

-- it leaves the counts
pub left_counts : (origin : Origin) (call : Call) (change : After) (reply : Reply) (own : Own) (log : List Event) (answers : List ℕ) → IsCounted own log answers → IsCounted (left_by origin call change reply own) log answers
left_counts origin call change reply own log answers h = record { events = h.events; answers = h.answers; serial = h.serial; mode = h.mode }

pub left_own : (origin : Origin) (call : Call) (change : After) (reply : Reply) (own : Own) → IsOwn own → IsOwn (left_by origin call change reply own)
left_own origin call change reply own h = record { valid = h.valid; core = h.core; slot = h.slot; thread = h.thread; calls = h.calls }
