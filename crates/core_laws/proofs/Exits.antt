-- What a core does at stops, exits and ticks is permitted, and behind the budget that it looks at.
use Rattle.std.proofs.Common.{◌≡◌, ◌+◌, ◌-◌, ◌≤◌, ℕ, Bool, true, false, ◌||◌, nat_lt, Option, Some, None, List, [], ◌∷◌, length, refl, subst, arith}
use Rattle.std.proofs.lemmas.Bool.Decides.{nat_tests}
use Rattle.mon_types.specs.Shape.{Shape, is_shape}
use Rattle.mon_types.specs.Budgets.{tick_cause}
use Rattle.mon_types.specs.declared.thread.Mode.{Mode}
use Rattle.mon_types.specs.declared.thread.Mode.TheVariants as modes
use Rattle.mon_types.specs.declared.call.Call.TheVariants as asked
use Rattle.hist.specs.declared.event.Event.{Event}
use Rattle.hist.specs.declared.event.Event.TheVariants as events
use Rattle.hist.specs.declared.event.Why.{Why}
use Rattle.hist.specs.declared.event.Why.TheVariants as whys
use Rattle.hist.specs.History.{entries_of}
use Rattle.core_context.specs.declared.origin.Origin.TheVariants as origins
use Rattle.core_context.specs.Budgets.{is_spent_by}
use Rattle.core_context.specs.declared.context.Context.{Context}
use Rattle.core_context.specs.Registers.{saved_context}
use Rattle.protocol.specs.Views.{Moves}
use Rattle.core_behaviour.specs.Course.{Course, Ends}
use Rattle.core_behaviour.specs.declared.exit.Exit.{Exit}
use Rattle.core_behaviour.specs.Core.{Core, is_spent}
use Rattle.core_behaviour.specs.Exits.{tried, retried, exits, ticks}
use Rattle.core_behaviour.specs.Traps.{stops}
use Rattle.core_behaviour.specs.Lines.{Lined, in_budget, budgeted}
use Rattle.core_laws.proofs.Permits.{IsPermitted, IsContext, IsPending, Agrees, Follow, fewer}
use Rattle.core_laws.proofs.Contexts.{saved_fits}
use Rattle.core_laws.proofs.Moving.{outside, all_called}

-- ---- budgets

entries_few : (log : List Event) → length (entries_of log) ≤ length log
entries_few [] = omega arith
entries_few (events.Entry e ∷ log) = let few = entries_few log in omega arith
entries_few (events.Touch r a ∷ log) = let few = entries_few log in omega arith
entries_few (events.Stop line why ∷ log) = let few = entries_few log in omega arith

left : (a b : Bool) → (a || b) ≡ false → a ≡ false
left true b h = h
left false b h = refl

unspent : (events answers entries : ℕ) → entries ≤ events → is_spent_by events answers ≡ false → entries + 2 ≤ 16384
unspent events answers entries few h =
    let room : nat_lt (16384 - events) 80 ≡ false = left _ _ h in
    grind (arith, nat_tests)

module _ (shape : Shape) (is : is_shape shape ≡ true) (core : ℕ) where
  -- a stop, and what follows
  pub all_stops : (n : ℕ) (why : Why) (calls : ℕ) (ms : Moves) (c : Core) (next : Core → Course) → Agrees shape core calls ms c → Follow shape core calls next → IsPermitted shape core ms (stops n why c next)
  all_stops n why calls ms c next a follow = (tt, tt, λ out m. follow _ _ (outside shape core calls ms c _ out tt a))

  -- the budget, behind which there is room for two calls
  pub all_budgeted : (n : ℕ) (go : Lined) (ms : Moves) (c : Core) → Agrees shape core 0 ms c → Follow shape core 2 go → IsPermitted shape core ms (budgeted n go c)
  all_budgeted n go ms c a follow = by (is_spent c) refl
    where
      by : (b : Bool) → is_spent c ≡ b → IsPermitted shape core ms (in_budget b n go c)
      by true e = all_stops n whys.Limit 0 ms c (λ d. Ends) a (λ more d b. b.idle)
      by false e = follow ms c (record {
        number = a.number;
        log = a.log;
        answers = a.answers;
        idle = a.idle;
        room = subst (λ (l : List Event). length (entries_of l) + 2 ≤ 16384) a.log (unspent (length c.log) (length c.answers) (length (entries_of c.log)) (entries_few c.log) e);
        caller = a.caller;
        contexts = a.contexts;
        pending = a.pending;
        cached = a.cached;
      })

  -- ---- exits

  pub all_tried : (exit : Exit) (calls : ℕ) (ms : Moves) (c : Core) (next : Core → Course) → IsPending (Some exit) → Agrees shape core (calls + 1) ms c → Follow shape core calls next → IsPermitted shape core ms (tried shape exit c next)
  all_tried exit calls ms c next e a follow =
      all_called shape is core (origins.Machine exit.value) e.1 (asked.Aex (saved_context c.contexts.current exit.cause)) (saved_fits c.contexts.current exit.cause a.contexts.current e.0) calls ms c a next follow

  pub all_retried : (pending : Option Exit) (calls : ℕ) (ms : Moves) (c : Core) (next : Core → Course) → IsPending pending → Agrees shape core (calls + 1) ms c → Follow shape core calls next → IsPermitted shape core ms (retried shape pending c next)
  all_retried None calls ms c next e a follow = follow ms c (fewer shape core (calls + 1) calls ms c (omega arith) a)
  all_retried (Some exit) calls ms c next e a follow = all_tried exit calls ms c next e a follow

  pub all_exits : (pending : Option Exit) (exit : Exit) (calls : ℕ) (ms : Moves) (c : Core) (next : Core → Course) → IsPending (Some exit) → Agrees shape core (calls + 1) ms c → Follow shape core calls next → IsPermitted shape core ms (exits shape pending exit c next)
  all_exits None exit calls ms c next e a follow = all_tried exit calls ms (record c { pending = Some exit }) next e
      (record {
        number = a.number;
        log = a.log;
        answers = a.answers;
        idle = a.idle;
        room = a.room;
        caller = a.caller;
        contexts = a.contexts;
        pending = e;
        cached = a.cached;
      }) follow
  all_exits (Some earlier) exit calls ms c next e a follow = follow ms c (fewer shape core (calls + 1) calls ms c (omega arith) a)

  pub all_ticks : (mode : Mode) (calls : ℕ) (ms : Moves) (c : Core) (next : Core → Course) → Agrees shape core (calls + 1) ms c → Follow shape core calls next → IsPermitted shape core ms (ticks shape mode c next)
  all_ticks modes.Os calls ms c next a follow = follow ms c (fewer shape core (calls + 1) calls ms c (omega arith) a)
  all_ticks (modes.Inside e t) calls ms c next a follow = all_exits c.pending (record { cause = tick_cause; value = 0 }) calls ms c next (omega arith, omega arith) a follow

  -- ---- lines

  -- with another pc and other registers
  pub with_fits : (calls : ℕ) (ms : Moves) (c : Core) (x : Context) → IsContext x → Agrees shape core calls ms c → Agrees shape core calls ms (record c { contexts = record c.contexts { current = x } })
  with_fits calls ms c x h a = record {
    number = a.number;
    log = a.log;
    answers = a.answers;
    idle = a.idle;
    room = a.room;
    caller = a.caller;
    contexts = record { current = h; os = a.contexts.os };
    pending = a.pending;
    cached = a.cached;
  }
