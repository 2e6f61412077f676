-- A line is begun, and carried out.
use Rattle.std.proofs.Common.{◌≡◌, ◌∙◌, ◌+◌, ◌<◌, ◌≤◌, ◌-◌, ℕ, suc, Bool, true, false, ◌||◌, nat_lt, Option, Some, None, List, [], ◌∷◌, ◌++◌, length, drop, drop-cons, drop_of_length-le, ap, sym, refl, subst, arith}
use Rattle.std.proofs.lemmas.Bool.Decides.{nat_tests}
use Rattle.mon_types.specs.Budgets.{event_budget, answer_budget, tick_cause}
use Rattle.mon_types.specs.declared.script.Line.{Line}
use Rattle.mon_types.specs.declared.script.Line.TheVariants as lines
use Rattle.mon_types.specs.declared.thread.Mode.{Mode}
use Rattle.mon_types.specs.declared.thread.Mode.TheVariants as modes
use Rattle.hist.specs.declared.event.Event.{Event}
use Rattle.hist.specs.declared.event.Why.{Why}
use Rattle.hist.specs.declared.event.Why.TheVariants as whys
use Rattle.core_context.specs.Budgets.{is_spent_by}
use Rattle.core_context.specs.Lines.{pc_by, reg_by}
use Rattle.core_context.specs.declared.context.Context.{Context}
use Rattle.protocol.specs.declared.action.Move.TheVariants as moves
use Rattle.protocol.specs.declared.action.Outcome.TheVariants as outcomes
use Rattle.core_behaviour.specs.declared.exit.Exit.{Exit}
use Rattle.core_behaviour.specs.Course.{Course, Ends, first_of, behind}
use Rattle.core_behaviour.specs.Core.{Core, mode_now, is_spent, with_current as core_set}
use Rattle.core_behaviour.specs.Exits.{tried, retried, exits, ticks}
use Rattle.core_behaviour.specs.Lines.{in_budget, lined, lines_from}
use Rattle.core_machine.specs.declared.own.Own.{Own}
use Rattle.core_machine.specs.declared.step.Step.{Step}
use Rattle.core_machine.specs.declared.step.Step.TheVariants as steps
use Rattle.core_machine.specs.declared.work.Work.TheVariants as works
use Rattle.core_machine.specs.declared.progress.Progress.{Progress}
use Rattle.core_machine.specs.Own.{core_of, IsCounted, limited, with_current}
use Rattle.core_machine.specs.Meaning.{line_now, from_line, behind_line, in_line, Stands}
use Rattle.core_machine.specs.Kept.{IsOwn, IsScript, work_stands, IsSound}
use Rattle.core_machine.specs.Follows.{GoesOn, Leads, Stops, GoesBy}
use Rattle.core_machine.proofs.Counts.{limit_counts}

-- ---- the present line

line_there : (k : Progress) → k.at < length k.lines → drop k.at k.lines ≡ line_now k ∷ drop (k.at + 1) k.lines
line_there k h = drop-cons k.lines k.at lines.Tick h ∙ ap (λ n. line_now k ∷ drop n k.lines) {x = suc k.at} {y = k.at + 1} (omega arith)

line_begins : (k : Progress) (c : Core) → k.at < length k.lines → from_line k c ≡ in_budget (is_spent c) (k.at + 1) (λ d. retried k.own.config d.pending d (in_line k)) c
unfolding lines_from
line_begins k c h = ap (λ l. lines_from k.own.config (k.at + 1) l c) (line_there k h)

no_line : (k : Progress) (c : Core) → length k.lines ≤ k.at → from_line k c ≡ Ends
unfolding lines_from
no_line k c h = ap (λ l. lines_from k.own.config (k.at + 1) l c) (drop_of_length-le k.lines h)

-- ---- what stands between two lines

pub begins_room : (k : Progress) → k.work ≡ works.Begins → IsSound k → (k.own.counts.events < event_budget) × (k.own.counts.answers ≤ answer_budget)
unfolding work_stands
begins_room k is s = subst (work_stands k) is s.stands

pub over_sound : (k : Progress) → k.work ≡ works.Begins → IsSound k → IsSound (record k { work = works.Over })
unfolding work_stands
over_sound k is s = record {
  own = s.own;
  script = record { scripted = s.script.scripted; few = s.script.few; at = s.script.at };
  stands = (omega (arith, (begins_room k is s).0), (begins_room k is s).1);
}

pub limit_sound : (k : Progress) → IsOwn k.own → IsScript k → k.own.counts.events < event_budget → k.own.counts.answers ≤ answer_budget → IsSound (record k { own = limited k.own; work = works.Over })
unfolding work_stands
limit_sound k own script events answers = record {
  own = record { valid = own.valid; core = own.core; slot = own.slot; thread = own.thread; calls = omega (arith, own.calls) };
  script = record { scripted = script.scripted; few = script.few; at = script.at };
  stands = (omega (arith, events), answers);
}

neither : (a b : Bool) → (a || b) ≡ false → (a ≡ false) × (b ≡ false)
neither true b h = absurd (cc)
neither false b h = (refl, h)

-- where a line is begun there is room for it
begun_room : (events answers : ℕ) → is_spent_by events answers ≡ false → (events + 80 ≤ 16384) × (answers + 600 ≤ 1048576)
begun_room events answers h =
    let both = neither (nat_lt (16384 - events) 80) (nat_lt (1048576 - answers) 600) h in
    let few : nat_lt (16384 - events) 80 ≡ false = both.0 in
    let given : nat_lt (1048576 - answers) 600 ≡ false = both.1 in
    (grind (arith, nat_tests), grind (arith, nat_tests))

pub line_sound : (k : Progress) → IsSound k → k.at < length k.lines → is_spent_by k.own.counts.events k.own.counts.answers ≡ false → IsSound (record k { begun = k.own.counts; work = works.Line })
unfolding work_stands
line_sound k s there fresh =
    let room = begun_room k.own.counts.events k.own.counts.answers fresh in
    record {
      own = s.own;
      script = record { scripted = s.script.scripted; few = s.script.few; at = s.script.at };
      stands = (
        record { there = there; events = room.0; answers = room.1 },
        record { events = omega arith; answers = omega arith },
      );
    }

-- ---- budgets

spent_is : (own : Own) (log : List Event) (answers : List ℕ) → IsCounted own log answers → is_spent (core_of own log answers) ≡ is_spent_by own.counts.events own.counts.answers
spent_is own log answers h = ap (λ n. is_spent_by n (length answers)) h.events ∙ ap (is_spent_by own.counts.events) h.answers

begun_is : (k : Progress) (b : Bool) → k.at < length k.lines → is_spent_by k.own.counts.events k.own.counts.answers ≡ b → (log : List Event) (answers : List ℕ) → IsCounted k.own log answers
    → from_line k (core_of k.own log answers) ≡ in_budget b (k.at + 1) (λ d. retried k.own.config d.pending d (in_line k)) (core_of k.own log answers)
begun_is k b h is log answers counts =
    line_begins k (core_of k.own log answers) h
    ∙ ap (λ x. in_budget x (k.at + 1) (λ d. retried k.own.config d.pending d (in_line k)) (core_of k.own log answers)) (spent_is k.own log answers counts ∙ is)

module _ (k : Progress) (is : k.work ≡ works.Begins) where
  from_now : (c : Core) (course : Course) → Stands k k.work c course → course ≡ from_line k c
  unfolding Stands
  from_now c course st = subst (λ w. Stands k w c course) is st

  pub end_goes : length k.lines ≤ k.at → GoesOn k (record k { work = works.Over })
  unfolding Stands
  end_goes h = record {
    number = refl;
    counts = refl;
    goes = λ log answers course counts st. (
      record { events = counts.events; answers = counts.answers; serial = counts.serial; mode = counts.mode },
      from_now (core_of k.own log answers) course st ∙ no_line k (core_of k.own log answers) h,
    );
  }

  pub limit_stops : k.at < length k.lines → is_spent_by k.own.counts.events k.own.counts.answers ≡ true → Stops k (record k { own = limited k.own; work = works.Over }) (k.at + 1) whys.Limit
  unfolding Stands first_of behind
  limit_stops h spent = record {
    number = refl;
    goes = λ log answers course counts st.
        let e = from_now (core_of k.own log answers) course st ∙ begun_is k true h spent log answers counts in (
          ap first_of e,
          limit_counts k.own log answers (k.at + 1) whys.Limit counts,
          ap (λ x. behind x outcomes.Done) e,
        );
  }

  pub line_goes : k.at < length k.lines → is_spent_by k.own.counts.events k.own.counts.answers ≡ false → k.own.pending ≡ None → GoesOn k (record k { begun = k.own.counts; work = works.Line })
  unfolding Stands
  line_goes h spent none = record {
    number = refl;
    counts = refl;
    goes = λ log answers course counts st. (
      record { events = counts.events; answers = counts.answers; serial = counts.serial; mode = counts.mode },
      from_now (core_of k.own log answers) course st ∙ begun_is k false h spent log answers counts
          ∙ ap (λ p. retried k.own.config p (core_of k.own log answers) (in_line k)) none,
    );
  }

  pub retry_goes : (new : Progress) (exit : Exit) → k.at < length k.lines → is_spent_by k.own.counts.events k.own.counts.answers ≡ false → k.own.pending ≡ Some exit
      → Leads (record k { begun = k.own.counts }) new (λ c. tried k.own.config exit c (in_line k)) → GoesOn k new
  retry_goes new exit h spent some l = record {
    number = l.number;
    counts = l.counts;
    goes = λ log answers course counts st.
        let led = l.goes log answers (record { events = counts.events; answers = counts.answers; serial = counts.serial; mode = counts.mode }) in
        let e = from_now (core_of k.own log answers) course st ∙ begun_is k false h spent log answers counts
        ∙ ap (λ p. retried k.own.config p (core_of k.own log answers) (in_line k)) some in
        (led.0, subst (Stands new new.work (core_of new.own log answers)) (sym e) led.1);
  }

-- a stop is what was given
pub stop_goes : (old new : Progress) (step : Step) (line : ℕ) (why : Why) → step ≡ steps.Stop line why → Stops old new line why → GoesBy old (Some step) new
stop_goes old new step line why is s = subst (λ x. GoesBy old (Some x) new) (sym is) s

-- ---- lines

-- a tick of the OS, or where an exit is pending, does nothing
pub tick_idle : (k new : Progress) (mode : Mode) → k.own.mode ≡ mode → ((c : Core) → c.pending ≡ k.own.pending → ticks k.own.config mode c (behind_line k) ≡ behind_line k c)
    → Leads k new (behind_line k) → Leads k new (λ c. ticks k.own.config (mode_now c) c (behind_line k))
tick_idle k new mode is idle l = record {
  number = l.number;
  counts = l.counts;
  goes = λ log answers counts.
      let led = l.goes log answers counts in
      let c = core_of k.own log answers in (
        led.0,
        subst (Stands new new.work (core_of new.own log answers)) (sym (ap (λ m. ticks k.own.config m c (behind_line k)) (counts.mode ∙ is) ∙ idle c refl)) led.1,
      );
}

-- a tick in an enclave, where no exit is pending, is tried
pub tick_pends : (k new : Progress) (e t : ℕ) → k.own.mode ≡ modes.Inside e t → k.own.pending ≡ None
    → Leads k new (λ c. tried k.own.config (record { cause = tick_cause; value = 0 }) (record c { pending = Some (record { cause = tick_cause; value = 0 }) }) (behind_line k))
    → Leads k new (λ c. ticks k.own.config (mode_now c) c (behind_line k))
tick_pends k new e t is none l = record {
  number = l.number;
  counts = l.counts;
  goes = λ log answers counts.
      let led = l.goes log answers counts in
      let c = core_of k.own log answers in (
        led.0,
        subst (Stands new new.work (core_of new.own log answers))
            (sym (ap (λ m. ticks k.own.config m c (behind_line k)) (counts.mode ∙ is) ∙ ap (λ p. exits k.own.config p (record { cause = tick_cause; value = 0 }) c (behind_line k)) none)) led.1,
      );
}

-- the pc or a register is set
pub set_leads : (k new : Progress) (context : Mode → Context) → Leads (record k { own = with_current k.own (context k.own.mode) }) new (behind_line k)
    → Leads k new (λ c. behind_line k (core_set c (context (mode_now c))))
set_leads k new context l = record {
  number = l.number;
  counts = l.counts;
  goes = λ log answers counts.
      let led = l.goes log answers (record { events = counts.events; answers = counts.answers; serial = counts.serial; mode = counts.mode }) in (
        led.0,
        subst (λ m. Stands new new.work (core_of new.own log answers) (behind_line k (core_set (core_of k.own log answers) (context m)))) (sym counts.mode) led.1,
      );
}

-- the present line is this one
pub line_leads : (k new : Progress) (line : Line) → line ≡ line_now k → Leads k new (lined k.own.config (k.at + 1) line (behind_line k)) → Leads k new (in_line k)
line_leads k new line e l = subst (λ x. Leads k new (lined k.own.config (k.at + 1) x (behind_line k))) e l

-- the line is carried out
pub line_is : (k new : Progress) → k.work ≡ works.Line → Leads k new (in_line k) → GoesOn k new
unfolding Stands
line_is k new is l = record {
  number = l.number;
  counts = l.counts;
  goes = λ log answers course counts st.
      let led = l.goes log answers counts in
      let e : course ≡ in_line k (core_of k.own log answers) = subst (λ w. Stands k w (core_of k.own log answers) course) is st in
      (led.0, subst (Stands new new.work (core_of new.own log answers)) (sym e) led.1);
}
