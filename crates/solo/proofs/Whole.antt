-- What the finished run of one core owes, from the history of its core.
use Rattle.std.proofs.Common.{◌≡◌, List, [], ◌∷◌, sym, ap, subst, ◌∙◌}
use Rattle.mon_types.specs.Shape.{Shape}
use Rattle.mon_types.specs.declared.image.Image.{Image}
use Rattle.mon_types.specs.declared.script.Line.{Line}
use Rattle.mon_model.specs.State.{State, start}
use Rattle.mon_facts.specs.Tables.{AreTables}
use Rattle.hist.specs.declared.finished.Finished.{Finished}
use Rattle.hist.specs.Logged.{events_of}
use Rattle.hist.specs.History.{entries_of, history, after_entries, last_state}
use Rattle.hist.specs.Legal.{AreTickets, AreLegalEntries, Legal, HasLastTables}
use Rattle.hist.proofs.Growing.{history_of_one, own_of_one}
use Rattle.report.specs.Report.{HasAllCores}
use Rattle.solo.specs.Core.{Core, core_start}
use Rattle.solo.specs.Solo.{core_from, finished_run, solo_run}
use Rattle.solo.proofs.Runs.{HasHistory, has_history}

-- ---- the whole run

-- what the finished run of a script owes
pub record WholeRun (image : Image) (script : List Line) (f : Finished) : Type 0 where
  pub run : f ≡ solo_run image script
  pub legal : Legal f.config (events_of f.logs)
  pub tables : HasLastTables f
  pub cores : HasAllCores f

legal_log : (c : Core) → HasHistory c.state.shape c → c.state.shape.cores ≡ 1 → Legal c.state.shape (c.log ∷ [])
legal_log c h single =
    let one : history (c.log ∷ []) ≡ entries_of c.log = history_of_one c.log h.tickets in
    record {
      count = sym single;
      tickets = subst (AreTickets 1) (sym one) h.tickets;
      own = own_of_one c.log h.own;
      entries = subst (AreLegalEntries (start c.state.shape)) (sym one) h.legal;
    }

last_tables : (c : Core) → HasHistory c.state.shape c → HasLastTables (finished_run c)
last_tables c h =
    let last : c.state ≡ last_state c.state.shape (c.log ∷ []) = sym (ap (after_entries (start c.state.shape)) (history_of_one c.log h.tickets) ∙ h.state) in
    record {
      regions = ap (λ (s : State). s.regions) last;
      enclaves = ap (λ (s : State). s.enclaves) last;
      threads = ap (λ (s : State). s.threads) last;
      flushed = ap (λ (s : State). s.flushed) last;
      modes = ap (λ (s : State). s.modes) last;
    }

of_core : (image : Image) (script : List Line) (c : Core) → c ≡ core_from (core_start image) 1 script → HasHistory c.state.shape c → c.state.shape.cores ≡ 1 → AreTables c.state
    → WholeRun image script (finished_run c)
of_core image script c is h single sound = record {
  run = ap finished_run is;
  legal = legal_log c h single;
  tables = last_tables c h;
  cores = record { logs = sym single; flushed = sound.whole.flushed; modes = sound.whole.modes };
}

-- The run of a script, from what opening, running and finishing leave.
pub whole_run : (image : Image) (script lines : List Line) (opened ran : Core) (f : Finished) → image.config.cores ≡ 1 → lines ≡ script
    → opened ≡ core_start image → ran ≡ core_from opened 1 lines → f ≡ finished_run ran → AreTables ran.state → WholeRun image script f
whole_run image script lines opened ran f single lines_is begun ran_is left sound =
    let is : ran ≡ core_from (core_start image) 1 script =
    ran_is ∙ ap (λ (c : Core). core_from c 1 lines) begun ∙ ap (core_from (core_start image) 1) lines_is in
    let h : HasHistory image.config ran = subst (HasHistory image.config) (sym is) (has_history image script) in
    subst (WholeRun image script) (sym left)
    (of_core image script ran is (subst (λ (x : Shape). HasHistory x ran) (sym h.machine) h) (ap (λ (x : Shape). x.cores) h.machine ∙ single) sound)
