use Rattle.std.proofs.Common.{[], ◌∷◌, refl, inr, arith}
use Rattle.mon_types.specs.Shape.{plain}
use Rattle.hist.specs.History.{entries_of, log_of, history}
use Rattle.hist.specs.Legal.{AreOwn}
use Rattle.hist.specs.Busy.{as_entry, AreRightlyBusy}
use Rattle.mon_model.specs.Examples.{r3}
use Rattle.hist.specs.Rows.{met_under_way, holds_now, meets_now}
use Rattle.mon_types.proofs.Below.{by_two}
use Rattle.hist.proofs.ByHand.{not_held}
use Rattle.hist.proofs.rows.met_under_way.Goals as goal

pub returns-clause-legal : goal.returns-clause-legal
returns-clause-legal c = record { count = refl; tickets = (refl, tt); own = by_two (λ core. AreOwn core 0 0 (entries_of (log_of met_under_way core))) tt (record { core = refl; serial = refl; ascends = omega arith }, tt); entries = (record { reply = λ no. absurd (cc); tried = λ no. absurd (cc); page = refl }, tt) }

pub returns-clause-busy : goal.returns-clause-busy
returns-clause-busy c = record { entries = (record { core = omega arith; other = omega arith; tried = record { before = []; behind = []; planned_are = refl; tried_are = refl }; held = inr (refl, (0, omega arith, refl)); begun = tt; under_way = tt }, tt); refused = by_two (λ core. AreRightlyBusy (plain 2) (history met_under_way) holds_now (as_entry (history met_under_way) core (holds_now core))) tt tt }

pub returns-clause-not_idle : goal.returns-clause-not_idle
returns-clause-not_idle c = λ busy. not_held _ _ r3 (λ no. no) busy.entries.0.held

pub returns-clause-no_entry : goal.returns-clause-no_entry
returns-clause-no_entry c = record { entries = tt; refused = by_two (λ core. AreRightlyBusy (plain 2) (history ([] ∷ [] ∷ [])) meets_now (as_entry (history ([] ∷ [] ∷ [])) core (meets_now core))) tt (record { core = omega arith; other = omega arith; tried = record { before = []; behind = []; planned_are = refl; tried_are = refl }; held = inr (refl, (0, omega arith, refl)); begun = tt; under_way = tt }, tt) }
