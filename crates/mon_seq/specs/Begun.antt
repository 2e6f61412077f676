-- A call that was begun. This project's own.
use Rattle.std.specs.Prelude.{ℕ}
use Rattle.mon_types.specs.declared.call.Call.{Call}
use Rattle.mon_model.specs.State.{State}
use Rattle.mon_model.specs.Step.{reply_of}
use Rattle.mon_model.specs.Tries.{tries, tried_set}
use Rattle.mon_enclaves.specs.LoadReply.{reads_ptes}
use Rattle.lock_plan.specs.Records.{records_of}
use Rattle.mon_seq.specs.declared.begun.Begun.{Begun}

-- what is known of a call in a state: what it answers, whether it goes on to the ptes on its path, which objects it
-- tries, and their records
abbrev pub begun_in : State → ℕ → Call → Begun
begun_in s core call = record {
  reply = reply_of s core call;
  reads_ptes = reads_ptes s core call;
  tried = tried_set (tries s core call);
  held = records_of s (tries s core call);
}
