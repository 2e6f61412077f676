-- Every call is safe.
use Rattle.std.proofs.Common.{◌≡◌, ◌∙◌, ℕ, Bool, true, false, Option, Some, None, List, [], length, sym, refl}
use Rattle.mon_types.specs.Shape.{Shape}
use Rattle.mon_types.specs.declared.call.Call.{Call}
use Rattle.mon_types.specs.declared.reply.Reply.{Reply}
use Rattle.mon_model.specs.State.{State, mode_of}
use Rattle.mon_model.specs.Early.{early}
use Rattle.mon_enclaves.specs.LoadReply.{is_load}
use Rattle.mon_records.specs.Rows.{Found, objects_of}
use Rattle.mon_records.specs.Rebuilt.{state_of}
use Rattle.loaded_pages.specs.Content.{Content}
use Rattle.protocol.specs.Places.{Memory}
use Rattle.protocol.specs.CallTree.{Issuer, decided_by, decided, lock_plan, plan_of, unless_refused, call_tree}
use Rattle.protocol_laws.specs.Known.{IsSound}
use Rattle.protocol_laws.specs.Safe.{Safe, Issues, CallsAreSafe}
use Rattle.protocol_laws.proofs.Locking.{AllHeld, safe_plan, safe_refused}
use Rattle.protocol_laws.proofs.Deciding.{safe_plain}
use Rattle.protocol_laws.proofs.LoadSafe.{safe_load}

module _ (by : Issuer) (call : Call) where
  safe_decided_by : (b : Bool) (found : Found) (shape : Shape) (s : State) (content : Content) (answers : List ℕ) (memory : Memory) → is_load call ≡ b → early shape by.mode call ≡ None → s.shape ≡ shape → by.mode ≡ mode_of s by.core → by.answers ≡ length answers → AllHeld by call found s content memory →
      Safe by call s content answers (objects_of found) memory (decided_by b by call (state_of shape by.mode found) found)
  safe_decided_by true found shape s content answers memory loads none of_shape of_mode heard all = safe_load by call found shape s content memory loads none of_shape of_mode all answers heard
  safe_decided_by false found shape s content answers memory loads none of_shape of_mode heard all = safe_plain by call found shape s content answers memory of_shape of_mode loads all

  safe_decided : (found : Found) (shape : Shape) (s : State) (content : Content) (answers : List ℕ) (memory : Memory) → early shape by.mode call ≡ None → s.shape ≡ shape → by.mode ≡ mode_of s by.core → by.answers ≡ length answers → AllHeld by call found s content memory →
      Safe by call s content answers (objects_of found) memory (decided shape by call found)
  unfolding decided
  safe_decided found shape s content answers memory none of_shape of_mode heard all = safe_decided_by (is_load call) found shape s content answers memory refl none of_shape of_mode heard all

  safe_unless : (s : State) (content : Content) (answers : List ℕ) (memory : Memory) (o : Option Reply) → IsSound by.core s content → Issues by s answers → early s.shape by.mode call ≡ o →
      Safe by call s content answers [] memory (unless_refused o by call (lock_plan s.shape by call (plan_of s.shape by call []) (decided s.shape by call)))
  unfolding unless_refused
  safe_unless s content answers memory (Some refusal) sound issues e = safe_refused by call refusal s content answers memory issues e
  safe_unless s content answers memory None sound issues e = safe_plan by call s content answers memory (decided s.shape by call) sound issues
      (λ found t now m agree all. safe_decided found s.shape t now answers m e agree.shape (issues.mode ∙ sym agree.mode) issues.heard all)

  pub safe_call : (s : State) (content : Content) (answers : List ℕ) (memory : Memory) → IsSound by.core s content → Issues by s answers → Safe by call s content answers [] memory (call_tree s.shape by call)
  unfolding call_tree
  safe_call s content answers memory sound issues = safe_unless s content answers memory (early s.shape by.mode call) sound issues refl

pub calls_safe : CallsAreSafe
calls_safe by call s content answers memory sound issues = safe_call by call s content answers memory sound issues
