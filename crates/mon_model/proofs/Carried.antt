-- A call that answers Ok was not refused early, and is Ok once its objects are held.
use Rattle.std.proofs.Common.{◌≡◌, ℕ, Bool, true, false, cond, Some, None, refl}
use Rattle.mon_types.specs.declared.call.Call.{Call}
use Rattle.mon_types.specs.declared.reply.Reply.{Reply}
use Rattle.mon_types.specs.declared.reply.Reply.TheVariants as replies
use Rattle.mon_model.specs.State.{State, mode_of}
use Rattle.mon_types.specs.Replies.{is_done}
use Rattle.mon_model.specs.Early.{is_unsupported, is_wrong_mode, is_bad_value, early}
use Rattle.mon_model.specs.Step.{held_reply, or_else, reply_of}

pub record Carried (s : State) (core : ℕ) (call : Call) : Type 0 where
  pub none : early s.shape (mode_of s core) call ≡ None
  pub mode : is_wrong_mode (mode_of s core) call ≡ false
  pub value : is_bad_value s.shape call ≡ false
  pub held : is_done (held_reply s core call) ≡ true

passed : (u w b : Bool) (reply : Reply) → is_done (or_else (cond u (Some replies.Unsupported) (cond w (Some replies.AccessDenied) (cond b (Some replies.InvalidValue) None))) reply) ≡ true
    → (u ≡ false) × (w ≡ false) × (b ≡ false) × (is_done reply ≡ true)
passed true w b reply d = cc
passed false true b reply d = cc
passed false false true reply d = cc
passed false false false reply d = (refl, refl, refl, d)

pub carried : (s : State) (core : ℕ) (call : Call) → is_done (reply_of s core call) ≡ true → Carried s core call
carried s core call d =
    let p = passed (is_unsupported call) (is_wrong_mode (mode_of s core) call) (is_bad_value s.shape call) (held_reply s core call) d in
    record { none = rw (p.0, p.1, p.2) refl; mode = p.1; value = p.2; held = p.3 }
