-- The arguments of calls that answer Ok name what is there, where the calls' lines are right.
use Rattle.std.proofs.Common.{◌≡◌, ℕ, suc, ◌+◌, Bool, true, false, cond, if◌then◌else◌, List, [], ◌∷◌, ◌++◌, length, Option, Some, None, refl, sym, ap, subst, ◌∙◌}
use Rattle.std.specs.List.{AllByRecursion}
use Rattle.std.proofs.lemmas.Bool.{true≢false}
use Rattle.mon_types.specs.Shape.{Shape}
use Rattle.mon_types.specs.Replies.{is_done, is_concurrent}
use Rattle.mon_types.specs.declared.thread.Mode.{Mode}
use Rattle.mon_types.specs.declared.call.Call.{Call}
use Rattle.mon_types.specs.declared.call.Call.TheVariants as calls
use Rattle.mon_types.specs.declared.reply.Reply.{Reply}
use Rattle.mon_types.specs.declared.reply.Reply.TheVariants as replies
use Rattle.mon_model.specs.State.{State, start, mode_of}
use Rattle.mon_model.specs.Early.{early, is_unsupported, is_wrong_mode, is_bad_value}
use Rattle.mon_model.specs.InRange.{IsInRange}
use Rattle.mon_model.specs.Step.{or_else, reply_of, held_reply, after}
use Rattle.mon_model.specs.EveryStep.{after_shape}
use Rattle.mon_model.proofs.InRange.{in_range}
use Rattle.hist.specs.declared.event.Entry.{Entry}
use Rattle.hist.specs.History.{digest_of, after_entry, after_entries}
use Rattle.hist.specs.Legal.{IsLegalEntry}
use Rattle.hist.specs.Period.{NamesOwner, NameOwners}
use Rattle.legal_report.specs.Form.{Parsed}
use Rattle.legal_report.specs.Checks.{Passes, IsRightCall, call_checks}
use Rattle.legal_report.specs.Counted.{counted, counted_behind, state_behind}
use Rattle.legal_report.specs.FirstFailing.{FirstWrongCall}

refused : {B : Type 0} → false ≡ true → B
refused e = absurd (true≢false (sym e))

-- no refusal: not of the values
good_values : (shape : Shape) (mode : Mode) (call : Call) (reply : Reply) → is_done (or_else (early shape mode call) reply) ≡ true → is_bad_value shape call ≡ false
good_values shape mode call reply ok = passed (is_unsupported call) (is_wrong_mode mode call) (is_bad_value shape call) ok
  where
    passed : (u w b : Bool) → is_done (or_else (if u then Some replies.Unsupported else if w then Some replies.AccessDenied else if b then Some replies.InvalidValue else None) reply) ≡ true → b ≡ false
    passed true w b ok = refused ok
    passed false true b ok = refused ok
    passed false false true ok = refused ok
    passed false false false ok = refl

met_none : (reply : Reply) → is_done reply ≡ true → is_concurrent reply ≡ false
met_none (replies.Ok count words) done = refl
met_none (replies.ConcurrentCall lock holder serial) done = refused done
met_none _ done = refl

-- the state is one of the machine
one_shape : (s : State) (e : Entry) → (after_entry s e).shape ≡ s.shape
one_shape s e = elim (is_concurrent e.reply) as (λ b. (if b then s else after s e.core e.call (digest_of e.page) e.ticket).shape ≡ s.shape) [
  | true ↦ refl
  | false ↦ after_shape s e.core e.call (digest_of e.page) e.ticket
]

all_shape : (s : State) (es : List Entry) → (after_entries s es).shape ≡ s.shape
all_shape s [] = refl
all_shape s (e ∷ es) = all_shape (after_entry s e) es ∙ one_shape s e

pub of_shape : (shape : Shape) (calls : List Entry) → (state_behind shape calls).shape ≡ shape
of_shape shape calls = all_shape (start shape) (counted calls)

-- arguments that name what is there name an owner
names_owner : (shape : Shape) (call : Call) → IsInRange shape call → NamesOwner call
names_owner shape (calls.Assign r to) names = names.1
names_owner shape _ names = tt

names_there : (shape : Shape) (calls before : List Entry) (e : Entry) → IsRightCall shape calls before e → is_done e.reply ≡ true → NamesOwner e.call
names_there shape calls before e right done =
    let s : State = state_behind shape before in
    let so : e.reply ≡ reply_of s e.core e.call = right.legal.reply (met_none e.reply done) in
    let good : is_bad_value s.shape e.call ≡ false = good_values s.shape (mode_of s e.core) e.call (held_reply s e.core e.call) (ap is_done (sym so) ∙ done) in
    names_owner shape e.call (subst (λ (x : Shape). IsInRange x e.call) (of_shape shape before) (in_range s.shape e.call good))

names_from : (p : Parsed) (before es : List Entry) → AllByRecursion (Passes p) (call_checks before es) → NameOwners es
names_from p before [] all = tt
names_from p before (e ∷ es) all = (names_there p.shape p.calls before e all.0, names_from p (before ++ e ∷ []) es all.1)

pub names_all : (shape : Shape) (calls : List Entry) → FirstWrongCall shape calls None → NameOwners calls
names_all shape calls right =
    let p : Parsed = record { shape = shape; calls = calls; logs = []; rest = [] } in
    names_from p [] calls (right p refl refl)
