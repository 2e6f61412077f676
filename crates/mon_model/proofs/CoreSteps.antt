-- What a call that answers Ok does to modes and flush tickets, once over all calls.
use Rattle.std.proofs.Common.{◌≡◌, ℕ, ◌<◌, Bool, true, false, ◌==◌, if◌then◌else◌, List, get_or, Some, None, refl, sym, ap, ◌∙◌, arith}
use Rattle.std.proofs.Math.ListN.{set}
use Rattle.std.proofs.lemmas.List.{set-get_or}
use Rattle.mon_types.specs.Shape.{Shape}
use Rattle.mon_types.specs.declared.thread.Mode.{Mode}
use Rattle.mon_types.specs.declared.thread.Mode.TheVariants as modes
use Rattle.mon_types.specs.declared.call.Call.{Call}
use Rattle.mon_types.specs.declared.call.Call.TheVariants as calls
use Rattle.mon_types.specs.declared.reply.Reply.{Reply}
use Rattle.mon_types.specs.declared.reply.Reply.TheVariants as replies
use Rattle.mon_model.specs.State.{State, flushed_at, mode_of}
use Rattle.mon_types.specs.Replies.{is_done}
use Rattle.mon_types.specs.Owns.{os_word}
use Rattle.mon_model.specs.Early.{is_unsupported, is_wrong_mode, is_bad_value, early}
use Rattle.mon_model.proofs.InRange.{in_range}
use Rattle.mon_model.specs.EveryStep.{chosen_field, own_field, deleted_field}
use Rattle.mon_model.specs.Step.{regions_of, held_reply, effect, or_else, reply_of}
use Rattle.mon_model.specs.OnCore.{mode_by, cell_by}
use Rattle.mon_model.specs.RegionStep.{AreInsideSlots}
use Rattle.mon_model.proofs.Writes.{at_any}
use Rattle.mon_model.proofs.RegionSteps.{refused}

-- ---- the tables that a call on regions leaves

-- ---- modes and cells

same_modes : (s : State) (ms : List Mode) (core : ℕ) → ms ≡ s.modes → ms ≡ set s.modes core (mode_of s core)
same_modes s ms core is = is ∙ sym (set-get_or s.modes core modes.Os)

pub modes_after : (s : State) (core : ℕ) (call : Call) (digest : List ℕ) (k : ℕ) → (effect s core call digest k).modes ≡ set s.modes core (mode_by call (mode_of s core))
modes_after s core (calls.Block r) digest k = same_modes s _ core (own_field (λ x. x.modes) (λ t e x. refl) s (mode_of s core) r)
modes_after s core (calls.Assign r to) digest k = same_modes s _ core (chosen_field (λ x. x.modes) (to == os_word) s _ _ refl refl)
modes_after s core (calls.Delete e) digest k = same_modes s _ core (deleted_field (λ x. x.modes) (λ t r x. refl) s (regions_of s e) k)
modes_after s core (calls.Enter e t) digest k = refl
modes_after s core calls.Exit digest k = refl
modes_after s core (calls.Aex saved) digest k = refl
modes_after s core _ digest k = sym (set-get_or s.modes core modes.Os)

same_cells : (s : State) (cells : List ℕ) (core : ℕ) → cells ≡ s.flushed → cells ≡ set s.flushed core (flushed_at s core)
same_cells s cells core is = is ∙ sym (set-get_or s.flushed core 0)

pub cells_after : (s : State) (core : ℕ) (call : Call) (digest : List ℕ) (k : ℕ) → (effect s core call digest k).flushed ≡ set s.flushed core (cell_by call (flushed_at s core) k)
cells_after s core (calls.Block r) digest k = same_cells s _ core (own_field (λ x. x.flushed) (λ t e x. refl) s (mode_of s core) r)
cells_after s core (calls.Assign r to) digest k = same_cells s _ core (chosen_field (λ x. x.flushed) (to == os_word) s _ _ refl refl)
cells_after s core (calls.Delete e) digest k = same_cells s _ core (deleted_field (λ x. x.flushed) (λ t r x. refl) s (regions_of s e) k)
cells_after s core calls.Flush digest k = refl
cells_after s core _ digest k = sym (set-get_or s.flushed core 0)

-- a core that was inside no slot past the last is so after a call with good values
pub named_by : (shape : Shape) (call : Call) (m : Mode) → is_bad_value shape call ≡ false → ((e t : ℕ) → m ≡ modes.Inside e t → e < 8) → (e t : ℕ) → mode_by call m ≡ modes.Inside e t → e < 8
named_by shape (calls.Enter f h) m good before e t is =
    let same : f ≡ e = cc in
    let small = in_range shape (calls.Enter f h) good in
    omega (arith, small.0)
named_by shape calls.Exit m good before e t is = cc
named_by shape (calls.Aex saved) m good before e t is = cc
named_by shape _ m good before e t is = before e t is

-- no refusal: not of the values
good_values : (shape : Shape) (mode : Mode) (call : Call) (reply : Reply) → is_done (or_else (early shape mode call) reply) ≡ true → is_bad_value shape call ≡ false
good_values shape mode call reply ok = passed (is_unsupported call) (is_wrong_mode mode call) (is_bad_value shape call) ok
  where
    passed : (u w b : Bool) → is_done (or_else (if u then Some replies.Unsupported else if w then Some replies.AccessDenied else if b then Some replies.InvalidValue else None) reply) ≡ true → b ≡ false
    passed true w b ok = refused ok
    passed false true b ok = refused ok
    passed false false true ok = refused ok
    passed false false false ok = refl

pub inside_after : (s : State) (core : ℕ) (call : Call) (digest : List ℕ) (k : ℕ) → AreInsideSlots s → is_done (reply_of s core call) ≡ true → AreInsideSlots (effect s core call digest k)
inside_after s core call digest k inside ok c e t is =
    at_any (λ (m : Mode). m ≡ modes.Inside e t → e < 8) s.modes core c (mode_by call (mode_of s core)) modes.Os
    (λ same. named_by s.shape call (mode_of s core) (good_values s.shape (mode_of s core) call (held_reply s core call) ok) (inside core) e t)
    (inside c e t)
    (ap (λ (ms : List Mode). get_or ms c modes.Os) (sym (modes_after s core call digest k)) ∙ is)
