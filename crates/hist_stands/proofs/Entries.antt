-- What one entry of a legal history does to the state, whether its call was refused or not. From here on no proof
-- looks at a call, but to see that a flush ends no period and that what clears nothing changes no mode.
use Rattle.std.proofs.Common.{◌≡◌, ◌⊎◌, ℕ, ◌<◌, Bool, true, false, ◌==◌, ◌&&◌, if◌then◌else◌, List, length, get_or, Option, None, refl, sym, ap, subst, ◌∙◌, inl, inr}
use Rattle.std.proofs.Math.ListN.{set}
use Rattle.std.proofs.lemmas.List.{set-get_or}
use Rattle.mon_types.specs.declared.region.Owner.{Owner}
use Rattle.mon_types.specs.declared.thread.Mode.{Mode}
use Rattle.mon_types.specs.declared.thread.Mode.TheVariants as modes
use Rattle.mon_types.specs.declared.call.Call.{Call}
use Rattle.mon_types.specs.declared.call.Call.TheVariants as calls
use Rattle.mon_types.specs.declared.object.Tried.{Tried}
use Rattle.mon_types.specs.declared.reply.Reply.{Reply}
use Rattle.mon_types.specs.declared.reply.Reply.TheVariants as replies
use Rattle.mon_types.specs.Replies.{is_done, is_concurrent}
use Rattle.mon_model.specs.State.{State, IsWhole, region_at, enclave_at, mode_of, flushed_at}
use Rattle.mon_model.specs.Step.{effect, reply_of, after}
use Rattle.mon_model.specs.Tries.{tries, tried_set}
use Rattle.mon_model.specs.OnCore.{is_flush, mode_by, cell_by}
use Rattle.mon_model.specs.OnRegion.{withdraws, frees, owner_made, initialized_by}
use Rattle.mon_model.specs.RegionStep.{RegionStep, Stays, FlagsStage, FlagsStages, AreInsideSlots}
use Rattle.mon_model.specs.EveryStep.{after_shape}
use Rattle.mon_model.proofs.Writes.{at_one, at_any}
use Rattle.mon_model.proofs.Whole.{stays}
use Rattle.mon_model.proofs.RegionSteps.{region_step}
use Rattle.mon_model.proofs.CoreSteps.{modes_after, cells_after, inside_after}
use Rattle.mon_model.proofs.StageSteps.{slot_after}
use Rattle.hist.specs.declared.event.Entry.{Entry}
use Rattle.hist.specs.History.{digest_of, after_entry}
use Rattle.hist.specs.Legal.{IsLegalEntry}
use Rattle.hist.specs.Period.{initialized_after, owner_by, is_end, is_freeing}
use Rattle.hist.specs.SafeLog.{IsFlush}

-- the entry changes nothing, or does what its call does: then it answers Ok, as the monitor does, and has tried what
-- the monitor tries
pub data EntryStep (s : State) (e : Entry) (t : State) : Type 0 where
  Idle : is_done e.reply ≡ false → t ≡ s → EntryStep s e t
  Acts : is_done e.reply ≡ true → is_done (reply_of s e.core e.call) ≡ true
      → e.tried ≡ tried_set (tries s e.core e.call)
      → t ≡ effect s e.core e.call (digest_of e.page) e.ticket → EntryStep s e t

met_is_not_done : (reply : Reply) → is_concurrent reply ≡ true → is_done reply ≡ false
met_is_not_done (replies.Ok count words) met = cc
met_is_not_done _ met = refl

pub entry_step : (s : State) (e : Entry) → IsLegalEntry s e → EntryStep s e (after_entry s e)
entry_step s e legal = by (is_concurrent e.reply) (met_is_not_done e.reply) legal.reply legal.tried
  where
    done_or_not : (d : Bool) → is_done (reply_of s e.core e.call) ≡ d → e.reply ≡ reply_of s e.core e.call
        → e.tried ≡ tried_set (tries s e.core e.call)
        → EntryStep s e (if d then effect s e.core e.call (digest_of e.page) e.ticket else s)
    done_or_not true ok reply tried = Acts (ap is_done reply ∙ ok) ok tried refl
    done_or_not false refused reply tried = Idle (ap is_done reply ∙ refused) refl

    by : (b : Bool) → (b ≡ true → is_done e.reply ≡ false) → (b ≡ false → e.reply ≡ reply_of s e.core e.call)
        → (b ≡ false → e.tried ≡ tried_set (tries s e.core e.call))
        → EntryStep s e (if b then s else after s e.core e.call (digest_of e.page) e.ticket)
    by true met reply tried = Idle (met refl) refl
    by false met reply tried = done_or_not (is_done (reply_of s e.core e.call)) refl (reply refl) (tried refl)

-- ---- a region

-- what an entry tells of a region, by whether it answers Ok
abbrev Told : ℕ → List ℕ → Bool → Bool → Bool → Option Owner → State → State → ℕ → Type 0
Told k flushed ok ends freed made s t r =
    RegionStep k flushed (ok && ends) (ok && freed) (if ok then made else None) (region_at s r) (region_at t r)

pub region_after : (s : State) (e : Entry) (t : State) (r : ℕ) (flags : ℕ → Bool) → EntryStep s e t → IsWhole s
    → FlagsStages flags s → AreInsideSlots s → r < s.shape.regions
    → RegionStep e.ticket s.flushed (is_end r e) (is_freeing r e) (owner_by r flags e) (region_at s r) (region_at t r)
region_after s e t r flags (Idle idle same) whole right inside lt =
    subst (λ b. Told e.ticket s.flushed b (withdraws r e.call e.tried) (frees r e.call)
    (owner_made r flags e.call e.tried) s t r) (sym idle)
    (Stays (ap (λ (x : State). region_at x r) same) refl refl refl)
region_after s e t r flags (Acts does ok tried is) whole right inside lt =
    subst (λ b. Told e.ticket s.flushed b (withdraws r e.call e.tried) (frees r e.call)
    (owner_made r flags e.call e.tried) s t r) (sym does)
    (subst (λ (set : Tried). Told e.ticket s.flushed true (withdraws r e.call set) (frees r e.call)
    (owner_made r flags e.call set) s t r) (sym tried)
    (subst (λ (x : State). Told e.ticket s.flushed true (withdraws r e.call (tried_set (tries s e.core e.call)))
    (frees r e.call) (owner_made r flags e.call (tried_set (tries s e.core e.call))) s x r) (sym is)
    (region_step s e.core e.ticket r flags whole lt right inside e.call (digest_of e.page) ok)))

-- ---- stages and places

pub stages_after : (s : State) (e : Entry) (t : State) (flags : ℕ → Bool) → EntryStep s e t → FlagsStages flags s
    → FlagsStages (λ slot. initialized_after slot (flags slot) e) t
stages_after s e t flags (Idle idle same) right slot =
    subst (λ b. FlagsStage (if b then initialized_by slot e.call (flags slot) else flags slot)
    (enclave_at t slot).stage) (sym idle)
    (subst (λ (x : State). FlagsStage (flags slot) (enclave_at x slot).stage) (sym same) (right slot))
stages_after s e t flags (Acts does ok tried is) right slot =
    subst (λ b. FlagsStage (if b then initialized_by slot e.call (flags slot) else flags slot)
    (enclave_at t slot).stage) (sym does)
    (subst (λ (x : State). FlagsStage (initialized_by slot e.call (flags slot)) (enclave_at x slot).stage) (sym is)
    (slot_after s e.core e.call (digest_of e.page) e.ticket slot (flags slot) (right slot)))

pub inside_next : (s : State) (e : Entry) (t : State) → EntryStep s e t → AreInsideSlots s → AreInsideSlots t
inside_next s e t (Idle idle same) inside = subst AreInsideSlots (sym same) inside
inside_next s e t (Acts does ok tried is) inside = subst AreInsideSlots (sym is)
    (inside_after s e.core e.call (digest_of e.page) e.ticket inside ok)

-- ---- a core's mode

-- the mode of the core that makes it
abbrev pub mode_next : Mode → Entry → Mode
mode_next before e = if is_done e.reply then mode_by e.call before else before

modes_next : (s : State) (e : Entry) (t : State) → EntryStep s e t
    → t.modes ≡ set s.modes e.core (mode_next (mode_of s e.core) e)
modes_next s e t (Idle idle same) =
    ap (λ (x : State). x.modes) same ∙ sym (set-get_or s.modes e.core modes.Os)
    ∙ ap (λ b. set s.modes e.core (if b then mode_by e.call (mode_of s e.core) else mode_of s e.core)) (sym idle)
modes_next s e t (Acts does ok tried is) =
    ap (λ (x : State). x.modes) is ∙ modes_after s e.core e.call (digest_of e.page) e.ticket
    ∙ ap (λ b. set s.modes e.core (if b then mode_by e.call (mode_of s e.core) else mode_of s e.core)) (sym does)

-- of each core, by whether it makes the entry
pub mode_at : (s : State) (e : Entry) (t : State) → EntryStep s e t → (core : ℕ) → core < length s.modes
    → mode_of t core ≡ (if e.core == core then mode_next (mode_of s core) e else mode_of s core)
mode_at s e t step core lt =
    ap (λ (ms : List Mode). get_or ms core modes.Os) (modes_next s e t step)
    ∙ at_one (λ b m. m ≡ (if b then mode_next (mode_of s core) e else mode_of s core)) s.modes e.core core
    (mode_next (mode_of s e.core) e) modes.Os lt
    (λ is. ap (λ (c : ℕ). mode_next (mode_of s c) e) is) (λ ne. refl)

-- ---- a core's flush ticket

-- the flush ticket of the core that makes it
abbrev cell_next : ℕ → Entry → ℕ
cell_next before e = if is_done e.reply then cell_by e.call before e.ticket else before

cells_next : (s : State) (e : Entry) (t : State) → EntryStep s e t
    → t.flushed ≡ set s.flushed e.core (cell_next (flushed_at s e.core) e)
cells_next s e t (Idle idle same) =
    ap (λ (x : State). x.flushed) same ∙ sym (set-get_or s.flushed e.core 0)
    ∙ ap (λ b. set s.flushed e.core (if b then cell_by e.call (flushed_at s e.core) e.ticket else flushed_at s e.core))
    (sym idle)
cells_next s e t (Acts does ok tried is) =
    ap (λ (x : State). x.flushed) is ∙ cells_after s e.core e.call (digest_of e.page) e.ticket
    ∙ ap (λ b. set s.flushed e.core (if b then cell_by e.call (flushed_at s e.core) e.ticket else flushed_at s e.core))
    (sym does)

-- it stays, or the entry is an Ok flush
kept_or_flushed : (ok : Bool) (call : Call) (before k : ℕ) → ((if ok then cell_by call before k else before) ≡ before)
    ⊎ (((ok && is_flush call) ≡ true) × ((if ok then cell_by call before k else before) ≡ k))
kept_or_flushed false call before k = inl refl
kept_or_flushed true calls.Flush before k = inr (refl, refl)
kept_or_flushed true _ before k = inl refl

-- the entry is an Ok flush of this core
pub record FlushesNow (core : ℕ) (e : Entry) : Type 0 where
  pub of_core : e.core ≡ core
  pub flush : IsFlush e

-- of each core: its cell stays, or the entry is its Ok flush
pub cell_at : (s : State) (e : Entry) (t : State) → EntryStep s e t → (core : ℕ)
    → (flushed_at t core ≡ flushed_at s core) ⊎ (FlushesNow core e × (flushed_at t core ≡ e.ticket))
cell_at s e t step core =
    subst (λ (cells : List ℕ). Kept (get_or cells core 0)) (sym (cells_next s e t step))
    (at_any Kept s.flushed e.core core (cell_next (flushed_at s e.core) e) 0
    (λ is. by is (kept_or_flushed (is_done e.reply) e.call (flushed_at s e.core) e.ticket)) (inl refl))
  where
    Kept : ℕ → Type 0
    Kept cell = (cell ≡ flushed_at s core) ⊎ (FlushesNow core e × (cell ≡ e.ticket))

    by : e.core ≡ core → (cell_next (flushed_at s e.core) e ≡ flushed_at s e.core)
        ⊎ (IsFlush e × (cell_next (flushed_at s e.core) e ≡ e.ticket)) → Kept (cell_next (flushed_at s e.core) e)
    by is (inl same) = inl (same ∙ ap (flushed_at s) is)
    by is (inr flush) = inr (record { of_core = is; flush = flush.0 }, flush.1)

-- it is the ticket of an Ok flush, or stays
told_by_flush : (ok : Bool) (call : Call) (before k : ℕ)
    → (if ok then cell_by call before k else before) ≡ (if ok && is_flush call then k else before)
told_by_flush false call before k = refl
told_by_flush true calls.Flush before k = refl
told_by_flush true _ before k = refl

-- the ticket of the last Ok flush, with one more entry
abbrev pub flush_next : ℕ → Entry → ℕ
flush_next before e = if is_done e.reply && is_flush e.call then e.ticket else before

-- of each core of the machine, by whether it makes the entry
pub cell_told : (s : State) (e : Entry) (t : State) → EntryStep s e t → (core : ℕ) → core < length s.flushed
    → flushed_at t core ≡ (if e.core == core then flush_next (flushed_at s core) e else flushed_at s core)
cell_told s e t step core lt =
    ap (λ (cells : List ℕ). get_or cells core 0) (cells_next s e t step)
    ∙ at_one (λ b x. x ≡ (if b then flush_next (flushed_at s core) e else flushed_at s core)) s.flushed e.core core
    (cell_next (flushed_at s e.core) e) 0 lt
    (λ is. told_by_flush (is_done e.reply) e.call (flushed_at s e.core) e.ticket
    ∙ ap (λ (c : ℕ). flush_next (flushed_at s c) e) is)
    (λ ne. refl)

-- what ends a period is no flush
flush_ends_nothing : (r : ℕ) (call : Call) (tried : Tried) → is_flush call ≡ true → withdraws r call tried ≡ false
flush_ends_nothing r calls.Flush tried flush = refl
flush_ends_nothing r _ tried flush = cc

pub end_is_no_flush : (r : ℕ) (e : Entry) → is_end r e ≡ true → IsFlush e → ⊥
end_is_no_flush r e ends flush = by (is_done e.reply) ends flush
  where
    by : (ok : Bool) → (ok && withdraws r e.call e.tried) ≡ true → (ok && is_flush e.call) ≡ true → ⊥
    by true ends flush = let none = flush_ends_nothing r e.call e.tried flush in cc
    by false ends flush = cc

-- ---- the tables' lengths and the machine

pub whole_after : (s : State) (e : Entry) → IsWhole s → IsWhole (after_entry s e)
whole_after s e whole = elim (is_concurrent e.reply) as
    (λ b. IsWhole (if b then s else after s e.core e.call (digest_of e.page) e.ticket)) [
      | true ↦ whole
      | false ↦ stays s e.core e.call (digest_of e.page) e.ticket whole
    ]

pub machine_after : (s : State) (e : Entry) → (after_entry s e).shape ≡ s.shape
machine_after s e = elim (is_concurrent e.reply) as
    (λ b. (if b then s else after s e.core e.call (digest_of e.page) e.ticket).shape ≡ s.shape) [
      | true ↦ refl
      | false ↦ after_shape s e.core e.call (digest_of e.page) e.ticket
    ]
