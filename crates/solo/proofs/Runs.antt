-- What the machine of one core logs is a legal history that leads to its state.
use Rattle.std.proofs.Common.{◌≡◌, ℕ, zero, suc, ◌+◌, ◌==◌, Bool, true, false, cond, List, [], ◌∷◌, ◌++◌, length, Option, Some, None, Result, Ok, Err, is_some, refl, sym, ap, subst, ◌∙◌, arith}
use Rattle.std.specs.Prelude.{⊤}
use Rattle.std.proofs.lemmas.List.{append-nil, length-append}
use Rattle.mon_types.specs.Shape.{Shape}
use Rattle.mon_types.specs.declared.image.Image.{Image}
use Rattle.mon_types.specs.declared.thread.Mode.{Mode}
use Rattle.mon_types.specs.declared.thread.Mode.TheVariants as modes
use Rattle.mon_types.specs.declared.call.Call.{Call}
use Rattle.mon_types.specs.declared.call.Call.TheVariants as calls
use Rattle.mon_types.specs.declared.script.Line.{Line}
use Rattle.mon_types.specs.declared.script.Line.TheVariants as lines
use Rattle.mon_model.specs.State.{State, start}
use Rattle.mon_types.specs.Replies.{is_done}
use Rattle.mon_model.specs.EveryReply.{never_met}
use Rattle.mon_model.specs.EveryStep.{after_shape}
use Rattle.mon_model.specs.Step.{reply_of, effect, after}
use Rattle.hist.specs.declared.event.Entry.{Entry}
use Rattle.hist.specs.declared.event.Event.{Event}
use Rattle.hist.specs.declared.event.Event.TheVariants as events
use Rattle.hist.specs.declared.event.Why.TheVariants as whys
use Rattle.hist.specs.History.{entry_in, entries_of, digest_of, after_entry, after_entries}
use Rattle.mon_model.specs.OnCore.{is_load_page}
use Rattle.hist.specs.Legal.{AreTickets, AreOwn, AreLegalEntries, IsLegalEntry}
use Rattle.hist.proofs.Growing.{tickets_more, own_more, legal_more, after_more}
use Rattle.mon_types.specs.Budgets.{tick_cause}
use Rattle.dram_map.specs.Words.{word_at}
use Rattle.sv39_pte.specs.declared.pte.Access.{Access}
use Rattle.sv39_pte.specs.declared.pte.Access.TheVariants as accesses
use Rattle.rv_ext.specs.declared.op.AmoOp.{AmoOp}
use Rattle.rv_decode.specs.declared.inst.Inst.{Inst}
use Rattle.rv_decode.specs.Decoded.{decoded}
use Rattle.rv_exec.specs.declared.effect.Effect.{Effect}
use Rattle.rv_exec.specs.declared.effect.Effect.TheVariants as effects
use Rattle.rv_exec.specs.Effects.{effect_of}
use Rattle.core_access.specs.Causes.{misaligned, illegal_instruction, is_aligned}
use Rattle.core_access.specs.Words.{place_in, instruction_at, stored_in}
use Rattle.core_context.specs.Registers.{saved_context}
use Rattle.core_context.specs.GuestCalls.{asked_call}
use Rattle.core_context.specs.declared.origin.Origin.{Origin}
use Rattle.core_context.specs.declared.origin.Origin.TheVariants as origins
use Rattle.solo.specs.Core.{Core, core_start, mode_now, chosen, logged, given}
use Rattle.solo.specs.Calls.{pte_places, page_input, digest_for, entry_of, called, ticked}
use Rattle.solo.specs.Translation.{Reached, accessed}
use Rattle.solo.specs.Turns.{Turned, trapped_in, trapped, put, put_bytes, loads_on, loads, stores_on, stores, combines_on, combines, fences_in, carried_out, executed, fetched, turned}
use Rattle.solo.specs.Solo.{Lined, continues, is_spent, limited, word_loaded_on, word_loaded, word_stored_on, word_stored, pc_set, reg_set, turns_after, turns, core_after, lines_after, core_from}
use Rattle.solo.proofs.Same.{Same, grown, same_access}

-- ---- one call

-- the digest that an entry shows is the one that the monitor was given
digest_is : (words : List ℕ) (call : Call) (at : ℕ) → digest_of (page_input words call at) ≡ digest_for words call
digest_is words (calls.LoadPage e va page src perms) at = refl
digest_is words _ at = refl

-- where the reply is not Ok, neither shows nor matters
shown_digest : (b : Bool) (s : State) (call : Call) (words : List ℕ) (at k : ℕ) → cond b (effect s 0 call (digest_of (cond b (page_input words call at) None)) k) s ≡ cond b (effect s 0 call (digest_for words call) k) s
shown_digest true s call words at k = ap (λ (digest : List ℕ). effect s 0 call digest k) (digest_is words call at)
shown_digest false s call words at k = refl

-- a page is shown exactly by a load_page that answers Ok
shown_page : (b : Bool) (words : List ℕ) (call : Call) (at : ℕ) → is_some (cond b (page_input words call at) None) ≡ cond (is_load_page call) b false
shown_page true words (calls.LoadPage e va page src perms) at = refl
shown_page true words _ at = refl
shown_page false words (calls.LoadPage e va page src perms) at = refl
shown_page false words _ at = refl

entry_legal : (c : Core) (call : Call) → IsLegalEntry c.state (entry_of c call)
entry_legal c call = record {
  reply = λ _. refl;
  tried = λ _. refl;
  page = shown_page (is_done (reply_of c.state 0 call)) c.words call (length c.answers + length (pte_places c call));
}

-- the entry leads to the state after the call
after_is : (c : Core) (call : Call) → after_entry c.state (entry_of c call) ≡ after c.state 0 call (digest_for c.words call) (c.made + 1)
after_is c call =
    ap (λ (b : Bool). cond b c.state (after c.state 0 call (digest_of (entry_of c call).page) (c.made + 1))) (never_met c.state 0 call)
    ∙ shown_digest (is_done (reply_of c.state 0 call)) c.state call c.words (length c.answers + length (pte_places c call)) (c.made + 1)

-- ---- the core at any time

-- So many entries of core 0 are a legal history that leads from a machine's start to this state.
pub record IsHistory (shape : Shape) (made : ℕ) (s : State) (es : List Entry) : Type 0 where
  pub count : length es ≡ made
  pub tickets : AreTickets 1 es
  pub own : AreOwn 0 0 0 es
  pub legal : AreLegalEntries (start shape) es
  pub state : after_entries (start shape) es ≡ s
  pub machine : s.shape ≡ shape

abbrev pub HasHistory : Shape → Core → Type 0
HasHistory shape c = IsHistory shape c.made c.state (entries_of c.log)

at_start : (image : Image) → HasHistory image.config (core_start image)
at_start image = record { count = refl; tickets = tt; own = tt; legal = tt; state = refl; machine = refl }

one_more : (shape : Shape) (c : Core) (call : Call) (es : List Entry) → IsHistory shape c.made c.state es → IsHistory shape (c.made + 1) (after c.state 0 call (digest_for c.words call) (c.made + 1)) (es ++ entry_of c call ∷ [])
one_more shape c call es h =
    let e : Entry = entry_of c call in
    let next : e.ticket ≡ 1 + length es = omega (arith, h.count) in
    record {
      count = omega (arith, length-append es (e ∷ []), h.count);
      tickets = tickets_more 1 es e h.tickets next;
      own = own_more 0 0 0 1 es e h.tickets (omega arith) h.own refl (omega (arith, h.count)) next;
      legal = legal_more (start shape) es e h.legal (subst (λ (s : State). IsLegalEntry s e) (sym h.state) (entry_legal c call));
      state = after_more (start shape) es e ∙ ap (λ (s : State). after_entry s e) h.state ∙ after_is c call;
      machine = after_shape c.state 0 call (digest_for c.words call) (c.made + 1) ∙ h.machine;
    }

pub after_call : (shape : Shape) (origin : Origin) (c : Core) (call : Call) → HasHistory shape c → HasHistory shape (called origin c call)
after_call shape origin c call h =
    subst (λ (es : List Entry). IsHistory shape (c.made + 1) (after c.state 0 call (digest_for c.words call) (c.made + 1)) es)
    (sym (grown c.log (events.Entry (entry_of c call)))) (one_more shape c call (entries_of c.log) h)

-- an event that is no entry is none of the history
after_event : (shape : Shape) (c : Core) (event : Event) → entry_in event ≡ [] → HasHistory shape c → HasHistory shape (logged c event)
after_event shape c event none h =
    subst (λ (es : List Entry). IsHistory shape c.made c.state es) (sym (grown c.log event ∙ ap (λ (es : List Entry). entries_of c.log ++ es) none ∙ append-nil (entries_of c.log))) h

-- what leaves the state, the calls and the entries leaves the history
after_same : (shape : Shape) (c d : Core) → Same c d → HasHistory shape c → HasHistory shape d
after_same shape c d s h =
    subst (λ (made : ℕ). IsHistory shape made d.state (entries_of d.log)) (sym s.made)
    (subst (λ (state : State). IsHistory shape c.made state (entries_of d.log)) (sym s.state)
    (subst (λ (es : List Entry). IsHistory shape c.made c.state es) (sym s.entries) h))

-- an access does
after_access : (shape : Shape) (c : Core) (va : ℕ) (access : Access) → HasHistory shape c → HasHistory shape (accessed c va access).core
after_access shape c va access h = after_same shape c (accessed c va access).core (same_access c va access) h

-- ---- a turn

after_trap_in : (shape : Shape) (mode : Mode) (n : ℕ) (c : Core) (cause value : ℕ) → HasHistory shape c → HasHistory shape (trapped_in mode n c cause value).core
after_trap_in shape modes.Os n c cause value h = after_event shape c (events.Stop n (whys.Trap cause value)) refl h
after_trap_in shape (modes.Inside e t) n c cause value h =
    after_call shape (origins.Machine value) c (calls.Aex (saved_context c.contexts.current cause)) h

after_trap : (shape : Shape) (n : ℕ) (c : Core) (cause value : ℕ) → HasHistory shape c → HasHistory shape (trapped n c cause value).core
after_trap shape n c cause value h = after_trap_in shape (mode_now c) n c cause value h

-- of two turns or lines of which one is chosen
either : (P : Core → Type 0) (b : Bool) (x y : Core) → P x → P y → P (cond b x y)
either P true x y p q = p
either P false x y p q = q

either_turn : (P : Core → Type 0) (b : Bool) (x y : Turned) → P x.core → P y.core → P (cond b x y).core
either_turn P true x y p q = p
either_turn P false x y p q = q

after_loads_on : (shape : Shape) (n va size : ℕ) (signed : Bool) (rd : ℕ) (c : Core) (page : Result ℕ ℕ) → HasHistory shape c → HasHistory shape (loads_on n va size signed rd c page).core
after_loads_on shape n va size signed rd c (Ok page) h = h
after_loads_on shape n va size signed rd c (Err cause) h = after_trap shape n c cause va h

after_loads : (shape : Shape) (n : ℕ) (c : Core) (va size : ℕ) (signed : Bool) (rd : ℕ) → HasHistory shape c → HasHistory shape (loads n c va size signed rd).core
after_loads shape n c va size signed rd h =
    let r : Reached = accessed c va accesses.Load in
    either_turn (HasHistory shape) (is_aligned va size) (loads_on n va size signed rd r.core r.page) (trapped n c (misaligned accesses.Load) va)
    (after_loads_on shape n va size signed rd r.core r.page (after_access shape c va accesses.Load h)) (after_trap shape n c (misaligned accesses.Load) va h)

after_put_bytes : (shape : Shape) (c : Core) (place va size value : ℕ) → HasHistory shape c → HasHistory shape (put_bytes c place va size value)
after_put_bytes shape c place va size value h =
    either (HasHistory shape) (size == 8) (put c place value) (put (given c (word_at c.words place)) place (stored_in (word_at c.words place) va size value)) h h

after_stores_on : (shape : Shape) (n va size value : ℕ) (c : Core) (page : Result ℕ ℕ) → HasHistory shape c → HasHistory shape (stores_on n va size value c page).core
after_stores_on shape n va size value c (Ok page) h = after_put_bytes shape c (place_in page va) va size value h
after_stores_on shape n va size value c (Err cause) h = after_trap shape n c cause va h

after_stores : (shape : Shape) (n : ℕ) (c : Core) (va size value : ℕ) → HasHistory shape c → HasHistory shape (stores n c va size value).core
after_stores shape n c va size value h =
    let r : Reached = accessed c va accesses.Store in
    either_turn (HasHistory shape) (is_aligned va size) (stores_on n va size value r.core r.page) (trapped n c (misaligned accesses.Store) va)
    (after_stores_on shape n va size value r.core r.page (after_access shape c va accesses.Store h)) (after_trap shape n c (misaligned accesses.Store) va h)

after_combines_on : (shape : Shape) (n va size : ℕ) (op : AmoOp) (value rd : ℕ) (c : Core) (page : Result ℕ ℕ) → HasHistory shape c → HasHistory shape (combines_on n va size op value rd c page).core
after_combines_on shape n va size op value rd c (Ok page) h = h
after_combines_on shape n va size op value rd c (Err cause) h = after_trap shape n c cause va h

after_combines : (shape : Shape) (n : ℕ) (c : Core) (va size : ℕ) (op : AmoOp) (value rd : ℕ) → HasHistory shape c → HasHistory shape (combines n c va size op value rd).core
after_combines shape n c va size op value rd h =
    let r : Reached = accessed c va accesses.Store in
    either_turn (HasHistory shape) (is_aligned va size) (combines_on n va size op value rd r.core r.page) (trapped n c (misaligned accesses.Store) va)
    (after_combines_on shape n va size op value rd r.core r.page (after_access shape c va accesses.Store h)) (after_trap shape n c (misaligned accesses.Store) va h)

after_fence : (shape : Shape) (mode : Mode) (n : ℕ) (c : Core) (word : ℕ) → HasHistory shape c → HasHistory shape (fences_in mode n c word).core
after_fence shape modes.Os n c word h = h
after_fence shape (modes.Inside e t) n c word h = after_trap shape n c illegal_instruction word h

after_effect : (shape : Shape) (n : ℕ) (c : Core) (word : ℕ) (effect : Effect) → HasHistory shape c → HasHistory shape (carried_out n c word effect).core
after_effect shape n c word (effects.Next pc rd value) h = h
after_effect shape n c word (effects.Load va size signed rd) h = after_loads shape n c va size signed rd h
after_effect shape n c word (effects.Store va size value) h = after_stores shape n c va size value h
after_effect shape n c word (effects.Amo va size op value rd) h = after_combines shape n c va size op value rd h
after_effect shape n c word effects.Call h = after_call shape origins.Guest c (asked_call c.contexts.current) h
after_effect shape n c word effects.Fence h = h
after_effect shape n c word effects.Flush h = after_fence shape (mode_now c) n c word h
after_effect shape n c word (effects.Trap cause value) h = after_trap shape n c cause value h

after_inst : (shape : Shape) (n : ℕ) (c : Core) (word : ℕ) (inst : Option Inst) → HasHistory shape c → HasHistory shape (executed n c word inst).core
after_inst shape n c word (Some inst) h = after_effect shape n c word (effect_of inst c.contexts.current.pc c.contexts.current.regs) h
after_inst shape n c word None h = after_trap shape n c illegal_instruction word h

after_fetch : (shape : Shape) (n pc : ℕ) (c : Core) (page : Result ℕ ℕ) → HasHistory shape c → HasHistory shape (fetched n pc c page).core
after_fetch shape n pc c (Ok page) h =
    let word : ℕ = word_at c.words (place_in page pc) in
    after_inst shape n (given c word) (instruction_at pc word) (decoded (instruction_at pc word)) h
after_fetch shape n pc c (Err cause) h = after_trap shape n c cause pc h

after_turn : (shape : Shape) (n : ℕ) (c : Core) → HasHistory shape c → HasHistory shape (turned n c).core
after_turn shape n c h =
    let pc : ℕ = c.contexts.current.pc in
    let r : Reached = accessed c pc accesses.Fetch in
    either_turn (HasHistory shape) (is_aligned pc 4) (fetched n pc r.core r.page) (trapped n c (misaligned accesses.Fetch) pc)
    (after_fetch shape n pc r.core r.page (after_access shape c pc accesses.Fetch h)) (after_trap shape n c (misaligned accesses.Fetch) pc h)

-- ---- a `run` line

after_chosen : (shape : Shape) (b : Bool) (first second : ⊤ → Lined) → HasHistory shape (first tt).core → HasHistory shape (second tt).core → HasHistory shape (chosen b first second).core
after_chosen shape true first second p q = p
after_chosen shape false first second p q = q

after_turns : (shape : Shape) (n count : ℕ) (c : Core) → HasHistory shape c → HasHistory shape (turns n count c).core
unfolding turns
after_turns shape n zero c h = h
after_turns shape n (suc count) c h =
    let t : Turned = turned n c in
    let after : HasHistory shape t.core = after_turn shape n c h in
    after_chosen shape (is_spent c) (λ u. limited n c) (λ u. turns_after (turns n count) t)
    (after_event shape c (events.Stop n whys.Limit) refl h)
    (after_chosen shape t.ends (λ u. continues t.core) (λ u. turns n count t.core) after (after_turns shape n count t.core after))

-- ---- the lines of a script

after_tick : (shape : Shape) (mode : Mode) (c : Core) → HasHistory shape c → HasHistory shape (ticked mode c)
after_tick shape modes.Os c h = h
after_tick shape (modes.Inside e t) c h = after_call shape (origins.Machine 0) c (calls.Aex (saved_context c.contexts.current tick_cause)) h

after_pc : (shape : Shape) (mode : Mode) (c : Core) (pc : ℕ) → HasHistory shape c → HasHistory shape (pc_set mode c pc)
after_pc shape modes.Os c pc h = h
after_pc shape (modes.Inside e t) c pc h = h

after_reg : (shape : Shape) (mode : Mode) (c : Core) (x value : ℕ) → HasHistory shape c → HasHistory shape (reg_set mode c x value)
after_reg shape modes.Os c x value h = h
after_reg shape (modes.Inside e t) c x value h = h

after_word_on : (shape : Shape) (n va : ℕ) (c : Core) (page : Result ℕ ℕ) → HasHistory shape c → HasHistory shape (word_loaded_on n va c page)
after_word_on shape n va c (Ok page) h = h
after_word_on shape n va c (Err cause) h = after_trap shape n c cause va h

after_word : (shape : Shape) (n : ℕ) (c : Core) (va : ℕ) → HasHistory shape c → HasHistory shape (word_loaded n c va)
after_word shape n c va h =
    let r : Reached = accessed c va accesses.Load in
    either (HasHistory shape) (is_aligned va 8) (word_loaded_on n va r.core r.page) (trapped n c (misaligned accesses.Load) va).core
    (after_word_on shape n va r.core r.page (after_access shape c va accesses.Load h)) (after_trap shape n c (misaligned accesses.Load) va h)

after_stored_on : (shape : Shape) (n va value : ℕ) (c : Core) (page : Result ℕ ℕ) → HasHistory shape c → HasHistory shape (word_stored_on n va value c page)
after_stored_on shape n va value c (Ok page) h = h
after_stored_on shape n va value c (Err cause) h = after_trap shape n c cause va h

after_stored : (shape : Shape) (n : ℕ) (c : Core) (va value : ℕ) → HasHistory shape c → HasHistory shape (word_stored n c va value)
after_stored shape n c va value h =
    let r : Reached = accessed c va accesses.Store in
    either (HasHistory shape) (is_aligned va 8) (word_stored_on n va value r.core r.page) (trapped n c (misaligned accesses.Store) va).core
    (after_stored_on shape n va value r.core r.page (after_access shape c va accesses.Store h)) (after_trap shape n c (misaligned accesses.Store) va h)

after_line : (shape : Shape) (n : ℕ) (c : Core) (line : Line) → HasHistory shape c → HasHistory shape (core_after n c line).core
after_line shape n c (lines.Make call) h = after_call shape origins.Line c call h
after_line shape n c (lines.Run count) h = after_turns shape n count c h
after_line shape n c lines.Tick h = after_tick shape (mode_now c) c h
after_line shape n c (lines.LoadWord va) h = after_word shape n c va h
after_line shape n c (lines.StoreWord va value) h = after_stored shape n c va value h
after_line shape n c (lines.SetPc pc) h = after_pc shape (mode_now c) c pc h
after_line shape n c (lines.SetReg x value) h = after_reg shape (mode_now c) c x value h

after_either : (shape : Shape) (b : Bool) (first second : ⊤ → Core) → HasHistory shape (first tt) → HasHistory shape (second tt) → HasHistory shape (chosen b first second)
after_either shape true first second p q = p
after_either shape false first second p q = q

after_lines : (shape : Shape) (c : Core) (n : ℕ) (script : List Line) → HasHistory shape c → HasHistory shape (core_from c n script)
unfolding core_from
after_lines shape c n [] h = h
after_lines shape c n (line ∷ rest) h =
    let l : Lined = core_after n c line in
    let after : HasHistory shape l.core = after_line shape n c line h in
    after_either shape (is_spent c) (λ u. (limited n c).core) (λ u. lines_after (λ d. core_from d (n + 1) rest) l)
    (after_event shape c (events.Stop n whys.Limit) refl h)
    (after_either shape l.over (λ u. l.core) (λ u. core_from l.core (n + 1) rest) after (after_lines shape l.core (n + 1) rest after))

pub has_history : (image : Image) (script : List Line) → HasHistory image.config (core_from (core_start image) 1 script)
has_history image script = after_lines image.config (core_start image) 1 script (at_start image)
