-- What a core does in a turn of guest code is permitted, and at the lines that reach memory.
use Rattle.std.proofs.Common.{◌≡◌, ◌*◌, ◌/◌, ◌%◌, ◌^◌, ℕ, zero, suc, Bool, true, false, cond, ◌==◌, Option, Some, None, Ok, Err, refl, arith}
use Rattle.std.specs.Prelude.{slice_index}
use Rattle.mon_types.specs.Shape.{Shape, is_shape}
use Rattle.mon_types.specs.Calls.{call_of}
use Rattle.mon_types.proofs.Rows.{all_at}
use Rattle.mon_types.specs.declared.thread.Mode.{Mode}
use Rattle.mon_types.specs.declared.thread.Mode.TheVariants as modes
use Rattle.mon_types.specs.declared.call.Call.{Call}
use Rattle.hist.specs.declared.event.Why.TheVariants as whys
use Rattle.core_context.specs.declared.origin.Origin.TheVariants as origins
use Rattle.core_context.specs.declared.context.Context.{Context}
use Rattle.core_context.specs.GuestCalls.{asked_call}
use Rattle.mon_records.specs.Ranges.{IsCall}
use Rattle.sv39_pte.specs.declared.pte.Access.{Access}
use Rattle.sv39_pte.specs.declared.pte.Access.TheVariants as accesses
use Rattle.rv_ext.specs.declared.op.AmoOp.{AmoOp}
use Rattle.rv_decode.specs.declared.inst.Inst.{Inst}
use Rattle.rv_decode.specs.Decoded.{decoded}
use Rattle.rv_exec.specs.declared.effect.Effect.{Effect}
use Rattle.rv_exec.specs.declared.effect.Effect.TheVariants as effects
use Rattle.rv_exec.specs.Effects.{effect_of}
use Rattle.rv_exec.specs.Loads.{IsSize}
use Rattle.core_access.specs.Causes.{misaligned, illegal_instruction, is_aligned}
use Rattle.core_access.specs.Words.{place_in, instruction_at, loaded_from, stored_in, combined_in}
use Rattle.protocol.specs.declared.action.Move.TheVariants as moves
use Rattle.protocol.specs.Views.{Moves}
use Rattle.core_behaviour.specs.Course.{Course}
use Rattle.core_behaviour.specs.declared.exit.Exit.{Exit}
use Rattle.core_behaviour.specs.Core.{Core, mode_now}
use Rattle.core_behaviour.specs.Traps.{Turned, came_back, traps_in, traps}
use Rattle.core_behaviour.specs.Turns.{set_register, go_to, at_next, stores, has_stored, retired, swaps, loads_on, loads_bytes, stores_in, stores_on, stores_bytes, combines_on, combines, fences_in, carried_out, executed, fetched, instruction, ends_or_goes, after_retry, turned}
use Rattle.core_behaviour.specs.Lines.{Lined, word_loaded_on, word_loaded, word_stored_on, word_stored, turns_on, turns}
use Rattle.core_laws.specs.Outcomes.{IsWord}
use Rattle.core_laws.proofs.Permits.{IsPermitted, IsContext, IsCached, Agrees, Follow, fewer}
use Rattle.core_laws.proofs.Contexts.{advanced_fits, register_fits}
use Rattle.core_laws.proofs.Moving.{outside, all_called}
use Rattle.core_laws.proofs.Translations.{FollowReached, may_reach, all_loads, all_accessed}
use Rattle.core_laws.proofs.Effects.{IsEffect, IsSized, effect_fits, decoded_sized, loaded_less, stored_less, amo_size}
use Rattle.core_laws.proofs.Exits.{all_stops, all_budgeted, all_retried, all_exits, with_fits}

-- ---- the call that a guest asks for

pick : (b : Bool) (x y : Call) → IsCall x → IsCall y → IsCall (cond b x y)
pick true x y h k = h
pick false x y h k = k

pub call_fits : (n a b c d e f : ℕ) → IsWord n → IsWord a → IsWord b → IsWord c → IsWord d → IsWord e → IsWord f → IsCall (call_of n a b c d e f)
unfolding call_of
call_fits n a b c d e f hn ha hb hc hd he hf =
    pick (n == 1) _ _ (record { words = (ha, tt); all = tt })
    (pick (n == 2) _ _ (record { words = (ha, tt); all = tt })
    (pick (n == 3) _ _ (record { words = (ha, (hb, tt)); all = tt })
    (pick (n == 4) _ _ (record { words = tt; all = tt })
    (pick (n == 5) _ _ (record { words = (ha, tt); all = tt })
    (pick (n == 6) _ _ (record { words = (ha, (hb, (hc, tt))); all = tt })
    (pick (n == 7) _ _ (record { words = (ha, (hb, (hc, (hd, tt)))); all = tt })
    (pick (n == 8) _ _ (record { words = (ha, (hb, (hc, (hd, (he, tt))))); all = tt })
    (pick (n == 9) _ _ (record { words = (ha, (hb, (hc, (hd, tt)))); all = tt })
    (pick (n == 10) _ _ (record { words = (ha, tt); all = tt })
    (pick (n == 11) _ _ (record { words = (ha, (hb, tt)); all = tt })
    (pick (n == 12) _ _ (record { words = (ha, tt); all = tt })
    (pick (n == 13) _ _ (record { words = (ha, (hb, tt)); all = tt })
    (pick (n == 14) _ _ (record { words = tt; all = tt })
    (pick (n == 16) _ _ (record { words = tt; all = tt })
    (pick (n == 17) _ _ (record { words = (ha, (hb, tt)); all = tt })
    (pick (n == 18) _ _ (record { words = (ha, (hb, (hc, (hd, (he, (hf, tt)))))); all = tt })
    (pick (n == 19) _ _ (record { words = (ha, tt); all = tt })
    (pick (n == 20) _ _ (record { words = (ha, tt); all = tt })
    (pick (n == 21) _ _ (record { words = (ha, tt); all = tt })
    (pick (n == 22) _ _ (record { words = (ha, tt); all = tt })
    (pick (n == 23) _ _ (record { words = (ha, (hb, (hc, (hd, tt)))); all = tt })
    (record { words = (hn, (ha, (hb, (hc, (hd, (he, (hf, tt))))))); all = refl }))))))))))))))))))))))

asked_fits : (x : Context) → IsContext x → IsCall (asked_call x)
asked_fits x h =
    let at : (i : ℕ) → IsWord (slice_index x.regs i) = λ i. all_at IsWord x.regs i (omega arith) h.regs.fit in
    call_fits _ _ _ _ _ _ _ (at 17) (at 10) (at 11) (at 12) (at 13) (at 14) (at 15)

misaligned_less : (access : Access) → IsWord (misaligned access)
misaligned_less accesses.Fetch = omega arith
misaligned_less accesses.Load = omega arith
misaligned_less accesses.Store = omega arith

module _ (shape : Shape) (is : is_shape shape ≡ true) (core : ℕ) where
  -- what follows a turn, or a part of one
  abbrev FollowTurned : Turned → Type 0
  FollowTurned next = (ms : Moves) (c : Core) (over : Bool) → Agrees shape core 0 ms c → IsPermitted shape core ms (next c over)

  -- ---- small changes

  go_fits : (calls : ℕ) (ms : Moves) (c : Core) (pc : ℕ) → IsWord pc → Agrees shape core calls ms c → Agrees shape core calls ms (go_to c pc)
  go_fits calls ms c pc w a = with_fits shape is core calls ms c _ (record { pc = w; regs = a.contexts.current.regs }) a

  set_fits : (calls : ℕ) (ms : Moves) (c : Core) (x value : ℕ) → IsWord value → Agrees shape core calls ms c → Agrees shape core calls ms (set_register c x value)
  set_fits calls ms c x value w a = with_fits shape is core calls ms c _ (register_fits c.contexts.current x value w a.contexts.current) a

  next_fits : (calls : ℕ) (ms : Moves) (c : Core) → Agrees shape core calls ms c → Agrees shape core calls ms (at_next c)
  next_fits calls ms c a = with_fits shape is core calls ms c _ (advanced_fits c.contexts.current a.contexts.current) a

  -- ---- traps

  all_traps_in : (mode : Mode) (n cause value : ℕ) (ms : Moves) (c : Core) (next : Turned) → IsWord cause → IsWord value → Agrees shape core 1 ms c → FollowTurned next → IsPermitted shape core ms (traps_in mode shape n cause value c next)
  all_traps_in modes.Os n cause value ms c next x y a follow = all_stops shape is core n (whys.Trap cause value) 0 ms c _ (fewer shape core 1 0 ms c (omega arith) a) (λ more d b. follow more d true b)
  all_traps_in (modes.Inside e t) n cause value ms c next x y a follow =
      all_exits shape is core c.pending (record { cause = cause; value = value }) 0 ms c (λ d. next d (came_back c d)) (x, y) a (λ more d b. follow more d (came_back c d) b)

  all_traps : (n cause value : ℕ) (ms : Moves) (c : Core) (next : Turned) → IsWord cause → IsWord value → Agrees shape core 1 ms c → FollowTurned next → IsPermitted shape core ms (traps shape n cause value c next)
  all_traps n cause value ms c next x y a follow = all_traps_in (mode_now c) n cause value ms c next x y a follow

  -- ---- words of DRAM

  all_stores : (page va value : ℕ) (ms : Moves) (c : Core) (next : Core → Course) → IsWord value → Agrees shape core 0 ms c → IsCached shape core ms page → Follow shape core 0 next → IsPermitted shape core ms (stores (place_in page va) value c next)
  all_stores page va value ms c next w a h follow = (may_reach shape core 0 ms c page va a h, w, λ out m. follow _ _ (outside shape core 0 ms c (moves.Store (place_in page va) value) out tt a))

  all_swaps : (page va old value : ℕ) (done : Core → Core) (ms : Moves) (c : Core) (next : Turned) → IsWord value → ((more : Moves) (d : Core) → Agrees shape core 0 more d → Agrees shape core 0 more (done d)) → Agrees shape core 0 ms c → IsCached shape core ms page → FollowTurned next
      → IsPermitted shape core ms (swaps (place_in page va) old value done c next)
  all_swaps page va old value done ms c next w keeps a h follow =
      (may_reach shape core 0 ms c page va a h, w, λ out m. follow _ _ false (by (has_stored out) _ _ (outside shape core 0 ms c (moves.Swap (place_in page va) old value) out tt a)))
    where
      by : (b : Bool) (more : Moves) (d : Core) → Agrees shape core 0 more d → Agrees shape core 0 more (retired done b d)
      by true more d b = keeps more d b
      by false more d b = b

  module _ (n va : ℕ) (is_va : IsWord va) (next : Turned) (follow : FollowTurned next) where
    -- ---- loads

    all_loads_on : (size : ℕ) (sign : Bool) (rd : ℕ) → FollowReached shape core 1 (loads_on shape n va size sign rd next)
    all_loads_on size sign rd ms c (Ok page) a h =
        all_loads shape is core 1 page va ms c _ a h (λ more d word b k w. follow more _ false
        (fewer shape core 1 0 more _ (omega arith) (next_fits 1 more _ (set_fits 1 more d rd (loaded_from word va size sign) (loaded_less word va size sign w) b))))
    all_loads_on size sign rd ms c (Err cause) a h = all_traps n cause va ms c next h is_va a follow

    all_loads_bytes : (aligned : Bool) (size : ℕ) (sign : Bool) (rd : ℕ) (ms : Moves) (c : Core) → Agrees shape core 1 ms c → IsPermitted shape core ms (loads_bytes shape n aligned va size sign rd c next)
    all_loads_bytes true size sign rd ms c a = all_accessed shape is core 1 va accesses.Load (loads_on shape n va size sign rd next) (all_loads_on size sign rd) ms c a
    all_loads_bytes false size sign rd ms c a = all_traps n (misaligned accesses.Load) va ms c next (misaligned_less accesses.Load) is_va a follow

    -- ---- stores

    all_stores_in : (whole : Bool) (page size value : ℕ) (ms : Moves) (c : Core) → IsWord value → IsSize size → is_aligned va size ≡ true → Agrees shape core 0 ms c → IsCached shape core ms page → IsPermitted shape core ms (stores_in whole (place_in page va) va size value c next)
    all_stores_in true page size value ms c w s al a h = all_stores page va value ms c _ w a h (λ more d b. follow more _ false (next_fits 0 more d b))
    all_stores_in false page size value ms c w s al a h =
        all_loads shape is core 0 page va ms c (λ d word. swaps (place_in page va) word (stored_in word va size value) at_next d next) a h
        (λ more d word b k u. all_swaps page va word (stored_in word va size value) at_next more d next (stored_less word va size value s al u) (λ later e f. next_fits 0 later e f) b k follow)

    all_stores_on : (size value : ℕ) → IsWord value → IsSize size → is_aligned va size ≡ true → FollowReached shape core 1 (stores_on shape n va size value next)
    all_stores_on size value w s al ms c (Ok page) a h = all_stores_in (size == 8) page size value ms c w s al (fewer shape core 1 0 ms c (omega arith) a) h
    all_stores_on size value w s al ms c (Err cause) a h = all_traps n cause va ms c next h is_va a follow

    all_stores_bytes : (aligned : Bool) (size value : ℕ) (ms : Moves) (c : Core) → is_aligned va size ≡ aligned → IsWord value → IsSize size → Agrees shape core 1 ms c → IsPermitted shape core ms (stores_bytes shape n aligned va size value c next)
    all_stores_bytes true size value ms c al w s a = all_accessed shape is core 1 va accesses.Store (stores_on shape n va size value next) (all_stores_on size value w s al) ms c a
    all_stores_bytes false size value ms c al w s a = all_traps n (misaligned accesses.Store) va ms c next (misaligned_less accesses.Store) is_va a follow

    -- ---- atomic instructions

    all_combines_on : (size : ℕ) (op : AmoOp) (value rd : ℕ) → IsSize size → is_aligned va size ≡ true → FollowReached shape core 1 (combines_on shape n va size op value rd next)
    all_combines_on size op value rd s al ms c (Ok page) a h =
        all_loads shape is core 0 page va ms c
        (λ d word. swaps (place_in page va) word (combined_in op word va size value) (λ e. at_next (set_register e rd (loaded_from word va size true))) d next)
        (fewer shape core 1 0 ms c (omega arith) a) h (λ more d word b k u.
        all_swaps page va word (combined_in op word va size value) (λ e. at_next (set_register e rd (loaded_from word va size true))) more d next (stored_less word va size _ s al u)
        (λ later e f. next_fits 0 later _ (set_fits 0 later e rd (loaded_from word va size true) (loaded_less word va size true u) f)) b k follow)
    all_combines_on size op value rd s al ms c (Err cause) a h = all_traps n cause va ms c next h is_va a follow

    all_combines : (aligned : Bool) (size : ℕ) (op : AmoOp) (value rd : ℕ) (ms : Moves) (c : Core) → is_aligned va size ≡ aligned → IsSize size → Agrees shape core 1 ms c → IsPermitted shape core ms (combines shape n aligned va size op value rd c next)
    all_combines true size op value rd ms c al s a = all_accessed shape is core 1 va accesses.Store (combines_on shape n va size op value rd next) (all_combines_on size op value rd s al) ms c a
    all_combines false size op value rd ms c al s a = all_traps n (misaligned accesses.Store) va ms c next (misaligned_less accesses.Store) is_va a follow

  -- ---- an instruction

  module _ (n : ℕ) (next : Turned) (follow : FollowTurned next) where
    all_fences : (mode : Mode) (word : ℕ) (ms : Moves) (c : Core) → IsWord word → Agrees shape core 1 ms c → IsPermitted shape core ms (fences_in mode shape n word c next)
    all_fences modes.Os word ms c w a = follow ms _ false (next_fits 0 ms _ (record {
      number = a.number;
      log = a.log;
      answers = a.answers;
      idle = a.idle;
      room = (let r = a.room in omega arith);
      caller = a.caller;
      contexts = a.contexts;
      pending = a.pending;
      cached = tt;
    }))
    all_fences (modes.Inside e t) word ms c w a = all_traps n illegal_instruction word ms c next (omega arith) w a follow

    all_carried : (word : ℕ) (effect : Effect) (ms : Moves) (c : Core) → IsWord word → IsEffect effect → Agrees shape core 1 ms c → IsPermitted shape core ms (carried_out shape n word effect c next)
    all_carried word (effects.Next pc rd value) ms c w e a = follow ms _ false (set_fits 0 ms _ rd value e.1 (go_fits 0 ms c pc e.0 (fewer shape core 1 0 ms c (omega arith) a)))
    all_carried word (effects.Load va size sign rd) ms c w e a = all_loads_bytes n va e next follow (is_aligned va size) size sign rd ms c a
    all_carried word (effects.Store va size value) ms c w e a = all_stores_bytes n va e.0 next follow (is_aligned va size) size value ms c refl e.1 e.2 a
    all_carried word (effects.Amo va size op value rd) ms c w e a = all_combines n va e.0 next follow (is_aligned va size) size op value rd ms c refl (amo_size size e.1) a
    all_carried word effects.Call ms c w e a = all_called shape is core origins.Guest tt (asked_call c.contexts.current) (asked_fits c.contexts.current a.contexts.current) 0 ms c a
        (λ d. next d (came_back c d)) (λ more d b. follow more d (came_back c d) b)
    all_carried word effects.Fence ms c w e a = follow ms _ false (next_fits 0 ms c (fewer shape core 1 0 ms c (omega arith) a))
    all_carried word effects.Flush ms c w e a = all_fences (mode_now c) word ms c w a
    all_carried word (effects.Trap cause value) ms c w e a = all_traps n cause value ms c next e.0 e.1 a follow

    all_executed : (word : ℕ) (inst : Option Inst) (ms : Moves) (c : Core) → IsWord word → IsSized inst → Agrees shape core 1 ms c → IsPermitted shape core ms (executed shape n word inst c next)
    all_executed word (Some inst) ms c w s a = all_carried word (effect_of inst c.contexts.current.pc c.contexts.current.regs) ms c w (effect_fits inst c.contexts.current.pc c.contexts.current.regs s a.contexts.current.pc a.contexts.current.regs) a
    all_executed word None ms c w s a = all_traps n illegal_instruction word ms c next (omega arith) w a follow

    half_less : (pc word : ℕ) → IsWord (instruction_at pc word)
    half_less pc word = less (word / 2 ^ (8 * (pc % 8)))
      where
        less : (a : ℕ) → IsWord (a % 2 ^ (8 * 4))
        less a = omega arith

    all_fetched : (pc : ℕ) → IsWord pc → FollowReached shape core 1 (fetched shape n pc next)
    all_fetched pc w ms c (Ok page) a h = all_loads shape is core 1 page pc ms c (λ d word. executed shape n (instruction_at pc word) (decoded (instruction_at pc word)) d next) a h
        (λ more d word b k u. all_executed (instruction_at pc word) (decoded (instruction_at pc word)) more d (half_less pc word) (decoded_sized (instruction_at pc word)) b)
    all_fetched pc w ms c (Err cause) a h = all_traps n cause pc ms c next h w a follow

    all_instruction : (aligned : Bool) (pc : ℕ) (ms : Moves) (c : Core) → IsWord pc → Agrees shape core 1 ms c → IsPermitted shape core ms (instruction shape n aligned pc c next)
    all_instruction true pc ms c w a = all_accessed shape is core 1 pc accesses.Fetch (fetched shape n pc next) (all_fetched pc w) ms c a
    all_instruction false pc ms c w a = all_traps n (misaligned accesses.Fetch) pc ms c next (misaligned_less accesses.Fetch) w a follow

    -- ---- a turn

    all_ends_or_goes : (over : Bool) (ms : Moves) (c : Core) → Agrees shape core 1 ms c → IsPermitted shape core ms (ends_or_goes over shape n c next)
    all_ends_or_goes true ms c a = follow ms c true (fewer shape core 1 0 ms c (omega arith) a)
    all_ends_or_goes false ms c a = all_instruction (is_aligned c.contexts.current.pc 4) c.contexts.current.pc ms c a.contexts.current.pc a

    all_after_retry : (before : Core) (pending : Option Exit) (ms : Moves) (c : Core) → Agrees shape core 1 ms c → IsPermitted shape core ms (after_retry shape n before pending c next)
    all_after_retry before (Some exit) ms c a = follow ms c false (fewer shape core 1 0 ms c (omega arith) a)
    all_after_retry before None ms c a = all_ends_or_goes (came_back before c) ms c a

    all_turned : (ms : Moves) (c : Core) → Agrees shape core 2 ms c → IsPermitted shape core ms (turned shape n c next)
    all_turned ms c a = all_retried shape is core c.pending 1 ms c (λ d. after_retry shape n c d.pending d next) a.pending a (λ more d b. all_after_retry c d.pending more d b)

  -- ---- the line `run`

  all_turns_on : (next more : Lined) → Follow shape core 0 next → Follow shape core 0 more → FollowTurned (turns_on next more)
  all_turns_on next more f g ms c true a = f ms c a
  all_turns_on next more f g ms c false a = g ms c a

  pub all_turns : (n count : ℕ) (next : Lined) → Follow shape core 0 next → Follow shape core 0 (turns shape n count next)
  unfolding turns
  all_turns n zero next follow ms c a = follow ms c a
  all_turns n (suc count) next follow ms c a =
      all_budgeted shape is core n (λ d. turned shape n d (turns_on next (λ e. turns shape n count next e))) ms c a (λ more d b. all_turned n (turns_on next (λ e. turns shape n count next e)) (all_turns_on next (λ e. turns shape n count next e) follow (all_turns n count next follow)) more d b)

  -- ---- the lines `load` and `store`

  module _ (n va : ℕ) (is_va : IsWord va) (next : Lined) (follow : Follow shape core 0 next) where
    all_word_on : FollowReached shape core 1 (word_loaded_on shape n va next)
    all_word_on ms c (Ok page) a h = all_loads shape is core 1 page va ms c (λ d word. next (set_register d 10 word)) a h (λ more d word b k u. follow more (set_register d 10 word) (fewer shape core 1 0 more _ (omega arith) (set_fits 1 more d 10 word u b)))
    all_word_on ms c (Err cause) a h = all_traps n cause va ms c (λ d ends. next d) h is_va a (λ more d over b. follow more d b)

    pub all_word_loaded : (aligned : Bool) (ms : Moves) (c : Core) → Agrees shape core 1 ms c → IsPermitted shape core ms (word_loaded shape n aligned va next c)
    all_word_loaded true ms c a = all_accessed shape is core 1 va accesses.Load (word_loaded_on shape n va next) all_word_on ms c a
    all_word_loaded false ms c a = all_traps n (misaligned accesses.Load) va ms c (λ d ends. next d) (misaligned_less accesses.Load) is_va a (λ more d over b. follow more d b)

    all_stored_on : (value : ℕ) → IsWord value → FollowReached shape core 1 (word_stored_on shape n va value next)
    all_stored_on value w ms c (Ok page) a h = all_stores page va value ms c next w (fewer shape core 1 0 ms c (omega arith) a) h follow
    all_stored_on value w ms c (Err cause) a h = all_traps n cause va ms c (λ d ends. next d) h is_va a (λ more d over b. follow more d b)

    pub all_word_stored : (aligned : Bool) (value : ℕ) (ms : Moves) (c : Core) → IsWord value → Agrees shape core 1 ms c → IsPermitted shape core ms (word_stored shape n aligned va value next c)
    all_word_stored true value ms c w a = all_accessed shape is core 1 va accesses.Store (word_stored_on shape n va value next) (all_stored_on value w) ms c a
    all_word_stored false value ms c w a = all_traps n (misaligned accesses.Store) va ms c (λ d ends. next d) (misaligned_less accesses.Store) is_va a (λ more d over b. follow more d b)
