-- The pc and the registers of a core stay words, whatever a call does to it.
use Rattle.std.proofs.Common.{◌≡◌, ◌∙◌, ◌+◌, ◌<◌, ◌^◌, ℕ, zero, suc, Bool, true, false, cond, ◌==◌, List, [], ◌∷◌, length, replicate, take, drop, set, refl, arith, length-append, length-drop}
use Rattle.std.specs.Prelude.{slice_set}
use Rattle.std.specs.List.{AllByRecursion}
use Rattle.std.proofs.lemmas.List.{length-set}
use Rattle.mon_types.specs.Words.{AreWords}
use Rattle.mon_types.specs.Modes.{own_thread}
use Rattle.mon_types.proofs.Rows.{all_at, part, zeros_fit}
use Rattle.mon_types.specs.declared.image.Start.{Start}
use Rattle.mon_types.specs.declared.thread.Mode.{Mode}
use Rattle.mon_types.specs.declared.thread.Mode.TheVariants as modes
use Rattle.mon_types.specs.declared.call.Call.{Call}
use Rattle.mon_types.specs.declared.call.Call.TheVariants as calls
use Rattle.mon_types.specs.declared.reply.Reply.{Reply}
use Rattle.mon_model.specs.State.{State, mode_of}
use Rattle.core_context.specs.declared.after.After.{After}
use Rattle.core_context.specs.declared.after.After.TheVariants as afters
use Rattle.core_context.specs.declared.context.Context.{Context}
use Rattle.core_context.specs.declared.contexts.Contexts.{Contexts}
use Rattle.core_context.specs.declared.contexts.Leaving.{Leaving}
use Rattle.core_context.specs.declared.contexts.Leaving.TheVariants as leavings
use Rattle.core_context.specs.declared.origin.Origin.{Origin}
use Rattle.core_context.specs.declared.origin.Origin.TheVariants as origins
use Rattle.core_context.specs.Registers.{begun, entered, returned, with_register, saved_context, restored_context}
use Rattle.core_context.specs.Changes.{ok_change, os_given_back, contexts_after, begun_contexts}
use Rattle.core_context.specs.GuestCalls.{advanced, reply_words, with_words, replied, answered}
use Rattle.core_context.specs.Origins.{leaving_of, told, contexts_by, exit_value}
use Rattle.core_context.specs.Lines.{pc_by, reg_by}
use Rattle.image_read.specs.Grammar.{IsWideStart}
use Rattle.mon_records.specs.Ranges.{AreInRange, IsCall}
use Rattle.core_behaviour.specs.Called.{change_by}
use Rattle.core_laws.specs.Outcomes.{IsWord}
use Rattle.core_laws.proofs.Tidy.{IsReply}
use Rattle.core_laws.proofs.CallWords.{all_append}
use Rattle.core_laws.proofs.Permits.{IsContext, AreContexts}

-- ---- registers

set_fits : (ws : List ℕ) (i v : ℕ) → IsWord v → AllByRecursion IsWord ws → AllByRecursion IsWord (set ws i v)
set_fits [] i v w h = tt
set_fits (x ∷ xs) zero v w h = (w, h.1)
set_fits (x ∷ xs) (suc i) v w h = (h.0, set_fits xs i v w h.1)

pub set_words : (n : ℕ) (ws : List ℕ) (i v : ℕ) → IsWord v → AreWords n ws → AreWords n (slice_set ws i v)
set_words n ws i v w h = record { many = length-set ws i v ∙ h.many; fit = set_fits ws i v w h.fit }

more_words : (n : ℕ) (words regs : List ℕ) (x : ℕ) → AllByRecursion IsWord words → AreWords n regs → AreWords n (with_words regs x words)
more_words n [] regs x w h = h
more_words n (word ∷ words) regs x w h = more_words n words (slice_set regs x word) (x + 1) w.1 (set_words n regs x word w.0 h)

no_regs_fit : AreWords 32 (replicate 32 0)
no_regs_fit = record { many = refl; fit = zeros_fit 32 }

begun_fits : (core : ℕ) (start : Start) → core < 2 ^ 64 → IsWideStart start → IsContext (begun core start)
begun_fits core start less wide = record { pc = wide.0; regs = set_words 32 _ 10 core less (set_words 32 _ 2 start.sp wide.1 no_regs_fit) }

entered_fits : (entry sp : ℕ) (saved : Bool) → IsWord entry → IsWord sp → IsContext (entered entry sp saved)
entered_fits entry sp saved a b = record { pc = a; regs = set_words 32 _ 10 _ (flag saved) (set_words 32 _ 2 sp b no_regs_fit) }
  where
    flag : (b : Bool) → IsWord (cond b 1 0)
    flag true = omega arith
    flag false = omega arith

returned_fits : (os : Context) (how cause value : ℕ) → how < 2 → IsWord cause → IsWord value → IsContext os → IsContext (returned os how cause value)
returned_fits os how cause value h a b x = record { pc = x.pc; regs = set_words 32 _ 13 value b (set_words 32 _ 12 cause a (set_words 32 _ 11 how (omega arith) (set_words 32 _ 10 0 (omega arith) x.regs))) }

restored_fits : (saved : List ℕ) → AreWords 33 saved → IsContext (restored_context saved)
restored_fits saved h =
    let some : AreWords 31 (take 31 (drop 1 saved)) = part saved 1 31 33 (omega arith) h in
    let many = some.many in
    record { pc = all_at IsWord saved 0 (omega arith) h.fit; regs = record { many = omega arith; fit = (omega arith, some.fit) } }

-- the words that an aex saves
pub saved_fits : (x : Context) (cause : ℕ) → IsContext x → IsWord cause → IsCall (calls.Aex (saved_context x cause))
saved_fits x cause h w = record { words = (h.pc, all_append IsWord (drop 1 x.regs) (cause ∷ []) (behind x.regs h.regs.fit) (w, tt)); all = count }
  where
    behind : (ws : List ℕ) → AllByRecursion IsWord ws → AllByRecursion IsWord (drop 1 ws)
    behind [] f = tt
    behind (v ∷ vs) f = f.1

    count : length (saved_context x cause) ≡ 33
    count = let many = h.regs.many in simp (length-append, length-drop) (omega arith)

-- ---- what a call does to its core

-- the numbers of what a call does are words
abbrev pub IsChange : After → Type 0
IsChange afters.Nothing = Unit {0}
IsChange afters.Cleared = Unit {0}
IsChange (afters.Entered entry sp base size root saved) = IsWord entry × IsWord sp
IsChange afters.Left = Unit {0}
IsChange (afters.Restored saved) = AreWords 33 saved

change_fits : (known : State) (core : ℕ) (call : Call) → AreInRange known → IsChange (ok_change known core call)
change_fits known core (calls.Enter e t) h = ((h.thread t).entry, (h.thread t).sp)
change_fits known core calls.Restore h = (h.thread (own_thread (mode_of known core))).saved
change_fits known core calls.Flush h = tt
change_fits known core (calls.SetSatp v) h = tt
change_fits known core calls.Exit h = tt
change_fits known core (calls.Aex saved) h = tt
change_fits known core _ h = tt

pub changed_fits : (b : Bool) (known : State) (core : ℕ) (call : Call) → AreInRange known → IsChange (change_by b known core call)
changed_fits true known core call h = change_fits known core call h
changed_fits false known core call h = tt

-- the value that a machine's exit gives
abbrev pub IsOrigin : Origin → Type 0
IsOrigin origins.Line = Unit {0}
IsOrigin origins.Guest = Unit {0}
IsOrigin (origins.Machine value) = IsWord value

value_fits : (origin : Origin) → IsOrigin origin → IsWord (exit_value origin)
value_fits origins.Line h = omega arith
value_fits origins.Guest h = omega arith
value_fits (origins.Machine value) h = h

abbrev IsLeaving : Leaving → Type 0
IsLeaving leavings.Exit = Unit {0}
IsLeaving (leavings.Aex cause value) = IsWord cause × IsWord value

leaving_fits : (origin : Origin) (call : Call) → IsOrigin origin → IsCall call → IsLeaving (leaving_of origin call)
leaving_fits origin (calls.Aex saved) h c = (all_at IsWord saved 32 (omega arith) c.words, value_fits origin h)
leaving_fits origin _ h c = tt

back_fits : (leaving : Leaving) (os : Context) → IsLeaving leaving → IsContext os → IsContext (os_given_back leaving os)
back_fits leavings.Exit os h x = returned_fits os 0 0 0 (omega arith) (omega arith) (omega arith) x
back_fits (leavings.Aex cause value) os h x = returned_fits os 1 cause value (omega arith) h.0 h.1 x

after_fits : (c : Contexts) (change : After) (leaving : Leaving) → IsChange change → IsLeaving leaving → AreContexts c → AreContexts (contexts_after c change leaving)
after_fits c afters.Nothing leaving h l x = x
after_fits c afters.Cleared leaving h l x = x
after_fits c (afters.Entered entry sp base size root saved) leaving h l x = record { current = entered_fits entry sp saved h.0 h.1; os = x.current }
after_fits c afters.Left leaving h l x = record { current = back_fits leaving c.os l x.os; os = x.os }
after_fits c (afters.Restored saved) leaving h l x = record { current = restored_fits saved h; os = x.os }

pub advanced_fits : (x : Context) → IsContext x → IsContext (advanced x)
advanced_fits x h = record { pc = omega arith; regs = h.regs }

replied_fits : (x : Context) (reply : Reply) → IsReply reply → IsContext x → IsContext (replied x reply)
replied_fits x reply r h = record { pc = omega arith; regs = more_words 32 (reply_words reply) x.regs 10 r.words h.regs }

answered_fits : (c : Contexts) (change : After) (reply : Reply) → IsReply reply → AreContexts c → AreContexts (answered c change reply)
answered_fits c afters.Nothing reply r x = record { current = replied_fits c.current reply r x.current; os = x.os }
answered_fits c afters.Cleared reply r x = record { current = replied_fits c.current reply r x.current; os = x.os }
answered_fits c (afters.Entered entry sp base size root saved) reply r x = record { current = x.current; os = advanced_fits c.os x.os }
answered_fits c afters.Left reply r x = x
answered_fits c (afters.Restored saved) reply r x = x

told_fits : (origin : Origin) (change : After) (reply : Reply) (c : Contexts) → IsReply reply → AreContexts c → AreContexts (told origin change reply c)
told_fits origins.Line change reply c r x = x
told_fits origins.Guest change reply c r x = answered_fits c change reply r x
told_fits (origins.Machine value) change reply c r x = x

pub contexts_fit : (origin : Origin) (call : Call) (change : After) (reply : Reply) (c : Contexts) → IsOrigin origin → IsCall call → IsChange change → IsReply reply → AreContexts c → AreContexts (contexts_by origin call change reply c)
contexts_fit origin call change reply c h is f r x =
    told_fits origin change reply (contexts_after c change (leaving_of origin call)) r (after_fits c change (leaving_of origin call) f (leaving_fits origin call h is) x)

-- ---- the start, and lines

pub begun_contexts_fit : (core : ℕ) (start : Start) → core < 2 ^ 64 → IsWideStart start → AreContexts (begun_contexts core start)
begun_contexts_fit core start less wide = record { current = begun_fits core start less wide; os = begun_fits core start less wide }

pub register_fits : (x : Context) (r value : ℕ) → IsWord value → IsContext x → IsContext (with_register x r value)
register_fits x r value w h = by (r == 0)
  where
    by : (b : Bool) → IsContext (cond b x (record x { regs = slice_set x.regs r value }))
    by true = h
    by false = record { pc = h.pc; regs = set_words 32 x.regs r value w h.regs }

pub pc_fits : (mode : Mode) (x : Context) (pc : ℕ) → IsWord pc → IsContext x → IsContext (pc_by mode x pc)
pc_fits modes.Os x pc w h = record { pc = w; regs = h.regs }
pc_fits (modes.Inside e t) x pc w h = h

pub reg_fits : (mode : Mode) (x : Context) (r value : ℕ) → IsWord value → IsContext x → IsContext (reg_by mode x r value)
reg_fits modes.Os x r value w h = register_fits x r value w h
reg_fits (modes.Inside e t) x r value w h = h
