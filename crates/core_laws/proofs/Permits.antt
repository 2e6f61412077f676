-- A course of which each move is permitted, whatever outcomes came before; and how a core stands to its moves, between two
-- of them of which none is in a call.
use Rattle.std.proofs.Common.{◌≡◌, ◌+◌, ◌<◌, ◌≤◌, ℕ, true, Option, Some, None, List, [], ◌∷◌, sym, subst, arith}
use Rattle.std.specs.List.{AllByRecursion}
use Rattle.mon_types.specs.Shape.{Shape, page_total, region_of_page}
use Rattle.mon_types.specs.Words.{AreWords}
use Rattle.lock_plan.specs.Objects.{IsCaller}
use Rattle.core_context.specs.declared.context.Context.{Context}
use Rattle.core_context.specs.declared.contexts.Contexts.{Contexts}
use Rattle.tlb.specs.declared.entry.Entry.{Entry}
use Rattle.protocol.specs.declared.action.Action.{Action}
use Rattle.protocol.specs.declared.action.Action.TheVariants as actions
use Rattle.protocol.specs.declared.action.Move.{Move}
use Rattle.protocol.specs.declared.action.Move.TheVariants as moves
use Rattle.protocol.specs.declared.action.Outcome.{Outcome}
use Rattle.protocol.specs.Views.{Moves, core_log, answers_of, call_moves, has_touched, next_serial, mode_in, own_lock_word}
use Rattle.protocol.specs.Permitted.{Permitted, most_entries}
use Rattle.core_behaviour.specs.Course.{Course, Ends, Acts, first_of, behind, left_of, IsBegun}
use Rattle.core_behaviour.specs.declared.exit.Exit.{Exit}
use Rattle.core_behaviour.specs.Core.{Core}
use Rattle.core_behaviour.proofs.Stopping.{none_first, acts_first, acts_none}
use Rattle.core_laws.specs.Outcomes.{IsWord, MayAnswer, AreAnswered}

-- ---- the course

-- what a move of a call writes is a word
abbrev pub ActionFits : ℕ → Moves → Action → Type 0
ActionFits core ms (actions.TryLock o) = IsWord (own_lock_word core ms)
ActionFits core ms (actions.Read o i) = Unit {0}
ActionFits core ms (actions.Write o i word) = IsWord word
ActionFits core ms (actions.Draw draft) = Unit {0}
ActionFits core ms (actions.Unlock o) = Unit {0}
ActionFits core ms (actions.Load i) = Unit {0}
ActionFits core ms (actions.Store i word) = IsWord word

-- what any move does
abbrev pub MoveFits : ℕ → Moves → Move → Type 0
MoveFits core ms (moves.InCall a) = ActionFits core ms a
MoveFits core ms (moves.Look r owner) = Unit {0}
MoveFits core ms (moves.Load i) = Unit {0}
MoveFits core ms (moves.Store i word) = IsWord word
MoveFits core ms (moves.Swap i loaded word) = IsWord word
MoveFits core ms (moves.Stop line why) = Unit {0}

-- a core that has made these moves may make all that follows, and no call is under way at its end
abbrev pub IsPermitted : Shape → ℕ → Moves → Course → Type 0
IsPermitted shape core ms Ends = call_moves ms ≡ []
IsPermitted shape core ms (Acts move next) =
    Permitted shape core ms move × MoveFits core ms move
    × ((outcome : Outcome) → MayAnswer move outcome → IsPermitted shape core ((move, outcome) ∷ ms) (next outcome))

-- what is left is permitted too
later : (shape : Shape) (core : ℕ) (ms : Moves) (course : Course) (move : Move) (outcome : Outcome) → IsPermitted shape core ms course → first_of course ≡ Some move → MayAnswer move outcome → IsPermitted shape core ((move, outcome) ∷ ms) (behind course outcome)
unfolding behind
later shape core ms Ends move outcome p e m = none_first move _ e
later shape core ms (Acts other next) move outcome p e m =
    let same : other ≡ move = acts_first other move next e in
    subst (λ z. IsPermitted shape core ((z, outcome) ∷ ms) (next outcome)) same (p.2 outcome (subst (λ z. MayAnswer z outcome) (sym same) m))

pub left_permitted : (shape : Shape) (core : ℕ) (course : Course) (ms : Moves) → IsPermitted shape core [] course → IsBegun course ms → AreAnswered ms → IsPermitted shape core ms (left_of course ms)
unfolding left_of
left_permitted shape core course [] p b a = p
left_permitted shape core course (m ∷ ms) p b a = later shape core ms (left_of course ms) m.0 m.1 (left_permitted shape core course ms p b.0 a.1) b.1 a.0

-- the next move, or the end
pub record IsNextMove (shape : Shape) (core : ℕ) (ms : Moves) (move : Move) : Type 0 where
  pub permitted : Permitted shape core ms move
  pub fits : MoveFits core ms move

pub next_permitted : (shape : Shape) (core : ℕ) (ms : Moves) (course : Course) (move : Move) → IsPermitted shape core ms course → first_of course ≡ Some move → IsNextMove shape core ms move
next_permitted shape core ms Ends move p e = none_first move _ e
next_permitted shape core ms (Acts other next) move p e = subst (IsNextMove shape core ms) (acts_first other move next e) (record { permitted = p.0; fits = p.1 })

pub end_rests : (shape : Shape) (core : ℕ) (ms : Moves) (course : Course) → IsPermitted shape core ms course → first_of course ≡ None → call_moves ms ≡ []
end_rests shape core ms Ends p e = p
end_rests shape core ms (Acts move next) p e = acts_none move next _ e

-- ---- a core

-- a pc and 32 registers of 64 bits
pub record IsContext (x : Context) : Type 0 where
  pub pc : IsWord x.pc
  pub regs : AreWords 32 x.regs

pub record AreContexts (x : Contexts) : Type 0 where
  pub current : IsContext x.current
  pub os : IsContext x.os

abbrev pub IsPending : Option Exit → Type 0
IsPending None = Unit {0}
IsPending (Some exit) = IsWord exit.cause × IsWord exit.value

-- a page that a cached translation leads to: its region is in a touched period
pub record IsCached (shape : Shape) (core : ℕ) (ms : Moves) (page : ℕ) : Type 0 where
  pub there : page < page_total shape
  pub since : ℕ
  pub touched : has_touched core ms (region_of_page shape page) since ≡ true

abbrev pub AreCached : Shape → ℕ → Moves → List Entry → Type 0
AreCached shape core ms es = AllByRecursion (λ e. IsCached shape core ms e.page) es

-- A core is what its moves make of it, no call of it is under way, its numbers are words, and it may make so many calls
-- more.
pub record Agrees (shape : Shape) (core calls : ℕ) (ms : Moves) (c : Core) : Type 0 where
  pub number : c.number ≡ core
  pub log : c.log ≡ core_log core ms
  pub answers : c.answers ≡ answers_of ms
  pub idle : call_moves ms ≡ []
  pub room : next_serial core ms + calls ≤ most_entries
  pub caller : IsCaller shape core (mode_in core ms)
  pub contexts : AreContexts c.contexts
  pub pending : IsPending c.pending
  pub cached : AreCached shape core ms c.cache

-- what follows is permitted, wherever a core stands so
abbrev pub Follow : Shape → ℕ → ℕ → (Core → Course) → Type 0
Follow shape core calls next = (ms : Moves) (c : Core) → Agrees shape core calls ms c → IsPermitted shape core ms (next c)

-- fewer calls will do
pub fewer : (shape : Shape) (core more calls : ℕ) (ms : Moves) (c : Core) → calls ≤ more → Agrees shape core more ms c → Agrees shape core calls ms c
fewer shape core more calls ms c le a = record {
  number = a.number;
  log = a.log;
  answers = a.answers;
  idle = a.idle;
  room = (let r = a.room in omega arith);
  caller = a.caller;
  contexts = a.contexts;
  pending = a.pending;
  cached = a.cached;
}
