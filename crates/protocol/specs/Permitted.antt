-- Which move a view may make next. This project's own.
use Rattle.std.specs.Prelude.{◌≡◌, ℕ, ◌<◌, ⊤, true, List, [], ◌∷◌}
use Rattle.mon_types.specs.Shape.{Shape}
use Rattle.mon_types.specs.declared.region.Owner.{Owner}
use Rattle.mon_types.specs.declared.call.Call.{Call}
use Rattle.mon_records.specs.Ranges.{IsCall}
use Rattle.dram_map.specs.Addresses.{word_total, region_of_word}
use Rattle.hist.specs.SafeLog.{IsOpenTo}
use Rattle.protocol.specs.declared.action.Action.{Action}
use Rattle.protocol.specs.declared.action.Action.TheVariants as actions
use Rattle.protocol.specs.declared.action.Move.{Move}
use Rattle.protocol.specs.declared.action.Move.TheVariants as moves
use Rattle.protocol.specs.declared.action.Outcome.{Outcome}
use Rattle.protocol.specs.CallTree.{Tree, Makes, call_tree}
use Rattle.protocol.specs.Views.{Moves, call_moves, issuer_of, has_touched, next_serial, mode_in}

-- the tree leads to this one by these moves and outcomes, the newest first
abbrev pub Follows : Tree → List (Action × Outcome) → Tree → Type 0
Follows tree [] rest = tree ≡ rest
Follows tree (m ∷ ms) rest = (next : Outcome → Tree) × Follows tree ms (Makes m.0 next) × (next m.1 ≡ rest)

-- how many entries a view has at most
abbrev pub most_entries : ℕ
most_entries = 16384

-- a Draw needs a serial below 16,384
abbrev pub HasSerial : ℕ → Action → Type 0
HasSerial serial (actions.Draw draft) = serial < most_entries
HasSerial serial _ = ⊤

-- The call under way, or the first move of the next: the moves of some call, made by the core as it was before its
-- first move, are those so far and then this one. The call's numbers are words, and an aex has 33. The draft of a Draw
-- is that of the tree, with the call, the serial, the tried objects, the reply and the page.
pub record MayGoOn (shape : Shape) (core : ℕ) (ms : Moves) (action : Action) : Type 0 where
  pub call : Call
  pub next : Outcome → Tree
  pub is_call : IsCall call
  pub follows : Follows (call_tree shape (issuer_of core ms) call) (call_moves ms) (Makes action next)
  pub serial : HasSerial (next_serial core ms) action

-- while no call is under way, a look at a region of the machine for the OS or for the enclave that the core is inside
pub record MayLook (shape : Shape) (core : ℕ) (ms : Moves) (r : ℕ) (whom : Owner) : Type 0 where
  pub outside : call_moves ms ≡ []
  pub region : r < shape.regions
  pub for_whom : IsOpenTo (mode_in core ms) whom

-- while no call is under way, a move on a word of DRAM whose region is in a touched period
pub record MayReach (shape : Shape) (core : ℕ) (ms : Moves) (i : ℕ) : Type 0 where
  pub outside : call_moves ms ≡ []
  pub word : i < word_total shape
  pub since : ℕ
  pub touched : has_touched core ms (region_of_word shape i) since ≡ true

-- what a core that has made these moves may do next; it may stop at any time
abbrev pub Permitted : Shape → ℕ → Moves → Move → Type 0
Permitted shape core ms (moves.InCall a) = MayGoOn shape core ms a
Permitted shape core ms (moves.Look r owner) = MayLook shape core ms r owner
Permitted shape core ms (moves.Load i) = MayReach shape core ms i
Permitted shape core ms (moves.Store i value) = MayReach shape core ms i
Permitted shape core ms (moves.Swap i loaded value) = MayReach shape core ms i
Permitted shape core ms (moves.Stop line why) = ⊤
