-- What a move finds: lock words that are free or some call's, and tickets that are left. This project's own.
use Rattle.std.specs.Prelude.{◌≡◌, ◌⊎◌, ℕ, ◌-◌, ◌^◌, ◌<◌, ⊤}
use Rattle.mon_types.specs.Locks.{IsLock}
use Rattle.protocol.specs.declared.action.Action.{Action}
use Rattle.protocol.specs.declared.action.Action.TheVariants as actions
use Rattle.protocol.specs.declared.action.Move.{Move}
use Rattle.protocol.specs.declared.action.Move.TheVariants as moves

-- the lock word of some call
pub record IsHeldWord (word : ℕ) : Type 0 where
  pub core : ℕ
  pub serial : ℕ
  pub lock : IsLock word core serial

-- the word of a lock: free, or held by some call
abbrev pub IsLockWord : ℕ → Type 0
IsLockWord word = (word ≡ 0) ⊎ IsHeldWord word

-- a move of a call may find this word
abbrev pub ActionFinds : Action → ℕ → Type 0
ActionFinds (actions.TryLock o) found = IsLockWord found
ActionFinds (actions.Draw draft) found = found < 2 ^ 32 - 1
ActionFinds _ found = ⊤

-- any move may find it
abbrev pub Finds : Move → ℕ → Type 0
Finds (moves.InCall a) found = ActionFinds a found
Finds _ found = ⊤
