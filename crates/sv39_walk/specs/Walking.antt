-- The walk as it is made, one page-table entry (pte) after the other: what is left of it at each moment. This
-- project's own. The laws say that it is the relation of all levels.
use Rattle.std.specs.Prelude.{ℕ, ◌-◌, ◌<◌, ⊤, true, if◌then◌else◌}
use Rattle.mon_types.specs.declared.thread.Mode.{Mode}
use Rattle.sv39_pte.specs.declared.pte.Access.{Access}
use Rattle.sv39_pte.specs.declared.pte.Kind.{Kind}
use Rattle.sv39_pte.specs.declared.pte.Kind.TheVariants as kinds
use Rattle.sv39_pte.specs.Pte.{classified}
use Rattle.sv39_walk.specs.declared.walk.WalkState.{WalkState}
use Rattle.sv39_walk.specs.declared.walk.WalkState.TheVariants as states
use Rattle.sv39_walk.specs.Relation.{vpn_of, is_canonical, pte_address, page_in_leaf}

-- What is left of a walk: the address, the access and its mode, where it stands, and the level of the table whose pte
-- it asks for, or asked for last.
pub record Walking : Type 0 where
  pub va : ℕ
  pub access : Access
  pub mode : Mode
  pub level : ℕ
  pub state : WalkState

-- the walk asks for a pte
abbrev pub IsWish : WalkState → Type 0
IsWish (states.Wish address) = ⊤
IsWish (states.Found page load store fetch) = ⊥
IsWish states.PageFault = ⊥

-- the walk is over
abbrev pub IsEnd : WalkState → Type 0
IsEnd (states.Wish address) = ⊥
IsEnd (states.Found page load store fetch) = ⊤
IsEnd states.PageFault = ⊤

-- where a walk stands at its begin: it asks for the root's pte, unless the address has no page
abbrev pub first_state : ℕ → ℕ → WalkState
first_state root va = if is_canonical va then states.Wish (pte_address root 2 va) else states.PageFault

-- a walk at its begin
abbrev pub begun : ℕ → ℕ → Access → Mode → Walking
begun root va access mode =
    record { va = va; access = access; mode = mode; level = 2; state = first_state root va }

-- a walk after a pte of this kind
abbrev pub after_kind : Walking → Kind → Walking
after_kind w (kinds.Pointer ppn) =
    record w { level = w.level - 1; state = states.Wish (pte_address ppn (w.level - 1) w.va) }
after_kind w (kinds.Leaf ppn load store fetch) =
    record w { state = states.Found (page_in_leaf ppn w.level w.va) load store fetch }
after_kind w kinds.Fault = record w { state = states.PageFault }

-- a walk after a pte
abbrev pub answered : Walking → ℕ → Walking
answered w pte = after_kind w (classified pte w.level w.access w.mode)

-- a kind that leads down has a level below it
abbrev pub HasLevelBelow : Kind → ℕ → Type 0
HasLevelBelow (kinds.Pointer ppn) level = 0 < level
HasLevelBelow (kinds.Leaf ppn load store fetch) level = ⊤
HasLevelBelow kinds.Fault level = ⊤

-- where Bare, which walks no tables, leads: an address is translated to itself with all permissions
abbrev pub bare : ℕ → WalkState
bare va = states.Found (vpn_of va) true true true
