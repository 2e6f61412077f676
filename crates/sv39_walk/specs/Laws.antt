-- Laws: the walk that is made one page-table entry (pte) after the other is the relation of all levels, which gives
-- one answer; and its addresses are the places of ptes in DRAM. This project's own.
use Rattle.std.specs.Prelude.{◌≡◌, ℕ, ◌<◌, ◌↔◌, List, [], ◌∷◌, ◌++◌, length, take, Some}
use Rattle.mon_types.specs.Shape.{Shape, page_total}
use Rattle.mon_types.specs.declared.thread.Mode.{Mode}
use Rattle.dram_map.specs.Addresses.{frame_of, word_of}
use Rattle.sv39_pte.specs.declared.pte.Access.{Access}
use Rattle.sv39_pte.specs.Tables.{pte_place}
use Rattle.sv39_walk.specs.declared.walk.WalkState.{WalkState}
use Rattle.sv39_walk.specs.declared.walk.WalkState.TheVariants as states
use Rattle.sv39_walk.specs.Relation.{WalkRelation, pte_address}
use Rattle.sv39_walk.specs.Walking.{Walking, IsEnd, begun, answered}

-- ---- the walk that is made

-- a walk asks in turn for the ptes at these addresses, is answered by these, and then stands so
abbrev pub Answered : Walking → List ℕ → List ℕ → WalkState → Type 0
Answered w [] addresses state = (addresses ≡ []) × (w.state ≡ state)
Answered w (pte ∷ ptes) [] state = ⊥
Answered w (pte ∷ ptes) (address ∷ addresses) state =
    (w.state ≡ states.Wish address) × Answered (answered w pte) ptes addresses state

-- Whatever ptes answer a walk: it has come to an end, by asking for them at these addresses, exactly where the relation
-- gives these addresses and that end.
abbrev pub EndsByRelation : Type 0
EndsByRelation = (root va : ℕ) (access : Access) (mode : Mode) (ptes addresses : List ℕ) (end : WalkState)
    → (Answered (begun root va access mode) ptes addresses end × IsEnd end)
    ↔ WalkRelation root va access mode ptes addresses end

-- these ptes are the first of a walk's, found at these addresses, and the relation's next address is this
pub record AsksNext (root va : ℕ) (access : Access) (mode : Mode) (ptes addresses : List ℕ) (next : ℕ) : Type 0 where
  pub more : List ℕ
  pub later : List ℕ
  pub end : WalkState
  pub related : WalkRelation root va access mode (ptes ++ more) (addresses ++ next ∷ later) end
  pub one_each : length addresses ≡ length ptes

-- whatever ptes answer a walk: it asks for one at this address exactly where that is the relation's next address
abbrev pub WishesByRelation : Type 0
WishesByRelation = (root va : ℕ) (access : Access) (mode : Mode) (ptes addresses : List ℕ) (next : ℕ)
    → Answered (begun root va access mode) ptes addresses (states.Wish next)
    ↔ AsksNext root va access mode ptes addresses next

-- ---- the relation

-- the relation gives one number of ptes, one list of addresses and one end: walks whose ptes begin alike are alike
abbrev pub OneAnswer : Type 0
OneAnswer = (root va : ℕ) (access : Access) (mode : Mode) (ptes more addresses others : List ℕ) (end other : WalkState)
    → WalkRelation root va access mode ptes addresses end → WalkRelation root va access mode (ptes ++ more) others other
    → (more ≡ []) × (others ≡ addresses) × (other ≡ end)

-- so many of these ptes, found at these addresses, are those of a walk with this end
pub record HasWalk (root va : ℕ) (access : Access) (mode : Mode) (ptes : List ℕ) : Type 0 where
  pub count : ℕ
  pub addresses : List ℕ
  pub end : WalkState
  pub related : WalkRelation root va access mode (take count ptes) addresses end

-- three ptes are enough for every walk
abbrev pub AlwaysAnswers : Type 0
AlwaysAnswers = (root va : ℕ) (access : Access) (mode : Mode) (pte2 pte1 pte0 : ℕ)
    → HasWalk root va access mode (pte2 ∷ pte1 ∷ pte0 ∷ [])

-- ---- DRAM

-- in a table on a page of DRAM, an address's pte has the address of the word that is its place
abbrev pub AddressesArePlaces : Type 0
AddressesArePlaces = (shape : Shape) (page level va : ℕ) → page < page_total shape
    → word_of shape (pte_address (frame_of page) level va) ≡ Some (pte_place page level va)
