-- When a call ends.
use Rattle.std.proofs.Common.{◌≡◌, ◌∙◌, ◌+◌, ◌≤◌, ℕ, None, List, ◌∷◌, ◌++◌, get_or, Option, Some, drop, length, ap, sym, refl, subst, arith}
use Rattle.mon_types.specs.Objects.{width}
use Rattle.mon_types.specs.declared.object.ObjectId.{ObjectId}
use Rattle.mon_types.specs.declared.object.ObjectId.TheVariants as objects
use Rattle.protocol.specs.declared.action.Outcome.{Outcome}
use Rattle.protocol.specs.CallTree.{Tree, Over, Makes, lock, zeros, loaded}
use Rattle.protocol.specs.declared.action.Action.{Action}
use Rattle.mon_types.specs.Sizes.{page_words}
use Rattle.mon_types.specs.declared.region.Region.TheVariants as regions
use Rattle.mon_model.specs.Tries.{freed_by}
use Rattle.mon_enclaves.specs.LoadReply.{va_of, source_of}
use Rattle.call_machine.specs.Rest.{early_own, early_write, early_rest, places, writes_from, unlocks_of}
use Rattle.call_machine.specs.declared.phase.Phase.{Phase}
use Rattle.call_machine.specs.declared.phase.Phase.TheVariants as phases
use Rattle.call_machine.specs.declared.work.Work.{Work}
use Rattle.call_machine.specs.Meaning.{phase_tree, tree_of, issuer, found, known, objects_in, ptes_in, row_part, goes_on, copies, copied, target_of, refuses, draws, IsOutcome, phase_found, PhaseFinds, IsFoundBy}
use Rattle.mon_records.specs.Rows.{Found}
use Rattle.call_machine.specs.Count.{phase_left}
use Rattle.call_machine.specs.Stands.{phase_stands}
use Rattle.call_machine.proofs.At.{objects_many}
use Rattle.call_machine.proofs.Heads.{copy_step, walk_step}
use Rattle.call_machine.proofs.Steps.{reads_step, places_many, writes_one, early_step, unlocks_step, words_here}

pub over_tree : (w : Work) → w.phase ≡ phases.Over → tree_of w ≡ Over
unfolding phase_tree
over_tree w e = ap (phase_tree w) e

more : {P : Type 0} (t : Tree) (a : Action) (k : Outcome → Tree) → t ≡ Makes a k → t ≡ Over → P
more t a k e f = clash (sym e ∙ f)
  where
    clash : {P : Type 0} → Makes a k ≡ Over → P
    clash g = absurd (cc)

writes_early : {P : Type 0} (o : Option ℕ) (os : List ObjectId) (r : ℕ) (stood : List ℕ) (next : List ℕ → Tree) → (o ≡ None → ⊥) → early_write o os r stood next ≡ Over → P
unfolding early_write
writes_early None os r stood next ne e = absurd (ne refl)
writes_early (Some word) os r stood next ne e = absurd (cc)

withdrawn : (o : Option ℕ) (os : List ObjectId) (r : ℕ) (stood : List ℕ) (next : List ℕ → Tree) (out : Outcome) (before rows now : Found) → (o ≡ None → ⊥) → IsFoundBy (early_write o os r stood next) out before rows now
unfolding early_write IsFoundBy
withdrawn None os r stood next out before rows now ne = absurd (ne refl)
withdrawn (Some word) os r stood next out before rows now ne = tt

-- while the phase is another, moves are left
pub ends_over : (w : Work) (p : Phase) → phase_stands w p → phase_tree w p ≡ Over → p ≡ phases.Over
unfolding phase_tree phase_stands lock refuses draws copies zeros
ends_over w (phases.Tries o) d e = absurd (cc)
ends_over w (phases.Reads o at) d e = more _ _ _ (reads_step o (width o) at (λ words. goes_on w.config (issuer w) w.call ((o, row_part w ++ words) ∷ found w)) d.at) e
ends_over w (phases.Walks page level count) d e = more _ _ _ (walk_step w.config (va_of w.call) level count page (λ rest. loaded (issuer w) w.call (known w) (found w) (ptes_in w ++ rest)) d.some) e
ends_over w (phases.Loads at) d e = more _ _ _ (copy_step page_words at (source_of w.call) (target_of w.call) (λ words. copied w (w.page.items ++ words)) d.1) e
ends_over w (phases.Stores at word) d e = absurd (cc)
ends_over w (phases.Puts place) d e = absurd (cc)
ends_over w (phases.Early at) d e =
    let p = get_or w.held.regions.items at (0, regions.Free) in
    writes_early (early_own w.call p.1) (objects_in w) p.0 w.stood.items (λ now. early_rest w.call (objects_in w) (drop (at + 1) w.held.regions.items) now (draws w w.input)) d.3
    (sym (early_step w.call (objects_in w) w.held.regions.items at (0, regions.Free) w.stood.items (draws w w.input) d.2) ∙ e)
ends_over w phases.Refuses d e = absurd (cc)
ends_over w phases.Draws d e = absurd (cc)
ends_over w (phases.Zeros word) d e =
    more _ _ _ (ap (λ l. zeros l (writes_from (places (objects_in w)) w.stood.items w.wanted.items 0 (unlocks_of (objects_in w)))) (words_here w.config (freed_by w.call) word d.1 d.2)) e
ends_over w (phases.Late at) d e =
    more _ _ _ (writes_one (places (objects_in w)) w.stood.items w.wanted.items at (objects.Enclave 0, 0) (unlocks_of (objects_in w)) (omega (arith, places_many (objects_in w), d.0.long, d.1)) d.2) e
ends_over w (phases.Unlocks count) d e = more _ _ _ (unlocks_step (objects_in w) count (objects.Enclave 0) d.0 (omega (arith, objects_many w, d.1))) e
ends_over w phases.Over d e = refl

-- where there is an outcome to take, a move is counted
pub some_left : (w : Work) (p : Phase) (out : Outcome) → phase_stands w p → IsOutcome (phase_tree w p) out → 1 ≤ phase_left w p
unfolding phase_tree phase_stands phase_left
some_left w (phases.Tries o) out d h = omega arith
some_left w (phases.Reads o at) out d h = omega arith
some_left w (phases.Walks page level count) out d h = omega arith
some_left w (phases.Loads at) out d h = omega arith
some_left w (phases.Stores at word) out d h = omega arith
some_left w (phases.Puts place) out d h = omega arith
some_left w (phases.Early at) out d h = omega arith
some_left w phases.Refuses out d h = omega arith
some_left w phases.Draws out d h = omega arith
some_left w (phases.Zeros word) out d h = omega (arith, ap (λ l. length l) (words_here w.config (freed_by w.call) word d.1 d.2))
some_left w (phases.Late at) out d h = omega (arith, d.1)
some_left w (phases.Unlocks count) out d h = omega (arith, d.0)
some_left w phases.Over out d h = absurd h

-- what a phase finds is what its move finds
pub finds_by : (w : Work) (p : Phase) (out : Outcome) (now : Found) → phase_stands w p → w.ends ≡ None → PhaseFinds w p out now → IsFoundBy (phase_tree w p) out (phase_found w p) (found w) now
unfolding phase_tree phase_stands IsFoundBy lock refuses draws copies
finds_by w (phases.Tries o) out now d e f = f
finds_by w (phases.Reads o at) out now d e f =
    subst (λ t. IsFoundBy t out ((o, row_part w) ∷ found w) (found w) now) (sym (reads_step o (width o) at (λ words. goes_on w.config (issuer w) w.call ((o, row_part w ++ words) ∷ found w)) d.at)) f
finds_by w (phases.Walks page level count) out now d e f =
    subst (λ t. IsFoundBy t out (found w) (found w) now) (sym (walk_step w.config (va_of w.call) level count page (λ rest. loaded (issuer w) w.call (known w) (found w) (ptes_in w ++ rest)) d.some)) f
finds_by w (phases.Loads at) out now d e f =
    subst (λ t. IsFoundBy t out (found w) (found w) now) (sym (copy_step page_words at (source_of w.call) (target_of w.call) (λ words. copied w (w.page.items ++ words)) d.1)) f
finds_by w (phases.Stores at word) out now d e f = f
finds_by w (phases.Puts place) out now d e f = f
finds_by w (phases.Early at) out now d e f =
    let p = get_or w.held.regions.items at (0, regions.Free) in
    subst (λ t. IsFoundBy t out (found w) (found w) now) (sym (early_step w.call (objects_in w) w.held.regions.items at (0, regions.Free) w.stood.items (draws w w.input) d.2))
    (withdrawn (early_own w.call p.1) (objects_in w) p.0 w.stood.items (λ now. early_rest w.call (objects_in w) (drop (at + 1) w.held.regions.items) now (draws w w.input)) out (found w) (found w) now d.3)
finds_by w phases.Refuses out now d e f = refl
finds_by w phases.Draws out now d e f = refl
finds_by w (phases.Zeros word) out now d e f = absurd (d.0.ends e)
finds_by w (phases.Late at) out now d e f = absurd (d.0.ends e)
finds_by w (phases.Unlocks count) out now d e f = absurd (d.2 e)
finds_by w phases.Over out now d e f = f
