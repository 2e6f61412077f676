-- Records are gathered one object after the other.
use Rattle.std.proofs.Common.{◌≡◌, ℕ, ◌-◌, ◌<◌, Option, Some, None, IfSome, List, [], ◌∷◌, ◌++◌, length, slice_get, refl, sym, ap, ◌∙◌, subst, append-nil, length-append, arith}
use Rattle.mon_types.specs.Shape.{Shape}
use Rattle.mon_types.specs.declared.thread.Mode.{Mode}
use Rattle.mon_types.specs.declared.thread.Mode.TheVariants as modes
use Rattle.mon_types.specs.declared.call.Call.{Call}
use Rattle.mon_types.specs.declared.object.ObjectId.{ObjectId}
use Rattle.mon_types.specs.declared.object.Tried.{Tried}
use Rattle.mon_model.specs.State.{State, mode_of}
use Rattle.mon_model.specs.Tries.{add_tried, tried_set, tries}
use Rattle.mon_facts.specs.Tables.{NamesSlots, AreTables}
use Rattle.lock_plan.specs.declared.held.Held.{Held}
use Rattle.lock_plan.specs.EveryPlan.{count_records, one_more}
use Rattle.lock_plan.specs.Laws.{AddsTried}
use Rattle.lock_plan.specs.Objects.{IsCaller, HasPlace}
use Rattle.lock_plan.specs.Plan.{held_count}
use Rattle.lock_plan.specs.Records.{records_of, with_record, HoldsFront, IsNext, HasRoom, LeavesRoom}
use Rattle.lock_plan.proofs.Sets.{one_more_is_tried}

-- a core of the machine
caller_in : (shape : Shape) (core : ℕ) (mode : Mode) → core < shape.cores → NamesSlots mode → IsCaller shape core mode
caller_in shape core modes.Os there named = record { there = there; slot = omega arith; thread = omega arith }
caller_in shape core (modes.Inside e t) there named = record { there = there; slot = named.0; thread = named.1 }

pub caller : (s : State) (core : ℕ) → AreTables s → core < s.shape.cores → IsCaller s.shape core (mode_of s core)
caller s core tables there = caller_in s.shape core (mode_of s core) there (tables.slots core modes.Os (omega (arith, tables.whole.modes)))

-- the first objects that the call tries are in these sets, and these are their records
pub record IsGathered (s : State) (core : ℕ) (call : Call) (tried : Tried) (held : Held) : Type 0 where
  pub front : List ObjectId
  pub rest : List ObjectId
  pub holds : HoldsFront s core call held front rest
  pub sets : tried ≡ tried_set front

some_is : (x y : ObjectId) → Some x ≡ Some y → x ≡ y
some_is x y e = cc

pub begins_with : (xs : List ObjectId) (x : ObjectId) → slice_get xs 0 ≡ Some x → (rest : List ObjectId) × (xs ≡ x ∷ rest)
begins_with [] x e = absurd (cc)
begins_with (y ∷ ys) x e = (ys, ap (λ (z : ObjectId). z ∷ ys) (some_is y x e))

pub none_left : (xs : List ObjectId) → slice_get xs 0 ≡ None → xs ≡ []
none_left [] e = refl
none_left (y ∷ ys) e = absurd (cc)

-- ---- one more object

pub record OneMore (s : State) (core : ℕ) (call : Call) (tried : Tried) (held : Held) (x : ObjectId) : Type 0 where
  pub place : HasPlace tried x
  pub gathered : IsGathered s core call (add_tried x tried) (with_record s x held)
  pub fewer : length (tries s core call) - held_count (with_record s x held) < length (tries s core call) - held_count held

pub one_more_gathered : (s : State) (core : ℕ) (mode : Mode) (call : Call) (tried : Tried) (held : Held) (shape : Shape) (answer : Option ObjectId) (x : ObjectId)
    → AreTables s → core < s.shape.cores → s.shape ≡ shape → mode_of s core ≡ mode → IsNext shape core mode call held answer → answer ≡ Some x → IsGathered s core call tried held → OneMore s core call tried held x
one_more_gathered s core mode call tried held shape answer x tables there machine in_mode next is g =
    let first : slice_get g.rest 0 ≡ Some x = sym (next s g.front g.rest machine in_mode g.holds) ∙ is in
    let more : (rest : List ObjectId) × (g.rest ≡ x ∷ rest) = begins_with g.rest x first in
    let holds : HoldsFront s core call held g.front (x ∷ more.0) = subst (λ (xs : List ObjectId). HoldsFront s core call held g.front xs) more.1 g.holds in
    let then : HoldsFront s core call (with_record s x held) (g.front ++ x ∷ []) more.0 = one_more s core call held g.front x more.0 holds in
    let adds : AddsTried g.front x = one_more_is_tried s core call g.front x more.0 tables.machine (caller s core tables there) holds.plan in
    let was : held_count held ≡ length g.front = ap held_count holds.records ∙ count_records s g.front in
    let now : held_count (with_record s x held) ≡ length (g.front ++ x ∷ []) = ap held_count then.records ∙ count_records s (g.front ++ x ∷ []) in
    let all : length (tries s core call) ≡ length (g.front ++ x ∷ more.0) = ap length holds.plan in record {
      place = subst (λ (t : Tried). HasPlace t x) (sym g.sets) adds.place;
      gathered = record { front = g.front ++ x ∷ []; rest = more.0; holds = then; sets = ap (add_tried x) g.sets ∙ adds.added };
      fewer = omega (arith, length-append g.front (x ∷ []), length-append g.front (x ∷ more.0));
    }

pub room_for : (s : State) (core : ℕ) (mode : Mode) (call : Call) (tried : Tried) (held : Held) (shape : Shape) (answer : Option ObjectId) (x : ObjectId)
    → s.shape ≡ shape → mode_of s core ≡ mode → LeavesRoom shape core mode call held answer → answer ≡ Some x → IsGathered s core call tried held → HasRoom held x
room_for s core mode call tried held shape answer x machine in_mode leaves is g =
    subst (λ (o : Option ObjectId). IfSome o (HasRoom held)) is (leaves s g.front g.rest machine in_mode g.holds)

-- ---- all objects

pub record AllGathered (s : State) (core : ℕ) (call : Call) (tried : Tried) (held : Held) : Type 0 where
  pub sets : tried ≡ tried_set (tries s core call)
  pub records : held ≡ records_of s (tries s core call)

pub all_gathered : (s : State) (core : ℕ) (mode : Mode) (call : Call) (tried : Tried) (held : Held) (shape : Shape) (answer : Option ObjectId)
    → s.shape ≡ shape → mode_of s core ≡ mode → IsNext shape core mode call held answer → answer ≡ None → IsGathered s core call tried held → AllGathered s core call tried held
all_gathered s core mode call tried held shape answer machine in_mode next is g =
    let none : g.rest ≡ [] = none_left g.rest (sym (next s g.front g.rest machine in_mode g.holds) ∙ is) in
    let all : tries s core call ≡ g.front = g.holds.plan ∙ ap (λ (xs : List ObjectId). g.front ++ xs) none ∙ append-nil g.front in record {
      sets = g.sets ∙ ap tried_set (sym all);
      records = g.holds.records ∙ ap (records_of s) (sym all);
    }
