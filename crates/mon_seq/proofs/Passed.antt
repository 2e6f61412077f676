-- Objects are gathered one after the other, up to a lock.
use Rattle.std.proofs.Common.{◌≡◌, ℕ, ◌-◌, ◌<◌, Bool, true, false, Option, Some, None, List, [], ◌∷◌, ◌++◌, length, slice_get, refl, sym, ap, ◌∙◌, subst, append_assoc, append-nil, length-append, arith}
use Rattle.std.specs.Bool.{Decides}
use Rattle.mon_types.specs.Shape.{Shape}
use Rattle.mon_types.specs.declared.thread.Mode.{Mode}
use Rattle.mon_types.specs.declared.call.Call.{Call}
use Rattle.mon_types.specs.declared.reply.Reply.{Reply}
use Rattle.mon_types.specs.declared.object.ObjectId.{ObjectId}
use Rattle.mon_types.specs.declared.object.Tried.{Tried}
use Rattle.mon_model.specs.State.{State, mode_of}
use Rattle.mon_model.specs.Early.{early}
use Rattle.mon_model.specs.Tries.{add_tried, tried_set, tries, unless_refused, held_tries}
use Rattle.mon_facts.specs.Tables.{AreTables}
use Rattle.lock_plan.specs.declared.held.Held.{Held}
use Rattle.lock_plan.specs.EveryPlan.{count_records, one_more}
use Rattle.lock_plan.specs.Laws.{AddsTried}
use Rattle.lock_plan.specs.Objects.{HasPlace}
use Rattle.lock_plan.specs.Plan.{held_count}
use Rattle.lock_plan.specs.Records.{nothing_held, with_record, HoldsFront, IsNext, HasRoom, LeavesRoom}
use Rattle.lock_plan.proofs.Sets.{one_more_is_tried}
use Rattle.mon_seq.specs.UpTo.{IsFrontTo}
use Rattle.mon_seq.proofs.Gathered.{caller, begins_with, none_left, IsGathered, room_for}

-- among the objects that are left, behind those in front, the lock stands where the sets end
pub record IsLeft (lock : ObjectId) (wanted : Tried) (front rest : List ObjectId) : Type 0 where
  pub before : List ObjectId
  pub behind : List ObjectId
  pub rest_is : rest ≡ before ++ lock ∷ behind
  pub wanted_is : wanted ≡ tried_set (front ++ (before ++ lock ∷ []))

-- the first objects that the call tries are in these sets, and these are their records; if the lock stands where the
-- wanted sets end, it is left
pub record IsPassed (s : State) (core : ℕ) (call : Call) (lock : ObjectId) (wanted tried : Tried) (held : Held) : Type 0 where
  pub front : List ObjectId
  pub rest : List ObjectId
  pub holds : HoldsFront s core call held front rest
  pub sets : tried ≡ tried_set front
  pub left : IsFrontTo lock (tries s core call) wanted → IsLeft lock wanted front rest

pub nothing_passed : (s : State) (core : ℕ) (call : Call) (lock : ObjectId) (wanted : Tried) → IsPassed s core call lock wanted (tried_set []) nothing_held
nothing_passed s core call lock wanted = record {
  front = [];
  rest = tries s core call;
  holds = record { plan = refl; records = refl };
  sets = refl;
  left = λ there. record { before = there.before; behind = there.behind; rest_is = there.planned_are; wanted_is = there.tried_are };
}

pub gathered : (s : State) (core : ℕ) (call : Call) (lock : ObjectId) (wanted tried : Tried) (held : Held) → IsPassed s core call lock wanted tried held → IsGathered s core call tried held
gathered s core call lock wanted tried held p = record { front = p.front; rest = p.rest; holds = p.holds; sets = p.sets }

-- ---- one more object

same_first : (x y : ObjectId) (xs ys : List ObjectId) → x ∷ xs ≡ y ∷ ys → x ≡ y
same_first x y xs ys e = cc

same_others : (x y : ObjectId) (xs ys : List ObjectId) → x ∷ xs ≡ y ∷ ys → xs ≡ ys
same_others x y xs ys e = cc

-- where the next object does not end them, the lock is left behind it
left_behind : (lock : ObjectId) (wanted : Tried) (front : List ObjectId) (x : ObjectId) (rest before behind : List ObjectId) → x ∷ rest ≡ before ++ lock ∷ behind → wanted ≡ tried_set (front ++ (before ++ lock ∷ []))
    → ((x ≡ lock) × (tried_set (front ++ x ∷ []) ≡ wanted) → ⊥) → IsLeft lock wanted (front ++ x ∷ []) rest
left_behind lock wanted front x rest [] behind is wants not_here =
    let here : x ≡ lock = same_first x lock rest behind is in
    absurd (not_here (here, ap (λ (y : ObjectId). tried_set (front ++ y ∷ [])) here ∙ sym wants))
left_behind lock wanted front x rest (y ∷ before) behind is wants not_here =
    let here : x ≡ y = same_first x y rest (before ++ lock ∷ behind) is in record {
      before = before;
      behind = behind;
      rest_is = same_others x y rest (before ++ lock ∷ behind) is;
      wanted_is =
          wants ∙ ap (λ (z : ObjectId). tried_set (front ++ (z ∷ (before ++ lock ∷ [])))) (sym here)
          ∙ ap tried_set (sym (append_assoc front (x ∷ []) (before ++ lock ∷ [])));
    }

-- what is known of one more object
pub record OneFurther (s : State) (core : ℕ) (call : Call) (lock : ObjectId) (wanted tried : Tried) (held : Held) (x : ObjectId) : Type 0 where
  pub place : HasPlace tried x
  pub fewer : length (tries s core call) - held_count (with_record s x held) < length (tries s core call) - held_count held
  pub is_end : (x ≡ lock) × (add_tried x tried ≡ wanted) → IsFrontTo lock (tries s core call) wanted
  pub passed : ((x ≡ lock) × (add_tried x tried ≡ wanted) → ⊥) → IsPassed s core call lock wanted (add_tried x tried) (with_record s x held)

pub one_further : (s : State) (core : ℕ) (mode : Mode) (call : Call) (lock : ObjectId) (wanted tried : Tried) (held : Held) (shape : Shape) (answer : Option ObjectId) (x : ObjectId)
    → AreTables s → core < s.shape.cores → s.shape ≡ shape → mode_of s core ≡ mode → IsNext shape core mode call held answer → answer ≡ Some x → IsPassed s core call lock wanted tried held
    → OneFurther s core call lock wanted tried held x
one_further s core mode call lock wanted tried held shape answer x tables there machine in_mode next is g =
    let first : slice_get g.rest 0 ≡ Some x = sym (next s g.front g.rest machine in_mode g.holds) ∙ is in
    let more : (rest : List ObjectId) × (g.rest ≡ x ∷ rest) = begins_with g.rest x first in
    let holds : HoldsFront s core call held g.front (x ∷ more.0) = subst (λ (xs : List ObjectId). HoldsFront s core call held g.front xs) more.1 g.holds in
    let then : HoldsFront s core call (with_record s x held) (g.front ++ x ∷ []) more.0 = one_more s core call held g.front x more.0 holds in
    let adds : AddsTried g.front x = one_more_is_tried s core call g.front x more.0 tables.machine (caller s core tables there) holds.plan in
    let sets : add_tried x tried ≡ tried_set (g.front ++ x ∷ []) = ap (add_tried x) g.sets ∙ adds.added in
    let was : held_count held ≡ length g.front = ap held_count holds.records ∙ count_records s g.front in
    let now : held_count (with_record s x held) ≡ length (g.front ++ x ∷ []) = ap held_count then.records ∙ count_records s (g.front ++ x ∷ []) in
    let all : length (tries s core call) ≡ length (g.front ++ x ∷ more.0) = ap length holds.plan in record {
      place = subst (λ (t : Tried). HasPlace t x) (sym g.sets) adds.place;
      fewer = omega (arith, length-append g.front (x ∷ []), length-append g.front (x ∷ more.0));
      is_end = λ here. record {
        before = g.front;
        behind = more.0;
        planned_are = holds.plan ∙ ap (λ (y : ObjectId). g.front ++ y ∷ more.0) here.0;
        tried_are = sym here.1 ∙ sets ∙ ap (λ (y : ObjectId). tried_set (g.front ++ y ∷ [])) here.0;
      };
      passed = λ not_here. record {
        front = g.front ++ x ∷ [];
        rest = more.0;
        holds = then;
        sets = sets;
        left = λ front_to.
            let left = g.left front_to in
            left_behind lock wanted g.front x more.0 left.before left.behind (sym more.1 ∙ left.rest_is) left.wanted_is (λ here. not_here (here.0, sets ∙ here.1));
      };
    }

-- ---- no object is left

some_before : (lock : ObjectId) (before behind : List ObjectId) → before ++ lock ∷ behind ≡ [] → ⊥
some_before lock [] behind e = cc
some_before lock (x ∷ before) behind e = cc

pub none_further : (s : State) (core : ℕ) (mode : Mode) (call : Call) (lock : ObjectId) (wanted tried : Tried) (held : Held) (shape : Shape) (answer : Option ObjectId)
    → s.shape ≡ shape → mode_of s core ≡ mode → IsNext shape core mode call held answer → answer ≡ None → IsPassed s core call lock wanted tried held → IsFrontTo lock (tries s core call) wanted → ⊥
none_further s core mode call lock wanted tried held shape answer machine in_mode next is g front_to =
    let none : g.rest ≡ [] = none_left g.rest (sym (next s g.front g.rest machine in_mode g.holds) ∙ is) in
    let left = g.left front_to in
    some_before lock left.before left.behind (sym left.rest_is ∙ none)

-- a call that is refused early tries nothing
refused_tries : (refusal : Option Reply) (planned : List ObjectId) → (refusal ≡ None → ⊥) → unless_refused refusal planned ≡ []
refused_tries None planned some = absurd (some refl)
refused_tries (Some r) planned some = refl

pub none_tried : (s : State) (core : ℕ) (call : Call) (lock : ObjectId) (wanted : Tried) → (early s.shape (mode_of s core) call ≡ None → ⊥) → IsFrontTo lock (tries s core call) wanted → ⊥
none_tried s core call lock wanted refused front_to =
    some_before lock front_to.before front_to.behind (sym front_to.planned_are ∙ refused_tries (early s.shape (mode_of s core) call) (held_tries s core call) refused)
