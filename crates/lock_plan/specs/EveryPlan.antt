-- What holds of the plan of every call, for the crates above. This project's own.
use Rattle.std.specs.Prelude.{◌≡◌, ℕ, zero, suc, List, [], ◌∷◌, ◌++◌, length, take, drop, Option, Some, None, slice_get, refl}
use Rattle.std.specs.Option.{option_to_list}
use Rattle.std.proofs.Common.{sym, ap, ◌∙◌, append_assoc, arith}
use Rattle.std.proofs.lemmas.List.{take-append-drop}
use Rattle.mon_types.specs.Shape.{Shape}
use Rattle.mon_types.specs.declared.region.Region.{Region}
use Rattle.mon_types.specs.declared.region.Region.TheVariants as regions
use Rattle.mon_types.specs.declared.thread.Mode.{Mode}
use Rattle.mon_types.specs.declared.call.Call.{Call}
use Rattle.mon_types.specs.declared.call.Call.TheVariants as calls
use Rattle.mon_types.specs.declared.reply.Reply.{Reply}
use Rattle.mon_types.specs.declared.object.ObjectId.{ObjectId}
use Rattle.mon_types.specs.declared.object.ObjectId.TheVariants as objects
use Rattle.mon_model.specs.State.{State, region_at, enclave_at, mode_of}
use Rattle.mon_model.specs.Early.{early}
use Rattle.mon_model.specs.Tries.{free_tries, delete_tries, held_tries, unless_refused, tries}
use Rattle.lock_plan.specs.declared.held.Held.{Held}
use Rattle.lock_plan.specs.Plan.{held_count, first_region, first_enclave, plan_of, planned}
use Rattle.lock_plan.specs.Records.{nothing_held, and_records, with_record, records_of, IsNext}
use Rattle.lock_plan.specs.Laws.{asked, AskingGivesTries, OneMoreIsHeld, FirstSettles}

-- what comes right after a front of a list
pub slice_get_seam : {X : Type 0} (front rest : List X) → slice_get (front ++ rest) (length front) ≡ slice_get rest 0
slice_get_seam [] rest = refl
slice_get_seam (x ∷ front) rest = slice_get_seam front rest

-- as many objects are held as have records there
pub count_records : (s : State) (xs : List ObjectId) → held_count (records_of s xs) ≡ length xs
count_records s [] = refl
count_records s (objects.Enclave e ∷ xs) = omega (arith, count_records s xs)
count_records s (objects.Thread t ∷ xs) = omega (arith, count_records s xs)
count_records s (objects.Region r ∷ xs) = omega (arith, count_records s xs)
count_records s (objects.Cell c ∷ xs) = omega (arith, count_records s xs)

free_begins : (cores r : ℕ) (region : Region) → slice_get (free_tries cores r region) 0 ≡ Some (objects.Region r)
free_begins cores r regions.Free = refl
free_begins cores r (regions.Owned owner since) = refl
free_begins cores r (regions.Blocked owner since at) = refl
free_begins cores r (regions.Offered to at) = refl

-- before anything is held, the first object of the plan is the first that the call tries
pub begins : (s : State) (core : ℕ) (call : Call) → slice_get (plan_of s.shape core (mode_of s core) call nothing_held) 0 ≡ slice_get (held_tries s core call) 0
begins s core (calls.Free r) = sym (free_begins s.shape.cores r (region_at s r))
begins s core _ = refl

-- the first object of a list
same_first : (x y : ObjectId) (xs ys : List ObjectId) → x ∷ xs ≡ y ∷ ys → x ≡ y
same_first x y xs ys e = cc

free_settled : (s : State) (r : ℕ) (x : ObjectId) (xs : List ObjectId) (h : Held) → free_tries s.shape.cores r (region_at s r) ≡ x ∷ xs → free_tries s.shape.cores r (first_region (and_records s x h)) ≡ free_tries s.shape.cores r (region_at s r)
free_settled s r x xs h e =
    let first : Some x ≡ Some (objects.Region r) = ap (λ (l : List ObjectId). slice_get l 0) (sym e) ∙ free_begins s.shape.cores r (region_at s r) in
    let is : x ≡ objects.Region r = cc in
    ap (λ (o : ObjectId). free_tries s.shape.cores r (first_region (and_records s o h))) is

delete_settled : (s : State) (e : ℕ) (x : ObjectId) (xs : List ObjectId) (h : Held) → delete_tries e (enclave_at s e).regions s.shape.regions ≡ x ∷ xs → delete_tries e (first_enclave (and_records s x h)).regions s.shape.regions ≡ delete_tries e (enclave_at s e).regions s.shape.regions
delete_settled s e x xs h eq =
    let is : x ≡ objects.Enclave e = cc in
    ap (λ (o : ObjectId). delete_tries e (first_enclave (and_records s o h)).regions s.shape.regions) is

-- once the first object is held, with its record, the plan is what the call tries
pub settled : (s : State) (core : ℕ) (call : Call) (x : ObjectId) (xs : List ObjectId) (h : Held) → held_tries s core call ≡ x ∷ xs → plan_of s.shape core (mode_of s core) call (and_records s x h) ≡ held_tries s core call
settled s core (calls.Free r) x xs h e = free_settled s r x xs h e
settled s core (calls.Delete n) x xs h e = delete_settled s n x xs h e
settled s core _ x xs h e = refl

-- where the records of a front are held, the plan has after it what the call tries after it
follows : (s : State) (core : ℕ) (call : Call) (front rest : List ObjectId) → held_tries s core call ≡ front ++ rest → slice_get (plan_of s.shape core (mode_of s core) call (records_of s front)) (length front) ≡ slice_get rest 0
follows s core call [] rest e = begins s core call ∙ ap (λ (l : List ObjectId). slice_get l 0) e
follows s core call (x ∷ front) rest e =
    ap (λ (l : List ObjectId). slice_get l (length (x ∷ front))) (settled s core call x (front ++ rest) (records_of s front) e ∙ e)
    ∙ slice_get_seam (x ∷ front) rest

-- a call that is not refused early tries what it tries once it holds its objects
pub tries_held : (s : State) (core : ℕ) (call : Call) → early s.shape (mode_of s core) call ≡ None → tries s core call ≡ held_tries s core call
tries_held s core call none = ap (λ (o : Option Reply). unless_refused o (held_tries s core call)) none

next_in : (s : State) (core : ℕ) (call : Call) (front rest : List ObjectId) → early s.shape (mode_of s core) call ≡ None → tries s core call ≡ front ++ rest → planned s.shape core (mode_of s core) call (records_of s front) ≡ slice_get rest 0
next_in s core call front rest none e =
    ap (λ (n : ℕ). slice_get (plan_of s.shape core (mode_of s core) call (records_of s front)) n) (count_records s front)
    ∙ follows s core call front rest (sym (tries_held s core call none) ∙ e)

-- the planned object is the next that the call tries
pub is_next : (shape : Shape) (core : ℕ) (mode : Mode) (call : Call) (held : Held) → early shape mode call ≡ None → IsNext shape core mode call held (planned shape core mode call held)
is_next shape core mode call held none s front rest there in_mode h =
    ap (λ (x : Held). planned shape core mode call x) h.records
    ∙ ap (λ (m : Mode). planned shape core m call (records_of s front)) (sym in_mode)
    ∙ ap (λ (m : Shape). planned m core (mode_of s core) call (records_of s front)) (sym there)
    ∙ next_in s core call front rest (ap (λ (m : Shape). early m (mode_of s core) call) there ∙ ap (λ (m : Mode). early shape m call) in_mode ∙ none) h.plan

-- ---- one more object is held

apart : (s : State) (x y : ObjectId) (h : Held) → and_records s x (with_record s y h) ≡ with_record s y (and_records s x h)
apart s (objects.Enclave e) (objects.Enclave d) h = refl
apart s (objects.Enclave e) (objects.Thread t) h = refl
apart s (objects.Enclave e) (objects.Region r) h = refl
apart s (objects.Enclave e) (objects.Cell c) h = refl
apart s (objects.Thread t) (objects.Enclave e) h = refl
apart s (objects.Thread t) (objects.Thread u) h = refl
apart s (objects.Thread t) (objects.Region r) h = refl
apart s (objects.Thread t) (objects.Cell c) h = refl
apart s (objects.Region r) (objects.Enclave e) h = refl
apart s (objects.Region r) (objects.Thread t) h = refl
apart s (objects.Region r) (objects.Region q) h = refl
apart s (objects.Region r) (objects.Cell c) h = refl
apart s (objects.Cell c) (objects.Enclave e) h = refl
apart s (objects.Cell c) (objects.Thread t) h = refl
apart s (objects.Cell c) (objects.Region r) h = refl
apart s (objects.Cell c) (objects.Cell d) h = refl

alone : (s : State) (x : ObjectId) → records_of s (x ∷ []) ≡ with_record s x nothing_held
alone s (objects.Enclave e) = refl
alone s (objects.Thread t) = refl
alone s (objects.Region r) = refl
alone s (objects.Cell c) = refl

-- the record of one more object comes last
pub records_with : (s : State) (front : List ObjectId) (x : ObjectId) → records_of s (front ++ x ∷ []) ≡ with_record s x (records_of s front)
records_with s [] x = alone s x
records_with s (y ∷ front) x = ap (and_records s y) (records_with s front x) ∙ apart s y x (records_of s front)

pub one_more : OneMoreIsHeld
one_more s core call held front x rest h = record {
  plan = h.plan ∙ sym (append_assoc front (x ∷ []) rest);
  records = ap (with_record s x) h.records ∙ sym (records_with s front x);
}

-- ---- the first record settles the plan

-- a refused call tries nothing
tries_some : (o : Option Reply) (tried : List ObjectId) (x : ObjectId) (rest : List ObjectId) → unless_refused o tried ≡ x ∷ rest → (o ≡ None) × (tried ≡ x ∷ rest)
tries_some None tried x rest e = (refl, e)
tries_some (Some refusal) tried x rest e = absurd (cc)

begins_with : (xs : List ObjectId) (x : ObjectId) → slice_get xs 0 ≡ Some x → (rest : List ObjectId) × (xs ≡ x ∷ rest)
begins_with [] x e = absurd (cc)
begins_with (y ∷ ys) x e = (ys, cc)

pub first_settles : FirstSettles
first_settles s t core call x rest there in_mode e same =
    let s_held : (early s.shape (mode_of s core) call ≡ None) × (held_tries s core call ≡ x ∷ rest) = tries_some (early s.shape (mode_of s core) call) (held_tries s core call) x rest e in
    let early_same : early t.shape (mode_of t core) call ≡ early s.shape (mode_of s core) call = ap (λ (m : Shape). early m (mode_of t core) call) there ∙ ap (λ (m : Mode). early s.shape m call) in_mode in
    let plan_same : (h : Held) → plan_of t.shape core (mode_of t core) call h ≡ plan_of s.shape core (mode_of s core) call h = λ h. ap (λ (m : Shape). plan_of m core (mode_of t core) call h) there ∙ ap (λ (m : Mode). plan_of s.shape core m call h) in_mode in
    let t_first : slice_get (held_tries t core call) 0 ≡ Some x =
    sym (begins t core call) ∙ ap (λ (l : List ObjectId). slice_get l 0) (plan_same nothing_held) ∙ begins s core call ∙ ap (λ (l : List ObjectId). slice_get l 0) s_held.1 in
    let t_held : (more : List ObjectId) × (held_tries t core call ≡ x ∷ more) = begins_with (held_tries t core call) x t_first in
    tries_held t core call (early_same ∙ s_held.0)
    ∙ sym (settled t core call x t_held.0 nothing_held t_held.1)
    ∙ ap (λ (h : Held). plan_of t.shape core (mode_of t core) call h) same
    ∙ plan_same (records_of s (x ∷ []))
    ∙ settled s core call x rest nothing_held s_held.1
    ∙ sym (tries_held s core call s_held.0)

-- ---- asking again and again

take_more : (n : ℕ) (xs : List ObjectId) → take n xs ++ option_to_list (slice_get (drop n xs) 0) ≡ take (suc n) xs
take_more zero [] = refl
take_more zero (x ∷ xs) = refl
take_more (suc n) [] = refl
take_more (suc n) (x ∷ xs) = ap (λ (l : List ObjectId). x ∷ l) (take_more n xs)

pub asking : AskingGivesTries
unfolding asked
asking s core call zero none = refl
asking s core call (suc n) none =
    let all : List ObjectId = tries s core call in
    ap (λ (l : List ObjectId). l ++ option_to_list (planned s.shape core (mode_of s core) call (records_of s l))) (asking s core call n none)
    ∙ ap (λ (o : Option ObjectId). take n all ++ option_to_list o) (next_in s core call (take n all) (drop n all) none (sym (take-append-drop n all)))
    ∙ take_more n all
