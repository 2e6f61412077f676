-- One step of each loop over the objects that are held.
use Rattle.std.proofs.Common.{◌≡◌, ◌∙◌, ◌+◌, ◌-◌, ◌<◌, ◌≤◌, ℕ, zero, suc, true, false, cond, Some, List, [], ◌∷◌, ◌++◌, length, drop, map, get_or, ap, refl, arith, drop-cons, drop_of_length-le, length-append}
use Rattle.std.specs.Prelude.{slice_get}
use Rattle.mon_types.specs.Objects.{width}
use Rattle.mon_types.specs.declared.object.ObjectId.{ObjectId}
use Rattle.mon_types.specs.declared.object.ObjectId.TheVariants as objects
use Rattle.mon_records.specs.Rows.{same_object}
use Rattle.call_machine.specs.declared.phase.Lock.{Lock}
use Rattle.call_machine.specs.Rest.{row_places, places, row_start}
use Rattle.call_machine.proofs.Steps.{row_many}

-- the objects from place i on
abbrev pub behind : List Lock → ℕ → List ObjectId
behind locks i = map (λ l. l.object) (drop i locks)

pub behind_next : (locks : List Lock) (i : ℕ) (d : Lock) → i < length locks → behind locks i ≡ (get_or locks i d).object ∷ behind locks (i + 1)
behind_next locks i d h =
    let e : suc i ≡ i + 1 = omega arith in
    ap (map (λ l. l.object)) (drop-cons locks i d h) ∙ ap (λ n. (get_or locks i d).object ∷ behind locks n) e

pub behind_end : (locks : List Lock) (i : ℕ) → length locks ≤ i → behind locks i ≡ []
behind_end locks i h = ap (map (λ l. l.object)) (drop_of_length-le locks h)

-- ---- where a row begins

pub start_here : (locks : List Lock) (i : ℕ) (d : Lock) (o : ObjectId) → i < length locks → same_object (get_or locks i d).object o ≡ true → row_start (behind locks i) o ≡ 0
unfolding row_start
start_here locks i d o h e =
    ap (λ os. row_start os o) (behind_next locks i d h) ∙ ap (λ b. cond b 0 (width (get_or locks i d).object + row_start (behind locks (i + 1)) o)) e

pub start_next : (locks : List Lock) (i : ℕ) (d : Lock) (o : ObjectId) → i < length locks → same_object (get_or locks i d).object o ≡ false → row_start (behind locks i) o ≡ width (get_or locks i d).object + row_start (behind locks (i + 1)) o
unfolding row_start
start_next locks i d o h e =
    ap (λ os. row_start os o) (behind_next locks i d h) ∙ ap (λ b. cond b 0 (width (get_or locks i d).object + row_start (behind locks (i + 1)) o)) e

pub start_end : (locks : List Lock) (i : ℕ) (o : ObjectId) → length locks ≤ i → row_start (behind locks i) o ≡ 0
unfolding row_start
start_end locks i o h = ap (λ os. row_start os o) (behind_end locks i h)

pub small_width : (o : ObjectId) → width o ≤ 37
unfolding width
small_width (objects.Enclave e) = omega arith
small_width (objects.Thread t) = omega arith
small_width (objects.Region r) = omega arith
small_width (objects.Cell c) = omega arith

-- ---- which place a word has

row_here : (o : ObjectId) (i n : ℕ) (ps : List (ObjectId × ℕ)) (k : ℕ) → k < n → slice_get (row_places o i n ++ ps) k ≡ Some (o, i + k)
unfolding row_places
row_here o i zero ps k h = absurd (omega (arith, h))
row_here o i (suc n) ps zero h = ap (λ z. Some (o, z)) {x = i} {y = i + 0} (omega arith)
row_here o i (suc n) ps (suc k) h = row_here o (suc i) n ps k (omega (arith, h)) ∙ ap (λ z. Some (o, z)) {x = suc i + k} {y = i + suc k} (omega arith)

row_behind : (o : ObjectId) (i n : ℕ) (ps : List (ObjectId × ℕ)) (k : ℕ) → n ≤ k → slice_get (row_places o i n ++ ps) k ≡ slice_get ps (k - n)
unfolding row_places
row_behind o i zero ps k h = ap (slice_get ps) {x = k} {y = k - 0} (omega arith)
row_behind o i (suc n) ps zero h = absurd (omega (arith, h))
row_behind o i (suc n) ps (suc k) h = row_behind o (suc i) n ps k (omega (arith, h)) ∙ ap (slice_get ps) {x = k - n} {y = suc k - suc n} (omega arith)

pub place_here : (locks : List Lock) (i : ℕ) (d : Lock) (k : ℕ) → i < length locks → k < width (get_or locks i d).object → slice_get (places (behind locks i)) k ≡ Some ((get_or locks i d).object, k)
unfolding places
place_here locks i d k h l =
    let o = (get_or locks i d).object in
    ap (λ os. slice_get (places os) k) (behind_next locks i d h)
    ∙ row_here o 0 (width o) (places (behind locks (i + 1))) k l ∙ ap (λ z. Some (o, z)) {x = 0 + k} {y = k} (omega arith)

pub place_behind : (locks : List Lock) (i : ℕ) (d : Lock) (k : ℕ) → i < length locks → width (get_or locks i d).object ≤ k → slice_get (places (behind locks i)) k ≡ slice_get (places (behind locks (i + 1))) (k - width (get_or locks i d).object)
unfolding places
place_behind locks i d k h l =
    let o = (get_or locks i d).object in
    ap (λ os. slice_get (places os) k) (behind_next locks i d h) ∙ row_behind o 0 (width o) (places (behind locks (i + 1))) k l

pub places_behind : (locks : List Lock) (i : ℕ) (d : Lock) → i < length locks → length (places (behind locks i)) ≡ width (get_or locks i d).object + length (places (behind locks (i + 1)))
unfolding places
places_behind locks i d h =
    let o = (get_or locks i d).object in
    ap (λ os. length (places os)) (behind_next locks i d h)
    ∙ length-append (row_places o 0 (width o)) (places (behind locks (i + 1)))
    ∙ ap (λ n. n + length (places (behind locks (i + 1)))) (row_many o 0 (width o))

pub no_places : (locks : List Lock) (i : ℕ) → length locks ≤ i → length (places (behind locks i)) ≡ 0
unfolding places
no_places locks i h = ap (λ os. length (places os)) (behind_end locks i h)

pub map_at : (locks : List Lock) (i : ℕ) (d : Lock) → get_or (map (λ l. l.object) locks) i d.object ≡ (get_or locks i d).object
map_at [] i d = refl
map_at (l ∷ ls) zero d = refl
map_at (l ∷ ls) (suc i) d = map_at ls i d
