-- What looking back finds is a hit of the whole list, and every hit is found so.
use Rattle.std.proofs.Common.{◌≡◌, ◌≢◌, ℕ, zero, suc, ◌+◌, ◌-◌, ◌<◌, ◌≤◌, true, false, List, [], ◌∷◌, ◌++◌, length, get_or, take, drop, map, Option, Some, None, refl, sym, ap, subst, ◌∙◌, arith, length-append, append_assoc}
use Rattle.std.specs.Prelude.{◌==◌, nat_lt, reverse, slice_index, slice_range, ◌↔◌, IsTrue}
use Rattle.std.proofs.lemmas.Bool.{false≢true, eqb-false, eq-eqb, ne_eqb, ltb-true, lt-ltb}
use Rattle.std.proofs.lemmas.List.{reverse-append, reverse-reverse, length-take-le, get_or_at, get_or-take, get_or-append-add, take-append-drop, take-take, drop_at, drop-take, drop_more}
use Rattle.mon_types.specs.Shape.{Shape}
use Rattle.llc.specs.Colours.{tag_of, set_of}
use Rattle.llc.specs.Hits.{tag_count, tag_at, since, is_hit, IsHit}
use Rattle.llc.specs.Sets.{has_tag}
use Rattle.llc.proofs.Different.{neither, not_either}
use Rattle.llc.proofs.Held.{Finds, finds, hit_found}
use Rattle.llc.proofs.Own.{reverse-cons}
use Rattle.llc.proofs.Reversed.{has_tag-reverse, map-reverse, tag_count-reverse}

-- ---- none of these accesses has the tag

none_at : (tag : ℕ) (xs : List ℕ) → has_tag tag (map tag_of xs) ≡ false → (k : ℕ) → k < length xs → tag_at xs k ≢ tag
none_at tag [] h k lt = absurd (omega arith)
none_at tag (a ∷ xs) h zero lt = eqb-false (tag_of a) tag (neither (tag_of a == tag) (has_tag tag (map tag_of xs)) h).0
none_at tag (a ∷ xs) h (suc k) lt = none_at tag xs (neither (tag_of a == tag) (has_tag tag (map tag_of xs)) h).1 k (omega arith)

none_from : (tag : ℕ) (xs : List ℕ) → ((k : ℕ) → k < length xs → tag_at xs k ≢ tag) → has_tag tag (map tag_of xs) ≡ false
none_from tag [] h = refl
none_from tag (a ∷ xs) h =
    not_either (tag_of a == tag) (has_tag tag (map tag_of xs)) (ne_eqb (tag_of a) tag (h 0 (omega arith))) (none_from tag xs (λ k lt. h (suc k) (omega arith)))

none_reversed : (tag : ℕ) (xs : List ℕ) → has_tag tag (map tag_of xs) ≡ false → has_tag tag (map tag_of (reverse xs)) ≡ false
none_reversed tag xs h = ap (has_tag tag) (map-reverse tag_of xs) ∙ has_tag-reverse tag (map tag_of xs) ∙ h

-- ---- the accesses before i, taken apart at one of them

-- the first i accesses are a front, then one, and then those between it and i
record IsSplit (accesses : List ℕ) (i : ℕ) (front : List ℕ) (last : ℕ) (between : List ℕ) : Type 0 where
  count : i ≡ length front + 1 + length between
  within : i ≤ length accesses
  are : take i accesses ≡ front ++ last ∷ between

split_last : (accesses : List ℕ) (i : ℕ) (front : List ℕ) (last : ℕ) (between : List ℕ) → IsSplit accesses i front last between
    → slice_index accesses (length front) ≡ last
split_last accesses i front last between split =
    sym (get_or-take i accesses (length front) 0 (omega arith))
    ∙ ap (λ (x : List ℕ). get_or x (length front) 0) split.are
    ∙ get_or_at front last between 0 (length front) refl

split_between : (accesses : List ℕ) (i : ℕ) (front : List ℕ) (last : ℕ) (between : List ℕ) → IsSplit accesses i front last between
    → slice_range accesses (length front + 1) i ≡ between
split_between accesses i front last between split =
    let n = length front in
    let sum : (n + 1) + (i - (n + 1)) ≡ i = omega arith in
    let front_is : length (front ++ last ∷ []) ≡ n + 1 = length-append front (last ∷ []) in
    sym (drop-take (n + 1) (i - (n + 1)) accesses)
    ∙ ap (λ (m : ℕ). drop (n + 1) (take m accesses)) sum
    ∙ ap (drop (n + 1)) (split.are ∙ sym (append_assoc front (last ∷ []) between))
    ∙ drop_at (front ++ last ∷ []) between (n + 1) front_is

split_at : (accesses : List ℕ) (i : ℕ) (front : List ℕ) (last : ℕ) (between : List ℕ) → IsSplit accesses i front last between
    → (k : ℕ) → k < length between → slice_index accesses (length front + 1 + k) ≡ slice_index between k
split_at accesses i front last between split k lt =
    let n = length front in
    let front_is : length (front ++ last ∷ []) ≡ n + 1 = length-append front (last ∷ []) in
    sym (get_or-take i accesses (n + 1 + k) 0 (omega arith))
    ∙ ap (λ (x : List ℕ). get_or x (n + 1 + k) 0) (split.are ∙ sym (append_assoc front (last ∷ []) between))
    ∙ ap (λ (m : ℕ). get_or ((front ++ last ∷ []) ++ between) (m + k) 0) (sym front_is)
    ∙ get_or-append-add (front ++ last ∷ []) between k 0

-- ---- what is found is a hit

hit_split : (shape : Shape) (ways : ℕ) (accesses : List ℕ) (i : ℕ) (front : List ℕ) (last : ℕ) (between : List ℕ)
    → IsSplit accesses i front last between → tag_of last ≡ tag_at accesses i → has_tag (tag_at accesses i) (map tag_of between) ≡ false
    → tag_count shape (set_of shape (slice_index accesses i)) between < ways → IsHit shape ways accesses i
hit_split shape ways accesses i front last between split same none few =
    let n = length front in
    record {
      last = n;
      earlier = omega (arith, split.count);
      same = ap tag_of (split_last accesses i front last between split) ∙ same;
      others = λ k from to e.
          let at = k - (n + 1) in
          let lt : at < length between = omega (arith, split.count) in
          let place : n + 1 + at ≡ k = omega arith in
          none_at (tag_at accesses i) between none at lt
          (ap tag_of (sym (split_at accesses i front last between split at lt)) ∙ ap (tag_at accesses) place ∙ e);
      few = subst (λ (x : List ℕ). tag_count shape (set_of shape (slice_index accesses i)) x < ways) (sym (split_between accesses i front last between split)) few;
    }

hit_from : (shape : Shape) (ways : ℕ) (accesses : List ℕ) (i : ℕ) → i < length accesses → (found : Option (List ℕ))
    → Finds (tag_at accesses i) (reverse (take i accesses)) found
    → hit_found shape ways (set_of shape (slice_index accesses i)) found ≡ true → IsHit shape ways accesses i
hit_from shape ways accesses i within None look hit = absurd (false≢true hit)
hit_from shape ways accesses i within (Some between) look hit =
    let s = set_of shape (slice_index accesses i) in
    let front = reverse look.older in
    let mid = reverse between in
    let past : take i accesses ≡ front ++ look.last ∷ mid =
    sym (reverse-reverse (take i accesses))
    ∙ ap reverse look.all_are
    ∙ reverse-append between (look.last ∷ look.older)
    ∙ ap (λ (x : List ℕ). x ++ mid) (reverse-cons look.last look.older)
    ∙ append_assoc front (look.last ∷ []) mid in
    let length_is : length front + suc (length mid) ≡ i =
    sym (length-append front (look.last ∷ mid)) ∙ ap length (sym past) ∙ length-take-le i accesses (omega arith) in
    let split : IsSplit accesses i front look.last mid = record { count = omega (arith, length_is); within = omega arith; are = past } in
    let few : tag_count shape s between < ways = ltb-true (tag_count shape s between) ways hit in
    hit_split shape ways accesses i front look.last mid split look.same (none_reversed (tag_at accesses i) between look.none)
    (subst (λ (x : ℕ). x < ways) (sym (tag_count-reverse shape s between)) few)

-- ---- a hit is found

since_found : (tag : ℕ) (front : List ℕ) (a : ℕ) (older : List ℕ) → has_tag tag (map tag_of front) ≡ false → tag_of a ≡ tag
    → since tag (front ++ a ∷ older) ≡ Some front
since_found tag [] a older none same = rw (eq-eqb (tag_of a) tag same) refl
since_found tag (b ∷ bs) a older none same =
    let parts = neither (tag_of b == tag) (has_tag tag (map tag_of bs)) none in
    rw (parts.0, since_found tag bs a older parts.1 same) refl

split_hit : (accesses : List ℕ) (i last : ℕ) → last < i → i < length accesses
    → IsSplit accesses i (take last accesses) (slice_index accesses last) (slice_range accesses (last + 1) i)
split_hit accesses i last earlier within =
    let past = take i accesses in
    let long : length past ≡ i = length-take-le i accesses (omega arith) in
    let sum : (last + 1) + (i - (last + 1)) ≡ i = omega arith in
    let rest : drop (last + 1) past ≡ slice_range accesses (last + 1) i =
    ap (λ (m : ℕ). drop (last + 1) (take m accesses)) (sym sum) ∙ drop-take (last + 1) (i - (last + 1)) accesses in
    let here : drop last past ≡ slice_index accesses last ∷ slice_range accesses (last + 1) i =
    drop_more past last 0 (omega arith) ∙ ap (λ (x : ℕ). x ∷ drop (last + 1) past) (get_or-take i accesses last 0 earlier) ∙ ap (λ (x : List ℕ). slice_index accesses last ∷ x) rest in
    let are : past ≡ take last accesses ++ slice_index accesses last ∷ slice_range accesses (last + 1) i =
    sym (take-append-drop last past) ∙ ap (λ (x : List ℕ). x ++ drop last past) (take-take last i accesses (omega arith)) ∙ ap (λ (x : List ℕ). take last accesses ++ x) here in
    let front_long : length (take last accesses) ≡ last = length-take-le last accesses (omega arith) in
    let both : length (take last accesses) + suc (length (slice_range accesses (last + 1) i)) ≡ i =
    sym (length-append (take last accesses) (slice_index accesses last ∷ slice_range accesses (last + 1) i)) ∙ ap length (sym are) ∙ long in
    record { count = omega (arith, both); within = omega arith; are = are }

hit_to : (shape : Shape) (ways : ℕ) (accesses : List ℕ) (i : ℕ) → i < length accesses → IsHit shape ways accesses i
    → is_hit shape ways (take i accesses) (slice_index accesses i) ≡ true
hit_to shape ways accesses i within hit =
    let s = set_of shape (slice_index accesses i) in
    let tag = tag_at accesses i in
    let front = take hit.last accesses in
    let mid = slice_range accesses (hit.last + 1) i in
    let split : IsSplit accesses i front (slice_index accesses hit.last) mid = split_hit accesses i hit.last hit.earlier within in
    let front_long : length front ≡ hit.last = length-take-le hit.last accesses (omega (arith, hit.earlier)) in
    let none : has_tag tag (map tag_of mid) ≡ false =
    none_from tag mid
    (λ k lt e.
    let at : slice_index accesses (hit.last + 1 + k) ≡ slice_index mid k =
    ap (λ (m : ℕ). slice_index accesses (m + 1 + k)) (sym front_long) ∙ split_at accesses i front (slice_index accesses hit.last) mid split k lt in
    hit.others (hit.last + 1 + k) (omega arith) (omega (arith, split.count, front_long)) (ap tag_of at ∙ e)) in
    let back : reverse (take i accesses) ≡ reverse mid ++ slice_index accesses hit.last ∷ reverse front =
    ap reverse split.are
    ∙ reverse-append front (slice_index accesses hit.last ∷ mid)
    ∙ ap (λ (x : List ℕ). x ++ reverse front) (reverse-cons (slice_index accesses hit.last) mid)
    ∙ append_assoc (reverse mid) (slice_index accesses hit.last ∷ []) (reverse front) in
    ap (λ (x : List ℕ). hit_found shape ways s (since tag x)) back
    ∙ ap (hit_found shape ways s) (since_found tag (reverse mid) (slice_index accesses hit.last) (reverse front) (none_reversed tag mid none) hit.same)
    ∙ ap (λ (n : ℕ). nat_lt n ways) (tag_count-reverse shape s mid)
    ∙ lt-ltb (tag_count shape s mid) ways hit.few

-- looking back from access i tells whether it is a hit
pub hit_both : (shape : Shape) (ways : ℕ) (accesses : List ℕ) (i : ℕ) → i < length accesses
    → IsTrue (is_hit shape ways (take i accesses) (slice_index accesses i)) ↔ IsHit shape ways accesses i
hit_both shape ways accesses i within =
    (hit_from shape ways accesses i within (since (tag_at accesses i) (reverse (take i accesses))) (finds (tag_at accesses i) (reverse (take i accesses))), hit_to shape ways accesses i within)
