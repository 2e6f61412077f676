-- A tag that is put first, one place after the other.
use Rattle.std.proofs.Common.{◌≡◌, ℕ, zero, suc, ◌+◌, ◌<◌, Bool, true, false, List, [], ◌∷◌, ◌++◌, length, get_or, take, drop, refl, sym, ap, ◌∙◌, arith, add-one, append_assoc}
use Rattle.std.specs.Prelude.{◌||◌, ◌==◌}
use Rattle.std.proofs.Math.ListN.{set}
use Rattle.std.proofs.lemmas.Bool.{eq-eqb, ne_eqb}
use Rattle.std.proofs.lemmas.List.{set_split, drop_more, take_more, take_more_set, drop-set-lt, drop-drop, length-drop}
use Rattle.std.proofs.lemmas.List.Folds.{list_any-append}
use Rattle.llc.specs.Sets.{has_tag, without_tag, with_first}

-- a tag that stands at a place is among the tags
has_tag-at : (tag : ℕ) (ts : List ℕ) (i : ℕ) → i < length ts → get_or ts i 0 ≡ tag → has_tag tag ts ≡ true
has_tag-at tag [] i lt is = absurd (omega arith)
has_tag-at tag (t ∷ ts) zero lt is = rw (eq-eqb t tag is) refl
has_tag-at tag (t ∷ ts) (suc i) lt is =
    let rest : has_tag tag ts ≡ true = has_tag-at tag ts i (omega arith) is in
    elim (t == tag) as (λ b. (b || has_tag tag ts) ≡ true) [ true ↦ refl | false ↦ rest ]

-- the tags from a place on, one by one
left_more : (now old : List ℕ) (i : ℕ) → drop i now ≡ drop i old → drop (i + 1) now ≡ drop (i + 1) old
left_more now old i rest = sym (drop-drop 1 i now) ∙ ap (drop 1) rest ∙ drop-drop 1 i old

long_enough : (now old : List ℕ) (i : ℕ) → i < length now → drop i now ≡ drop i old → i < length old
long_enough now old i lt rest = omega (arith, ap length rest, length-drop i now, length-drop i old)

same_here : (now old : List ℕ) (i : ℕ) → i < length now → drop i now ≡ drop i old → get_or now i 0 ≡ get_or old i 0
same_here now old i lt rest =
    let both : get_or now i 0 ∷ drop (i + 1) now ≡ get_or old i 0 ∷ drop (i + 1) old =
    sym (drop_more now i 0 lt) ∙ rest ∙ drop_more old i 0 (long_enough now old i lt rest) in
    cc

-- where the tag stands here, it was there, and all stand right
pub put_here : (tag moved i : ℕ) (now old : List ℕ) → i < length now → get_or now i 0 ≡ tag → drop i now ≡ drop i old
    → take i now ++ moved ∷ without_tag tag (drop i now) ≡ with_first tag old
    → (has_tag tag old ≡ true) × (set now i moved ≡ with_first tag old)
put_here tag moved i now old lt is rest whole =
    let left : without_tag tag (drop i now) ≡ drop (i + 1) now = ap (without_tag tag) (drop_more now i 0 lt) ∙ rw (eq-eqb (get_or now i 0) tag is) refl in (
      has_tag-at tag old i (long_enough now old i lt rest) (sym (same_here now old i lt rest) ∙ is),
      set_split now i moved lt ∙ rw (← add-one) (ap (λ (x : List ℕ). take i now ++ moved ∷ x) (sym left)) ∙ whole,
    )

-- else the next one is moved
pub put_further : (tag moved i : ℕ) (now old : List ℕ) → i < length now → (get_or now i 0 ≡ tag → ⊥) → drop i now ≡ drop i old
    → take i now ++ moved ∷ without_tag tag (drop i now) ≡ with_first tag old
    → take (i + 1) (set now i moved) ++ get_or now i 0 ∷ without_tag tag (drop (i + 1) (set now i moved)) ≡ with_first tag old
put_further tag moved i now old lt other rest whole =
    let here = get_or now i 0 in
    let left : without_tag tag (drop i now) ≡ here ∷ without_tag tag (drop (i + 1) now) = ap (without_tag tag) (drop_more now i 0 lt) ∙ rw (ne_eqb here tag other) refl in
    ap (λ (x : List ℕ). x ++ here ∷ without_tag tag (drop (i + 1) (set now i moved))) (take_more_set now i moved lt)
    ∙ ap (λ (x : List ℕ). (take i now ++ moved ∷ []) ++ here ∷ without_tag tag x) (drop-set-lt (i + 1) now i moved (omega arith))
    ∙ append_assoc (take i now) (moved ∷ []) (here ∷ without_tag tag (drop (i + 1) now))
    ∙ ap (λ (x : List ℕ). take i now ++ moved ∷ x) (sym left)
    ∙ whole

or_false : (b : Bool) → b ≡ false → (b || false) ≡ false
or_false b f = rw f refl

pub none_further : (tag i : ℕ) (now old : List ℕ) → i < length now → (get_or now i 0 ≡ tag → ⊥) → drop i now ≡ drop i old
    → has_tag tag (take i old) ≡ false → has_tag tag (take (i + 1) old) ≡ false
none_further tag i now old lt other rest none =
    let there : (get_or old i 0 == tag) ≡ false = ne_eqb (get_or old i 0) tag (λ e. other (same_here now old i lt rest ∙ e)) in
    ap (has_tag tag) (take_more old i 0 (long_enough now old i lt rest))
    ∙ list_any-append (λ t. t == tag) (take i old) (get_or old i 0 ∷ [])
    ∙ rw (none, there) refl

pub left_further : (i moved : ℕ) (now old : List ℕ) → drop i now ≡ drop i old → drop (i + 1) (set now i moved) ≡ drop (i + 1) old
left_further i moved now old rest = drop-set-lt (i + 1) now i moved (omega arith) ∙ left_more now old i rest
