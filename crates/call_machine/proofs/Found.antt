-- What was found, by objects and words.
use Rattle.std.proofs.Common.{◌≡◌, ◌∙◌, ◌+◌, ◌≤◌, ℕ, List, [], ◌∷◌, ◌++◌, length, take, drop, ap, refl, arith, length-drop}
use Rattle.std.proofs.lemmas.List.{drop-drop, take-append-le, drop-append-le}
use Rattle.mon_types.specs.Objects.{width}
use Rattle.mon_types.specs.declared.object.ObjectId.{ObjectId}
use Rattle.mon_records.specs.Rows.{Found, objects_of}
use Rattle.protocol.specs.CallTree.{onto}
use Rattle.call_machine.specs.Found.{widths, found_with}

pub onto_onto : (xs ys zs : List ObjectId) → onto (onto xs ys) zs ≡ onto ys (xs ++ zs)
unfolding onto
onto_onto [] ys zs = refl
onto_onto (x ∷ xs) ys zs = onto_onto xs (x ∷ ys) zs

pub onto_length : (xs ys : List ObjectId) → length (onto xs ys) ≡ length xs + length ys
unfolding onto
onto_length [] ys = omega arith
onto_length (x ∷ xs) ys = omega (arith, onto_length xs (x ∷ ys))

pub onto_last : (xs : List ObjectId) (x : ObjectId) (ys : List ObjectId) → onto (xs ++ x ∷ []) ys ≡ x ∷ onto xs ys
unfolding onto
onto_last [] x ys = refl
onto_last (z ∷ xs) x ys = onto_last xs x (z ∷ ys)

pub objects_found : (os : List ObjectId) (words : List ℕ) (found : Found) → objects_of (found_with os words found) ≡ onto os (objects_of found)
unfolding found_with onto objects_of
objects_found [] words found = refl
objects_found (o ∷ os) words found = objects_found os (drop (width o) words) ((o, take (width o) words) ∷ found)

-- in order again
pub objects_again : (os : List ObjectId) (words : List ℕ) → onto (objects_of (found_with os words [])) [] ≡ os ++ []
unfolding onto objects_of
objects_again os words = ap (λ l. onto l []) (objects_found os words []) ∙ onto_onto os [] []

pub found_last : (os : List ObjectId) (o : ObjectId) (words : List ℕ) (found : Found) → found_with (os ++ o ∷ []) words found ≡ (o, take (width o) (drop (widths os) words)) ∷ found_with os words found
unfolding found_with widths
found_last [] o words found = refl
found_last (x ∷ os) o words found =
    found_last os o (drop (width x) words) ((x, take (width x) words) ∷ found)
    ∙ ap (λ l. (o, take (width o) l) ∷ found_with os (drop (width x) words) ((x, take (width x) words) ∷ found)) (drop-drop (widths os) (width x) words)

-- words behind the rows are not looked at
pub found_front : (os : List ObjectId) (words more : List ℕ) (found : Found) → widths os ≤ length words → found_with os (words ++ more) found ≡ found_with os words found
unfolding found_with widths
found_front [] words more found h = refl
found_front (x ∷ os) words more found h =
    ap (λ l. found_with os l ((x, take (width x) (words ++ more)) ∷ found)) (drop-append-le (width x) words more (omega (arith, h)))
    ∙ found_front os (drop (width x) words) more ((x, take (width x) (words ++ more)) ∷ found) (omega (arith, h, length-drop (width x) words))
    ∙ ap (λ l. found_with os (drop (width x) words) ((x, l) ∷ found)) (take-append-le (width x) words more (omega (arith, h)))

pub widths_last : (os : List ObjectId) (o : ObjectId) → widths (os ++ o ∷ []) ≡ widths os + width o
unfolding widths
widths_last [] o = omega arith
widths_last (x ∷ os) o = omega (arith, widths_last os o)
