-- Pages as parts of the list of words.
use Rattle.std.proofs.Common.{◌≡◌, ℕ, ◌+◌, ◌-◌, ◌≤◌, List, ◌++◌, Option, Some, None, Bor, length, take, drop, ap, sym, ◌∙◌, arith}
use Rattle.std.specs.Option.{MatchOption}
use Rattle.std.specs.Array.{IsFirstChunk}
use Rattle.std.proofs.lemmas.List.{length-append, length-take-le, length-drop, take_at, drop-drop}
use borrow.Rule.Slice.PartMut.{put_mid}

-- the list after k items from place a on became these, whatever is behind it
pub part_put : (xs ys rest : List ℕ) (a k len : ℕ) → a + k ≤ length xs → length ys ≡ k → length xs ≡ len → take len (put_mid a (a + k - a) xs ys ++ rest) ≡ take a xs ++ (ys ++ drop (a + k) xs)
part_put xs ys rest a k len fits long whole =
    let m : a + k - a ≡ k = omega arith in
    let put : put_mid a (a + k - a) xs ys ≡ take a xs ++ (ys ++ drop (a + k) xs) =
    ap (λ (n : ℕ). take a xs ++ (ys ++ drop n (drop a xs))) m ∙ ap (λ (l : List ℕ). take a xs ++ (ys ++ l)) (drop-drop k a xs) in
    let size : length (take a xs ++ (ys ++ drop (a + k) xs)) ≡ len =
    omega (arith, length-append (take a xs) (ys ++ drop (a + k) xs), length-append ys (drop (a + k) xs), length-take-le a xs (omega arith), length-drop (a + k) xs) in
    take_at _ _ len (ap length put ∙ size) ∙ put

-- the first 512 items, where there is such a chunk
pub chunk_is : (r : Option (Bor (List ℕ))) (y : Bor (List ℕ)) (P : Type 0) (xs : List ℕ) → r ≡ Some y → MatchOption r P (λ z. IsFirstChunk xs z.now 512) → y.now ≡ take 512 xs
chunk_is None y P xs is m = absurd cc
chunk_is (Some z) y P xs is m = let same : z ≡ y = cc in ap (λ (b : Bor (List ℕ)). b.now) (sym same) ∙ m.same
