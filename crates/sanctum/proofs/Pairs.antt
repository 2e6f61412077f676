-- Words, taken two by two from the front.
use Rattle.std.proofs.Common.{◌≡◌, ℕ, ◌<◌, ◌≤◌, ◌*◌, ◌+◌, min, List, [], ◌∷◌, ◌++◌, length, refl, sym, ap, ◌∙◌, arith}
use Rattle.std.proofs.lemmas.List.{append_assoc, append-nil, nil_from_length}
use Rattle.sanctum.specs.Packing.{paired}

-- a part of two words, or of one where no more are left, makes one word of the pairs
paired_part : (part rest : List ℕ) (word : ℕ) → length part ≡ min 2 (length (part ++ rest)) → 0 < length (part ++ rest) → paired part ≡ word ∷ [] → paired (part ++ rest) ≡ word ∷ paired rest
unfolding paired
paired_part [] rest word is some h = absurd (omega arith)
paired_part (a ∷ []) [] word is some h = h
paired_part (a ∷ []) (b ∷ rest) word is some h = absurd (omega (arith, is))
paired_part (a ∷ b ∷ []) rest word is some h = ap (λ (l : List ℕ). l ++ paired rest) h
paired_part (a ∷ b ∷ c ∷ part) rest word is some h = absurd (omega (arith, is))

pub pair_added : (old new before after part whole : List ℕ) (word size : ℕ) → new ≡ old ++ word ∷ [] → size ≡ 2 → before ≡ part ++ after → length part ≡ min size (length before) → 0 < length before → paired part ≡ word ∷ [] → old ++ paired before ≡ paired whole → new ++ paired after ≡ paired whole
pair_added old new before after part whole word size added two split is some h so_far =
    let parts : paired before ≡ word ∷ paired after =
    ap paired split ∙ paired_part part after word (is ∙ ap (λ (n : ℕ). min n (length before)) two ∙ ap (λ (l : List ℕ). min 2 (length l)) split) (omega (arith, some, ap length split)) h in
    ap (λ (l : List ℕ). l ++ paired after) added ∙ append_assoc old (word ∷ []) (paired after) ∙ ap (λ (l : List ℕ). old ++ l) (sym parts) ∙ so_far

none_left : paired [] ≡ []
unfolding paired
none_left = refl

pub all_paired : (pairs rest whole : List ℕ) → length rest ≡ 0 → pairs ++ paired rest ≡ paired whole → pairs ≡ paired whole
all_paired pairs rest whole none so_far =
    sym (append-nil pairs) ∙ ap (λ (l : List ℕ). pairs ++ l) (sym none_left) ∙ ap (λ (l : List ℕ). pairs ++ paired l) (sym (nil_from_length rest none)) ∙ so_far

-- two words of four bytes make one of eight
pub half_as_many : (words : List ℕ) → length (paired words) * 2 ≤ length words + 1
unfolding paired
half_as_many [] = omega arith
half_as_many (low ∷ []) = omega arith
half_as_many (low ∷ high ∷ more) = omega (arith, half_as_many more)

pub some_paired : (word : ℕ) (words : List ℕ) → 1 ≤ length (paired (word ∷ words))
unfolding paired
some_paired low [] = omega arith
some_paired low (high ∷ more) = omega arith
