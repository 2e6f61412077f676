-- Where the first and the last byte of a class stand.
use Rattle.std.proofs.Common.{◌≡◌, ℕ, zero, suc, ◌+◌, ◌-◌, ◌<◌, ◌≤◌, Bool, true, false, not, List, [], ◌∷◌, length, take, drop, get_or, refl, sym, ap, ◌∙◌, arith}
use Rattle.std.specs.List.{list_all, position_or_len}
use Rattle.std.proofs.lemmas.Bool.{and_parts, not-true}
use Rattle.text_in.specs.Cuts.{kept, up_to_last}

-- no byte passes
abbrev pub NonePass : (ℕ → Bool) → List ℕ → Type 0
NonePass p text = list_all (λ b. not (p b)) text ≡ true

pub fails : (p : ℕ → Bool) (b : ℕ) (bs : List ℕ) → NonePass p (b ∷ bs) → (p b ≡ false) × NonePass p bs
fails p b bs h = let parts = and_parts (not (p b)) (list_all (λ c. not (p c)) bs) h in (not-true (p b) parts.0, parts.1)

pub position_at : (p : ℕ → Bool) (text : List ℕ) (i : ℕ) → i < length text → p (get_or text i 0) ≡ true → NonePass p (take i text) → i ≡ position_or_len p text
position_at p [] i lt h none = absurd (omega arith)
position_at p (b ∷ bs) zero lt h none = rw h refl
position_at p (b ∷ bs) (suc i) lt h none =
    let f = fails p b (take i bs) none in
    let up : suc i ≡ 1 + i = omega arith in
    rw f.0 (up ∙ ap (λ (n : ℕ). 1 + n) (position_at p bs i (omega arith) h f.1))

pub position_end : (p : ℕ → Bool) (text : List ℕ) (i : ℕ) → length text ≤ i → NonePass p (take i text) → length text ≡ position_or_len p text
position_end p [] i le none = refl
position_end p (b ∷ bs) zero le none = absurd (omega arith)
position_end p (b ∷ bs) (suc i) le none =
    let f = fails p b (take i bs) none in
    let up : suc (length bs) ≡ 1 + length bs = omega arith in
    rw f.0 (up ∙ ap (λ (n : ℕ). 1 + n) (position_end p bs i (omega arith) f.1))

pub none_last : (p : ℕ → Bool) (text : List ℕ) → NonePass p text → [] ≡ up_to_last p text
unfolding up_to_last
none_last p [] none = refl
none_last p (b ∷ bs) none =
    let f = fails p b bs none in
    rw (f.0, sym (none_last p bs f.1)) refl

-- the byte at this place passes, and none behind it
last_here : (p : ℕ → Bool) (text : List ℕ) (i : ℕ) → i < length text → p (get_or text i 0) ≡ true → NonePass p (drop (suc i) text) → take (suc i) text ≡ up_to_last p text
unfolding up_to_last
last_here p [] i lt h none = absurd (omega arith)
last_here p (b ∷ bs) zero lt h none = rw (h, sym (none_last p bs none)) refl
last_here p (b ∷ []) (suc i) lt h none = absurd (omega arith)
last_here p (b ∷ c ∷ bs) (suc i) lt h none = ap (kept (p b) b) (last_here p (c ∷ bs) i (omega arith) h none)

-- the same by the count of the bytes up to there
pub last_at : (p : ℕ → Bool) (text : List ℕ) (len : ℕ) → 0 < len → len ≤ length text → p (get_or text (len - 1) 0) ≡ true → NonePass p (drop len text) → take len text ≡ up_to_last p text
last_at p text zero some le h none = absurd (omega arith)
last_at p text (suc i) some le h none =
    let before : suc i - 1 ≡ i = omega arith in
    last_here p text i (omega arith) (ap (λ (n : ℕ). p (get_or text n 0)) (sym before) ∙ h) none

pub no_last : (p : ℕ → Bool) (text : List ℕ) (len : ℕ) → len ≤ 0 → NonePass p (drop len text) → [] ≡ up_to_last p text
no_last p text zero le none = none_last p text none
no_last p text (suc len) le none = absurd (omega arith)
