-- Texts that are cut at the first byte of a kind, and texts without what does not pass at their start and at their end.
use Rattle.std.proofs.Common.{◌≡◌, ℕ, suc, Bool, true, false, not, List, [], ◌∷◌, ◌++◌, take, drop, refl, sym, ap, ◌∙◌, arith, inl, inr}
use Rattle.std.specs.List.{list_all, position_or_len, before_first, slice_split}
use Rattle.std.proofs.lemmas.Bool.{cases_Bool, and_parts, and_from, not_from_false}
use Rattle.std.proofs.lemmas.List.{take-append-drop, append-nil}
use Rattle.std.proofs.lemmas.List.Folds.{list_all-append}
use Rattle.text_in.specs.Bytes.{begins, ends}
use Rattle.text_in.specs.Cuts.{from_first, kept, up_to_last, trimmed}
use Rattle.text_in.proofs.Places.{NonePass, fails, none_last}

-- ---- all bytes of a text

pub all_from : (p q : ℕ → Bool) (text : List ℕ) → ((b : ℕ) → p b ≡ true → q b ≡ true) → list_all p text ≡ true → list_all q text ≡ true
all_from p q [] f h = refl
all_from p q (b ∷ bs) f h = let h2 = and_parts (p b) (list_all p bs) h in and_from (q b) (list_all q bs) (f b h2.0) (all_from p q bs f h2.1)

pub all_both : (p : ℕ → Bool) (prefix back : List ℕ) → list_all p (prefix ++ back) ≡ true → (list_all p prefix ≡ true) × (list_all p back ≡ true)
all_both p prefix back h = and_parts (list_all p prefix) (list_all p back) (sym (list_all-append p prefix back) ∙ h)

pub all_append : (p : ℕ → Bool) (prefix back : List ℕ) → list_all p prefix ≡ true → list_all p back ≡ true → list_all p (prefix ++ back) ≡ true
all_append p prefix back f b = list_all-append p prefix back ∙ and_from (list_all p prefix) (list_all p back) f b

not_not : (x : Bool) → x ≡ not (not x)
not_not true = refl
not_not false = refl

-- no byte passes the test that is the other way round
pub none_other : (p : ℕ → Bool) (text : List ℕ) → list_all p text ≡ true → NonePass (λ b. not (p b)) text
none_other p text h = all_from p (λ b. not (not (p b))) text (λ b t. sym (not_not (p b)) ∙ t) h

pub all_other : (p : ℕ → Bool) (text : List ℕ) → NonePass (λ b. not (p b)) text → list_all p text ≡ true
all_other p text h = all_from (λ b. not (not (p b))) p text (λ b t. not_not (p b) ∙ t) h

-- ---- a cut at the first byte that passes

first_passes : (p : ℕ → Bool) (b : ℕ) (bs : List ℕ) → p b ≡ true → position_or_len p (b ∷ bs) ≡ 0
first_passes p b bs h = rw h refl

first_fails : (p : ℕ → Bool) (b : ℕ) (bs : List ℕ) → p b ≡ false → position_or_len p (b ∷ bs) ≡ suc (position_or_len p bs)
first_fails p b bs h = rw h (omega arith)

pub cut_here : (p : ℕ → Bool) (b : ℕ) (bs : List ℕ) → p b ≡ true → (before_first p (b ∷ bs) ≡ []) × (from_first p (b ∷ bs) ≡ b ∷ bs)
cut_here p b bs h = (ap (λ (n : ℕ). take n (b ∷ bs)) (first_passes p b bs h), ap (λ (n : ℕ). drop n (b ∷ bs)) (first_passes p b bs h))

pub cut_later : (p : ℕ → Bool) (b : ℕ) (bs : List ℕ) → p b ≡ false → (before_first p (b ∷ bs) ≡ b ∷ before_first p bs) × (from_first p (b ∷ bs) ≡ from_first p bs)
cut_later p b bs h = (ap (λ (n : ℕ). take n (b ∷ bs)) (first_fails p b bs h), ap (λ (n : ℕ). drop n (b ∷ bs)) (first_fails p b bs h))

-- the text is cut where a byte passes for the first time
pub cut_is : (p : ℕ → Bool) (prefix rest : List ℕ) → NonePass p prefix → begins p rest ≡ true → (before_first p (prefix ++ rest) ≡ prefix) × (from_first p (prefix ++ rest) ≡ rest)
cut_is p [] [] none h = (refl, refl)
cut_is p [] (b ∷ bs) none h = cut_here p b bs h
cut_is p (b ∷ bs) rest none h =
    let f = fails p b bs none in
    let later = cut_later p b (bs ++ rest) f.0 in
    let more = cut_is p bs rest f.1 h in
    (later.0 ∙ ap (λ (x : List ℕ). b ∷ x) more.0, later.1 ∙ more.1)

pub nothing_from : (p : ℕ → Bool) (text : List ℕ) → NonePass p text → from_first p text ≡ []
nothing_from p text none = ap (from_first p) (sym (append-nil text)) ∙ (cut_is p text [] none refl).1

pub cut_joins : (p : ℕ → Bool) (text : List ℕ) → text ≡ before_first p text ++ from_first p text
cut_joins p text = sym (take-append-drop (position_or_len p text) text)

pub cut_found : (p : ℕ → Bool) (text : List ℕ) → NonePass p (before_first p text) × (begins p (from_first p text) ≡ true)
cut_found p [] = (refl, refl)
cut_found p (b ∷ bs) =
    elim (cases_Bool (p b)) [
      | inl t ↦ let here = cut_here p b bs t in (ap (list_all (λ c. not (p c))) here.0, ap (begins p) here.1 ∙ t)
      | inr f ↦
          let later = cut_later p b bs f in
          let more = cut_found p bs in (
            ap (list_all (λ c. not (p c))) later.0 ∙ and_from (not (p b)) (list_all (λ c. not (p c)) (before_first p bs)) (not_from_false (p b) f) more.0,
            ap (begins p) later.1 ∙ more.1,
          )
    ]

-- ---- up to the last byte that passes

-- what stands behind the last byte of a text that passes
record IsUpTo (p : ℕ → Bool) (text prefix : List ℕ) : Type 0 where
  after : List ℕ
  none : NonePass p after
  ends_it : ends p prefix ≡ true
  text_is : text ≡ prefix ++ after

last_is : (p : ℕ → Bool) (text after : List ℕ) → ends p text ≡ true → NonePass p after → up_to_last p (text ++ after) ≡ text
unfolding up_to_last
last_is p [] after e none = sym (none_last p after none)
last_is p (b ∷ []) after e none = ap (kept (p b) b) (sym (none_last p after none)) ∙ rw e refl
last_is p (b ∷ c ∷ bs) after e none = ap (kept (p b) b) (last_is p (c ∷ bs) after e none)

one_before : (p : ℕ → Bool) (b : ℕ) (bs prefix : List ℕ) → IsUpTo p bs prefix → IsUpTo p (b ∷ bs) (kept (p b) b prefix)
one_before p b bs [] h =
    elim (cases_Bool (p b)) [
      | inl t ↦ rw t record { after = h.after; none = h.none; ends_it = t; text_is = ap (λ (x : List ℕ). b ∷ x) h.text_is }
      | inr f ↦ rw f record {
        after = b ∷ h.after;
        none = and_from (not (p b)) (list_all (λ c. not (p c)) h.after) (not_from_false (p b) f) h.none;
        ends_it = refl;
        text_is = ap (λ (x : List ℕ). b ∷ x) h.text_is;
      }
    ]
one_before p b bs (c ∷ cs) h = record { after = h.after; none = h.none; ends_it = h.ends_it; text_is = ap (λ (x : List ℕ). b ∷ x) h.text_is }

up_to : (p : ℕ → Bool) (text : List ℕ) → IsUpTo p text (up_to_last p text)
unfolding up_to_last
up_to p [] = record { after = []; none = refl; ends_it = refl; text_is = refl }
up_to p (b ∷ bs) = one_before p b bs (up_to_last p bs) (up_to p bs)

kept_begins : (p : ℕ → Bool) (b : ℕ) (prefix : List ℕ) → p b ≡ true → begins p (kept (p b) b prefix) ≡ true
kept_begins p b [] t = rw t t
kept_begins p b (c ∷ cs) t = t

up_to_begins : (p : ℕ → Bool) (text : List ℕ) → begins p text ≡ true → begins p (up_to_last p text) ≡ true
unfolding up_to_last
up_to_begins p [] t = refl
up_to_begins p (b ∷ bs) t = kept_begins p b (up_to_last p bs) t

-- ---- without what does not pass at the start and at the end

-- the text is this middle, which begins and ends with bytes that pass, and round it bytes that do not
pub record IsTrimmed (p : ℕ → Bool) (text middle : List ℕ) : Type 0 where
  pub before : List ℕ
  pub after : List ℕ
  pub none_before : NonePass p before
  pub none_after : NonePass p after
  pub begins_it : begins p middle ≡ true
  pub ends_it : ends p middle ≡ true
  pub text_is : text ≡ before ++ (middle ++ after)

nothing_up_to : (p : ℕ → Bool) → up_to_last p [] ≡ []
nothing_up_to p = sym (none_last p [] refl)

middle_is : (p : ℕ → Bool) (before middle after : List ℕ) → NonePass p before → NonePass p after → begins p middle ≡ true → ends p middle ≡ true → trimmed p (before ++ (middle ++ after)) ≡ middle
middle_is p before [] after n m b e = ap (up_to_last p) (nothing_from p (before ++ after) (all_append (λ c. not (p c)) before after n m)) ∙ nothing_up_to p
middle_is p before (c ∷ cs) after n m b e = ap (up_to_last p) (cut_is p before ((c ∷ cs) ++ after) n b).1 ∙ last_is p (c ∷ cs) after e m

pub trimmed_is : (p : ℕ → Bool) (text middle : List ℕ) → IsTrimmed p text middle → trimmed p text ≡ middle
trimmed_is p text middle h = ap (trimmed p) h.text_is ∙ middle_is p h.before middle h.after h.none_before h.none_after h.begins_it h.ends_it

pub is_trimmed : (p : ℕ → Bool) (text : List ℕ) → IsTrimmed p text (trimmed p text)
is_trimmed p text =
    let cut = cut_found p text in
    let last = up_to p (from_first p text) in
    record {
      before = before_first p text;
      after = last.after;
      none_before = cut.0;
      none_after = last.none;
      begins_it = up_to_begins p (from_first p text) cut.1;
      ends_it = last.ends_it;
      text_is = cut_joins p text ∙ ap (λ (x : List ℕ). before_first p text ++ x) last.text_is;
    }

-- what stands at the end of a text ends as the text does
pub ends_behind : (p : ℕ → Bool) (prefix back : List ℕ) → ends p (prefix ++ back) ≡ true → ends p back ≡ true
ends_behind p [] back h = h
ends_behind p (b ∷ prefix) [] h = refl
ends_behind p (b ∷ []) (c ∷ cs) h = h
ends_behind p (b ∷ d ∷ prefix) (c ∷ cs) h = ends_behind p (d ∷ prefix) (c ∷ cs) h

-- ---- the parts between bytes that pass

pub one_part : (p : ℕ → Bool) (text : List ℕ) → NonePass p text → slice_split p text ≡ text ∷ []
one_part p [] none = refl
one_part p (b ∷ bs) none = let f = fails p b bs none in rw (f.0, one_part p bs f.1) refl

pub more_parts : (p : ℕ → Bool) (prefix : List ℕ) (b : ℕ) (rest : List ℕ) → NonePass p prefix → p b ≡ true → slice_split p (prefix ++ b ∷ rest) ≡ prefix ∷ slice_split p rest
more_parts p [] b rest none t = rw t refl
more_parts p (c ∷ cs) b rest none t = let f = fails p c cs none in rw (f.0, more_parts p cs b rest f.1 t) refl
