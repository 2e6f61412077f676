-- Split and join keep what the passes have together.
use Rattle.std.proofs.Common.{◌≡◌, ◌⊎◌, inl, inr, ◌<◌, ◌≤◌, ◌+◌, ◌∙◌, ℕ, zero, suc, false, cond, eqb, List, [], ◌∷◌, ◌++◌, length, ap, sym, refl, subst, arith, length-append}
use Rattle.std.specs.Prelude.{filter}
use Rattle.std.specs.List.{AllByRecursion}
use Rattle.std.proofs.lemmas.Bool.{cases_eq, eq-eqb, ne_eqb}
use Rattle.std.proofs.lemmas.Grind.{flat_map-append}
use Rattle.std.proofs.lemmas.List.Elements.{filter-append}
use Rattle.mon_types.specs.Shape.{Shape}
use Rattle.protocol.specs.Views.{View, Moves}
use Rattle.protocol.specs.Runs.{Made, moves_with, moves_of}
use Rattle.protocol.specs.Worlds.{World}
use Rattle.protocol.specs.Passes.{Pass, Spent, Live, new_view, counted, split_off, views_of, keeps, joined, all_views, view_count, IsGivenBy, IsCounted, PassesAreGiven, IsOpen, Behind, Before, SplitKeeps, JoinKeeps}
use Rattle.protocol.specs.Invariant.{SplitKeepsAll, JoinKeepsAll}

-- ---- lists

all_front : {X : Type 0} (P : X → Type 0) (xs ys : List X) → AllByRecursion P (xs ++ ys) → AllByRecursion P xs
all_front P [] ys h = tt
all_front P (x ∷ xs) ys h = (h.0, all_front P xs ys h.1)

all_behind : {X : Type 0} (P : X → Type 0) (xs ys : List X) → AllByRecursion P (xs ++ ys) → AllByRecursion P ys
all_behind P [] ys h = h
all_behind P (x ∷ xs) ys h = all_behind P xs ys h.1

all_both : {X : Type 0} (P : X → Type 0) (xs ys : List X) → AllByRecursion P xs → AllByRecursion P ys → AllByRecursion P (xs ++ ys)
all_both P [] ys h k = k
all_both P (x ∷ xs) ys h k = (h.0, all_both P xs ys h.1 k)

all_map : {X : Type 0} (P Q : X → Type 0) (xs : List X) → ((x : X) → P x → Q x) → AllByRecursion P xs → AllByRecursion Q xs
all_map P Q [] f h = tt
all_map P Q (x ∷ xs) f h = (f x h.0, all_map P Q xs f h.1)

-- ---- views of several passes

views_append : (xs ys : List Pass) → all_views (xs ++ ys) ≡ all_views xs ++ all_views ys
views_append xs ys = flat_map-append views_of xs ys

count_append : (core : ℕ) (xs ys : List View) → view_count core (xs ++ ys) ≡ view_count core xs + view_count core ys
count_append core xs ys = ap length (filter-append (λ v. eqb v.core core) xs ys) ∙ length-append (filter (λ v. eqb v.core core) xs) (filter (λ v. eqb v.core core) ys)

count_passes : (core : ℕ) (xs ys : List Pass) → view_count core (all_views (xs ++ ys)) ≡ view_count core (all_views xs) + view_count core (all_views ys)
count_passes core xs ys = ap (view_count core) (views_append xs ys) ∙ count_append core (all_views xs) (all_views ys)

count_pass : (core : ℕ) (p : Pass) (ps : List Pass) → view_count core (all_views (p ∷ ps)) ≡ view_count core (views_of p) + view_count core (all_views ps)
count_pass core p ps = count_append core (views_of p) (all_views ps)

-- one view
count_one : (core : ℕ) (v : View) (vs : List View) → v.core ≡ core → view_count core (v ∷ vs) ≡ suc (view_count core vs)
count_one core v vs e = ap (λ b. length (cond b (v ∷ filter (λ x. eqb x.core core) vs) (filter (λ x. eqb x.core core) vs))) (eq-eqb v.core core e)

count_other : (core : ℕ) (v : View) (vs : List View) → (v.core ≡ core → ⊥) → view_count core (v ∷ vs) ≡ view_count core vs
count_other core v vs ne = ap (λ b. length (cond b (v ∷ filter (λ x. eqb x.core core) vs) (filter (λ x. eqb x.core core) vs))) (ne_eqb v.core core ne)

-- no view is of a core that is not below
count_none : (core count : ℕ) (vs : List View) → count ≤ core → AllByRecursion (λ v. v.core < count) vs → view_count core vs ≡ 0
count_none core count [] le h = refl
count_none core count (v ∷ vs) le h = count_other core v vs (λ e. omega (arith, h.0)) ∙ count_none core count vs le h.1

-- what holds of the views of all passes, part by part
views_front : (P : View → Type 0) (xs ys : List Pass) → AllByRecursion P (all_views (xs ++ ys)) → AllByRecursion P (all_views xs)
views_front P xs ys h = all_front P (all_views xs) (all_views ys) (subst (AllByRecursion P) (views_append xs ys) h)

views_behind : (P : View → Type 0) (xs ys : List Pass) → AllByRecursion P (all_views (xs ++ ys)) → AllByRecursion P (all_views ys)
views_behind P xs ys h = all_behind P (all_views xs) (all_views ys) (subst (AllByRecursion P) (views_append xs ys) h)

views_both : (P : View → Type 0) (xs ys : List Pass) → AllByRecursion P (all_views xs) → AllByRecursion P (all_views ys) → AllByRecursion P (all_views (xs ++ ys))
views_both P xs ys h k = subst (AllByRecursion P) (sym (views_append xs ys)) (all_both P (all_views xs) (all_views ys) h k)

-- ---- who counts

-- where no view is of core 0, no pass counts
not_first : (count more : ℕ) (ps : List Pass) → view_count 0 (all_views ps) ≡ 0 → AllByRecursion (IsCounted count) ps → AllByRecursion (IsCounted more) ps
unfolding views_of
not_first count more [] none h = tt
not_first count more (Spent ∷ ps) none h = (tt, not_first count more ps none h.1)
not_first count more (Live own pass_count kept ∷ ps) none h =
    let parts = count_pass 0 (Live own pass_count kept) ps in (
      by own.core refl,
      not_first count more ps (omega (arith, parts, none)) h.1,
    )
  where
    by : (c : ℕ) → own.core ≡ c → pass_count ≡ cond (eqb own.core 0) more 0
    by zero e =
        let one = count_one 0 own kept e in
        let parts = count_pass 0 (Live own pass_count kept) ps in
        absurd (omega (arith, one, parts, none))
    by (suc c) e =
        let other : eqb own.core 0 ≡ false = ne_eqb own.core 0 (λ z. omega (arith, z, e)) in
        h.0 ∙ ap (λ b. cond b count 0) other ∙ sym (ap (λ b. cond b more 0) other)

-- ---- split

no_moves : (core count : ℕ) (run : List Made) → count ≤ core → AllByRecursion (λ made. made.core < count) run → moves_of core run ≡ []
unfolding moves_of moves_with
no_moves core count [] le h = refl
no_moves core count (made ∷ run) le h = other made (moves_of core run) (λ e. omega (arith, h.0)) ∙ no_moves core count run le h.1
  where
    other : (m : Made) (ms : Moves) → (m.core ≡ core → ⊥) → moves_with core m ms ≡ ms
    other m ms ne = ap (λ b. cond b ((m.move, m.outcome) ∷ ms) ms) (ne_eqb m.core core ne)

more_given : (shape : Shape) (dram : List ℕ) (count : ℕ) (w : World) (run : List Made) → IsGivenBy shape dram count w run → IsGivenBy shape dram (count + 1) w run
more_given shape dram count w run given = record {
  permitted = given.permitted;
  cores = all_map (λ made. made.core < count) (λ made. made.core < count + 1) run (λ made lt. omega arith) given.cores;
  words = given.words;
  moves = given.moves;
}

module _ (shape : Shape) (dram : List ℕ) (count : ℕ) (w : World) (front : List Pass) (own : View) (kept : List View) (behind : List Pass) where
  before_split : (core pass_count : ℕ) → view_count core (all_views (front ++ Live own pass_count kept ∷ behind)) ≡ view_count core (all_views front) + (view_count core (own ∷ kept) + view_count core (all_views behind))
  unfolding views_of
  before_split core pass_count =
      let a = count_passes core front (Live own pass_count kept ∷ behind) in
      let b = count_pass core (Live own pass_count kept) behind in
      omega (arith, a, b)

  after_split : (core : ℕ) → view_count core (all_views (front ++ (Live own (count + 1) kept ∷ behind ++ Live (new_view count) 0 [] ∷ []))) ≡ view_count core (all_views front) + (view_count core (own ∷ kept) + (view_count core (all_views behind) + view_count core (new_view count ∷ [])))
  unfolding views_of
  after_split core =
      let a = count_passes core front (Live own (count + 1) kept ∷ behind ++ Live (new_view count) 0 [] ∷ []) in
      let b = count_pass core (Live own (count + 1) kept) (behind ++ Live (new_view count) 0 [] ∷ []) in
      let c : view_count core (all_views (behind ++ Live (new_view count) 0 [] ∷ [])) ≡ view_count core (all_views behind) + view_count core (new_view count ∷ []) = count_passes core behind (Live (new_view count) 0 [] ∷ []) in
      omega (arith, a, b, c)

  -- what holds of all views, and of the new one, holds of all views then
  all_split : (P Q : View → Type 0) → ((v : View) → P v → Q v) → Q (new_view count) → AllByRecursion P (all_views (front ++ Live own count kept ∷ behind)) → AllByRecursion Q (all_views (front ++ (Live own (count + 1) kept ∷ behind ++ Live (new_view count) 0 [] ∷ [])))
  unfolding views_of
  all_split P Q more new h =
      let rest = views_behind P front (Live own count kept ∷ behind) h in
      views_both Q front (Live own (count + 1) kept ∷ behind ++ Live (new_view count) 0 [] ∷ [])
      (all_map P Q (all_views front) more (views_front P front (Live own count kept ∷ behind) h))
      (all_both Q (own ∷ kept) (all_views (behind ++ Live (new_view count) 0 [] ∷ []))
      (all_map P Q (own ∷ kept) more (all_front P (own ∷ kept) (all_views behind) rest))
      (views_both Q behind (Live (new_view count) 0 [] ∷ []) (all_map P Q (all_views behind) more (all_behind P (own ∷ kept) (all_views behind) rest)) (new, tt)))

  split_parts : own.core ≡ 0 → count < shape.cores → PassesAreGiven shape dram count (front ++ Live own count kept ∷ behind) w → PassesAreGiven shape dram (count + 1) (front ++ (Live own (count + 1) kept ∷ behind ++ Live (new_view count) 0 [] ∷ [])) w
  unfolding views_of
  split_parts first few given =
      let below : own.core < count = (all_front (λ v. v.core < count) (own ∷ kept) (all_views behind) (views_behind (λ v. v.core < count) front (Live own count kept ∷ behind) given.once.others)).0 in
      let one = given.once.once 0 (omega (arith, first, below)) in
      let parts = before_split 0 count in
      let of_own = count_one 0 own kept first in
      let none_front : view_count 0 (all_views front) ≡ 0 = omega (arith, one, parts, of_own) in
      let none_behind : view_count 0 (all_views behind) ≡ 0 = omega (arith, one, parts, of_own) in
      let counted_behind = all_behind (IsCounted count) front (Live own count kept ∷ behind) given.counted in
      record {
        few = omega arith;
        counted = all_both (IsCounted (count + 1)) front (Live own (count + 1) kept ∷ behind ++ Live (new_view count) 0 [] ∷ [])
            (not_first count (count + 1) front none_front (all_front (IsCounted count) front (Live own count kept ∷ behind) given.counted)) (
              sym (ap (λ b. cond b (count + 1) 0) (eq-eqb own.core 0 first)),
              all_both (IsCounted (count + 1)) behind (Live (new_view count) 0 [] ∷ []) (not_first count (count + 1) behind none_behind counted_behind.1)
                  (sym (ap (λ b. cond b (count + 1) 0) (ne_eqb count 0 (λ e. omega (arith, e, below)))), tt),
            );
        once = record { once = λ core lt. once core lt (cases_eq core count); others = all_split (λ v. v.core < count) (λ v. v.core < count + 1) (λ v lt. omega arith) (omega arith) given.once.others };
        views = all_split (λ v. v.moves ≡ w.moves v.core) (λ v. v.moves ≡ w.moves v.core) (λ v e. e)
            (sym (given.given.1.moves count ∙ no_moves count count given.given.0 (omega arith) given.given.1.cores)) given.views;
        given = (given.given.0, more_given shape dram count w given.given.0 given.given.1);
      }
    where
      once : (core : ℕ) → core < count + 1 → (core ≡ count) ⊎ (core ≡ count → ⊥) → view_count core (all_views (front ++ (Live own (count + 1) kept ∷ behind ++ Live (new_view count) 0 [] ∷ []))) ≡ 1
      once core lt (inl e) =
          let none = count_none core count (all_views (front ++ Live own count kept ∷ behind)) (omega (arith, e)) given.once.others in
          let new = count_one core (new_view count) [] (sym e) in
          let a = before_split core count in
          let b = after_split core in
          omega (arith, none, new, a, b)
      once core lt (inr ne) =
          let one = given.once.once core (omega (arith, ne)) in
          let new = count_other core (new_view count) [] (λ e. ne (sym e)) in
          let a = before_split core count in
          let b = after_split core in
          omega (arith, one, new, a, b)

pub split_keeps : SplitKeeps
unfolding counted split_off
split_keeps shape dram count passes later w given split =
    subst (λ ps. PassesAreGiven shape dram (count + 1) ps w) (sym split.later_are)
    (split_parts shape dram count w split.front split.own split.kept split.behind split.of_first split.few
    (subst (λ ps. PassesAreGiven shape dram count ps w) split.passes_are given))

-- ---- join

-- the same views count as before, what holds of all holds of all, and who counts does
keeps_given : (shape : Shape) (dram : List ℕ) (count : ℕ) (passes later : List Pass) (w : World) → ((core : ℕ) → view_count core (all_views later) ≡ view_count core (all_views passes)) → ((P : View → Type 0) → AllByRecursion P (all_views passes) → AllByRecursion P (all_views later)) → (AllByRecursion (IsCounted count) passes → AllByRecursion (IsCounted count) later) → PassesAreGiven shape dram count passes w → PassesAreGiven shape dram count later w
keeps_given shape dram count passes later w same all counts given = record {
  few = given.few;
  counted = counts given.counted;
  once = record { once = λ core lt. same core ∙ given.once.once core lt; others = all (λ v. v.core < count) given.once.others };
  views = all (λ v. v.moves ≡ w.moves v.core) given.views;
  given = given.given;
}

module _ (front between behind : List Pass) (a b c d : Pass) where
  -- two passes are others, which have the same views together
  four_count : (core : ℕ) → view_count core (views_of c) + view_count core (views_of d) ≡ view_count core (views_of a) + view_count core (views_of b) → view_count core (all_views (front ++ (c ∷ between ++ d ∷ behind))) ≡ view_count core (all_views (front ++ (a ∷ between ++ b ∷ behind)))
  four_count core same =
      let f = count_passes core front (c ∷ between ++ d ∷ behind) in
      let g = count_pass core c (between ++ d ∷ behind) in
      let h = count_passes core between (d ∷ behind) in
      let i = count_pass core d behind in
      let j = count_passes core front (a ∷ between ++ b ∷ behind) in
      let k = count_pass core a (between ++ b ∷ behind) in
      let l = count_passes core between (b ∷ behind) in
      let m = count_pass core b behind in
      omega (arith, same, f, g, h, i, j, k, l, m)

  four_all : (P : View → Type 0) → (AllByRecursion P (views_of a) → AllByRecursion P (views_of b) → AllByRecursion P (views_of c) × AllByRecursion P (views_of d)) → AllByRecursion P (all_views (front ++ (a ∷ between ++ b ∷ behind))) → AllByRecursion P (all_views (front ++ (c ∷ between ++ d ∷ behind)))
  four_all P same h =
      let rest = views_behind P front (a ∷ between ++ b ∷ behind) h in
      let of_a = all_front P (views_of a) (all_views (between ++ b ∷ behind)) rest in
      let rest2 = all_behind P (views_of a) (all_views (between ++ b ∷ behind)) rest in
      let rest3 = views_behind P between (b ∷ behind) rest2 in
      let two = same of_a (all_front P (views_of b) (all_views behind) rest3) in
      views_both P front (c ∷ between ++ d ∷ behind) (views_front P front (a ∷ between ++ b ∷ behind) h)
      (all_both P (views_of c) (all_views (between ++ d ∷ behind)) two.0
      (views_both P between (d ∷ behind) (views_front P between (b ∷ behind) rest2)
      (all_both P (views_of d) (all_views behind) two.1 (all_behind P (views_of b) (all_views behind) rest3))))

  four_counted : (count : ℕ) → (IsCounted count a → IsCounted count b → IsCounted count c × IsCounted count d) → AllByRecursion (IsCounted count) (front ++ (a ∷ between ++ b ∷ behind)) → AllByRecursion (IsCounted count) (front ++ (c ∷ between ++ d ∷ behind))
  four_counted count same h =
      let rest = all_behind (IsCounted count) front (a ∷ between ++ b ∷ behind) h in
      let rest2 = all_behind (IsCounted count) between (b ∷ behind) rest.1 in
      let two = same rest.0 rest2.0 in
      all_both (IsCounted count) front (c ∷ between ++ d ∷ behind) (all_front (IsCounted count) front (a ∷ between ++ b ∷ behind) h)
      (two.0, all_both (IsCounted count) between (d ∷ behind) (all_front (IsCounted count) between (b ∷ behind) rest.1) (two.1, rest2.1))

  pub four_given : (shape : Shape) (dram : List ℕ) (count : ℕ) (w : World) → ((core : ℕ) → view_count core (views_of c) + view_count core (views_of d) ≡ view_count core (views_of a) + view_count core (views_of b)) → ((P : View → Type 0) → AllByRecursion P (views_of a) → AllByRecursion P (views_of b) → AllByRecursion P (views_of c) × AllByRecursion P (views_of d)) → (IsCounted count a → IsCounted count b → IsCounted count c × IsCounted count d) → PassesAreGiven shape dram count (front ++ (a ∷ between ++ b ∷ behind)) w → PassesAreGiven shape dram count (front ++ (c ∷ between ++ d ∷ behind)) w
  four_given shape dram count w counts all said = keeps_given shape dram count (front ++ (a ∷ between ++ b ∷ behind)) (front ++ (c ∷ between ++ d ∷ behind)) w (λ core. four_count core (counts core)) (λ P. four_all P (all P)) (four_counted count said)

-- a pass that is joined into another
join_count : (core : ℕ) (into other : Pass) → IsOpen into → view_count core (views_of (joined into other)) ≡ view_count core (views_of into) + view_count core (views_of other)
unfolding keeps views_of
join_count core Spent other is_open = absurd is_open
join_count core (Live own pass_count kept) other is_open = count_append core (own ∷ kept) (views_of other)

join_all : (P : View → Type 0) (into other : Pass) → IsOpen into → AllByRecursion P (views_of into) → AllByRecursion P (views_of other) → AllByRecursion P (views_of (joined into other))
unfolding keeps views_of
join_all P Spent other is_open h k = absurd is_open
join_all P (Live own pass_count kept) other is_open h k = all_both P (own ∷ kept) (views_of other) h k

join_counted : (count : ℕ) (into other : Pass) → IsOpen into → IsCounted count into → IsCounted count (joined into other)
unfolding keeps
join_counted count Spent other is_open h = absurd is_open
join_counted count (Live own pass_count kept) other is_open h = h

spent_count : (core : ℕ) → view_count core (views_of Spent) ≡ 0
unfolding views_of
spent_count core = refl

spent_all : (P : View → Type 0) → AllByRecursion P (views_of Spent)
unfolding views_of
spent_all P = tt

pub join_keeps : JoinKeeps
join_keeps shape dram count passes later w given (Behind front between behind into other is_open over are later_are) =
    subst (λ ps. PassesAreGiven shape dram count ps w) (sym later_are)
    (four_given front between behind into other (joined into other) Spent shape dram count w
    (λ core. let e = join_count core into other is_open in let f = spent_count core in omega (arith, e, f))
    (λ P h k. (join_all P into other is_open h k, spent_all P))
    (λ h k. (join_counted count into other is_open h, tt))
    (subst (λ ps. PassesAreGiven shape dram count ps w) are given))
join_keeps shape dram count passes later w given (Before front between behind into other is_open over are later_are) =
    subst (λ ps. PassesAreGiven shape dram count ps w) (sym later_are)
    (four_given front between behind other into Spent (joined into other) shape dram count w
    (λ core. let e = join_count core into other is_open in let f = spent_count core in omega (arith, e, f))
    (λ P h k. (spent_all P, join_all P into other is_open k h))
    (λ h k. (tt, join_counted count into other is_open k))
    (subst (λ ps. PassesAreGiven shape dram count ps w) are given))

-- ---- and the other items, which say nothing of passes

pub split_keeps_all : SplitKeepsAll
split_keeps_all shape dram count passes later w all split = record { item_1 = split_keeps shape dram count passes later w all.item_1 split; others = all.others }

pub join_keeps_all : JoinKeepsAll
join_keeps_all shape dram count passes later w all join = record { item_1 = join_keeps shape dram count passes later w all.item_1 join; others = all.others }
