-- Each permitted move acts on a word of the machine, and is one more of the list that gives the words and the views.
use Rattle.std.proofs.Common.{◌≡◌, inl, inr, ◌+◌, ◌<◌, ◌≤◌, ◌∙◌, ℕ, suc, Bool, true, false, cond, eqb, Option, Some, None, List, [], ◌∷◌, ◌++◌, map, length, ap, sym, refl, subst, length-append, arith}
use Rattle.std.specs.Prelude.{filter}
use Rattle.std.specs.List.{AllByRecursion}
use Rattle.std.proofs.lemmas.Bool.{eq-eqb, ne_eqb}
use Rattle.std.proofs.lemmas.List.Elements.{filter-append}
use Rattle.mon_types.specs.Shape.{Shape, is_shape}
use Rattle.mon_types.specs.declared.object.ObjectId.{ObjectId}
use Rattle.mon_model.specs.State.{State}
use Rattle.lock_plan.specs.Objects.{HasObject}
use Rattle.dram_map.specs.Addresses.{word_total}
use Rattle.mon_records.specs.Members.{In}
use Rattle.hist.specs.declared.event.Entry.{Entry}
use Rattle.loaded_pages.specs.Content.{Content}
use Rattle.protocol.specs.declared.action.Action.TheVariants as actions
use Rattle.protocol.specs.declared.action.Move.{Move}
use Rattle.protocol.specs.declared.action.Move.TheVariants as moves
use Rattle.protocol.specs.Places.{Place, HasWord, Memory, same_place, with_word}
use Rattle.protocol.specs.Moves.{action_place, place_of, word_found, outcome_of, leaves, left_at, memory_after_move}
use Rattle.protocol.specs.Words.{IsPlaced}
use Rattle.protocol.specs.Views.{View, Moves, held_of, answers_of, issuer_of, own_lock_word}
use Rattle.protocol.specs.Permitted.{Permitted, MayGoOn}
use Rattle.protocol.specs.Runs.{Made, moves_with, moves_of, memory_after}
use Rattle.protocol.specs.Worlds.{World, made_now, world_after}
use Rattle.protocol.specs.Passes.{Pass, Spent, Live, views_of, all_views, view_count, IsGivenBy, IsCounted, pass_after, IsOfCore, IsLive, MoveIsGiven}
use Rattle.protocol_laws.proofs.Steps.{at_read, at_write, at_store, at_unlock, at_load}
use Rattle.protocol_steps.proofs.Kept.{Kept}
use Rattle.protocol_steps.proofs.Moving.{at_move, wide_region}

-- ---- the place of a move

module _ (shape : Shape) (is : is_shape shape ≡ true) (memory : Memory) (moved : ℕ → Moves) (h : List Entry) (s : State) (content : Content) (kept : Kept shape memory moved h s content) (core : ℕ) (lt : core < shape.cores) where
  there : (o : ObjectId) → In o (held_of (moved core)) → HasObject shape o
  there = (kept.cores core lt).there

  try_placed : (o : ObjectId) → MayGoOn shape core (moved core) (actions.TryLock o) → HasObject shape o
  unfolding issuer_of
  try_placed o p =
      let at = at_move shape is memory moved h s content kept core lt (actions.TryLock o) p in
      subst (λ z. HasObject z o) kept.shaped (at.safe.0 s content memory at.looks (kept.sound core lt)).0

  pub is_placed : (move : Move) → Permitted shape core (moved core) move → IsPlaced shape (place_of move)
  unfolding place_of action_place
  is_placed (moves.InCall (actions.TryLock o)) p = try_placed o p
  is_placed (moves.InCall (actions.Read o i)) p =
      let at = at_read (issuer_of core (moved core)) p.call (answers_of (moved core)) s content (held_of (moved core)) memory o i p.next (at_move shape is memory moved h s content kept core lt (actions.Read o i) p) in
      (there o at.0, at.1)
  is_placed (moves.InCall (actions.Write o i word)) p =
      let at = at_write (issuer_of core (moved core)) p.call (answers_of (moved core)) s content (held_of (moved core)) memory o i word p.next (at_move shape is memory moved h s content kept core lt (actions.Write o i word) p) in
      (there o at.0, at.1)
  is_placed (moves.InCall (actions.Draw draft)) p = tt
  is_placed (moves.InCall (actions.Unlock o)) p =
      let at = at_unlock (issuer_of core (moved core)) p.call (answers_of (moved core)) s content (held_of (moved core)) memory o p.next (at_move shape is memory moved h s content kept core lt (actions.Unlock o) p) in
      there o (subst (In o) (sym at.1) (inl refl))
  is_placed (moves.InCall (actions.Load i)) p = subst (λ z. i < word_total z) kept.shaped (at_load (issuer_of core (moved core)) p.call (answers_of (moved core)) s content (held_of (moved core)) memory i p.next (at_move shape is memory moved h s content kept core lt (actions.Load i) p)).0
  is_placed (moves.InCall (actions.Store i word)) p = subst (λ z. i < word_total z) kept.shaped (at_store (issuer_of core (moved core)) p.call (answers_of (moved core)) s content (held_of (moved core)) memory i word p.next (at_move shape is memory moved h s content kept core lt (actions.Store i word) p)).0
  is_placed (moves.Look r owner) p = (p.region, wide_region r)
  is_placed (moves.Load i) p = p.word
  is_placed (moves.Store i word) p = p.word
  is_placed (moves.Swap i old word) p = p.word
  is_placed (moves.Stop line why) p = tt

-- ---- one move more of the list

found_same : (shape : Shape) (m memory : Memory) (place : Option Place) → ((p : Place) → HasWord shape p → m p ≡ memory p) → IsPlaced shape place → word_found m place ≡ word_found memory place
unfolding word_found
found_same shape m memory None same placed = refl
found_same shape m memory (Some p) same placed = same p placed

left_same : (shape : Shape) (m memory : Memory) (place : Option Place) (a b : ℕ) → ((p : Place) → HasWord shape p → m p ≡ memory p) → a ≡ b → (p : Place) → HasWord shape p → left_at m place a p ≡ left_at memory place b p
unfolding left_at with_word
left_same shape m memory None a b same e p has = same p has
left_same shape m memory (Some q) a b same e p has = ap (λ z. cond (same_place q p) z (m p)) e ∙ ap (λ z. cond (same_place q p) b z) (same p has)

one_more : (shape : Shape) (dram : List ℕ) (count : ℕ) (w : World) (core : ℕ) (move : Move) (run : List Made) → core < count → count ≤ shape.cores → Permitted shape core (w.moves core) move → IsPlaced shape (place_of move) → IsGivenBy shape dram count w run → IsGivenBy shape dram count (world_after w core move) (made_now w core move ∷ run)
unfolding world_after memory_after moves_of memory_after_move
one_more shape dram count w core move run lt few p placed given =
    let found = found_same shape w.memory (memory_after shape dram run) (place_of move) given.words placed in
    record {
      permitted = (
        record {
          core = omega (arith, lt, few);
          permitted = subst (λ ms. Permitted shape core ms move) (given.moves core) p;
          outcome = ap (outcome_of move) found;
        },
        given.permitted,
      );
      cores = (lt, given.cores);
      words = left_same shape w.memory (memory_after shape dram run) (place_of move) (leaves (own_lock_word core (w.moves core)) move (word_found w.memory (place_of move))) (leaves (own_lock_word core (moves_of core run)) move (word_found (memory_after shape dram run) (place_of move))) given.words
          (ap (λ ms. leaves (own_lock_word core ms) move (word_found w.memory (place_of move))) (given.moves core) ∙ ap (leaves (own_lock_word core (moves_of core run)) move) found);
      moves = λ c. ap (moves_with c (made_now w core move)) (given.moves c);
    }

-- ---- the passes

all_split : {X : Type 0} (P : X → Type 0) (xs ys : List X) → AllByRecursion P (xs ++ ys) → AllByRecursion P xs × AllByRecursion P ys
all_split P [] ys h = (tt, h)
all_split P (x ∷ xs) ys h = let rest = all_split P xs ys h.1 in ((h.0, rest.0), rest.1)

all_join : {X : Type 0} (P : X → Type 0) (xs ys : List X) → AllByRecursion P xs → AllByRecursion P ys → AllByRecursion P (xs ++ ys)
all_join P [] ys h k = k
all_join P (x ∷ xs) ys h k = (h.0, all_join P xs ys h.1 k)

-- a live pass is of a core that was made
pub live_below : (core count : ℕ) (passes : List Pass) → IsLive core passes → AllByRecursion (λ v. v.core < count) (all_views passes) → core < count
unfolding views_of
live_below core count [] live all = absurd live
live_below core count (pass ∷ passes) live all = elim live [
  | inl is ↦ by pass is (all_split (λ v. v.core < count) (views_of pass) (all_views passes) all).0
  | inr later ↦ live_below core count passes later (all_split (λ v. v.core < count) (views_of pass) (all_views passes) all).1
]
  where
    by : (pass : Pass) → IsOfCore core pass → AllByRecursion (λ v. v.core < count) (views_of pass) → core < count
    by Spent is all = absurd is
    by (Live own n kept) is all = subst (λ c. c < count) is all.0

-- the views that passes keep
kept_of : Pass → List View
kept_of Spent = []
kept_of (Live own n kept) = kept

count_append : (core : ℕ) (xs ys : List View) → view_count core (xs ++ ys) ≡ view_count core xs + view_count core ys
count_append core xs ys = ap length (filter-append (λ v. eqb v.core core) xs ys) ∙ length-append (filter (λ v. eqb v.core core) xs) (filter (λ v. eqb v.core core) ys)

count_less : (core : ℕ) (v : View) (vs : List View) → view_count core vs ≤ view_count core (v ∷ vs)
count_less core v vs = by (eqb v.core core)
  where
    by : (b : Bool) → view_count core vs ≤ length (cond b (v ∷ filter (λ x. eqb x.core core) vs) (filter (λ x. eqb x.core core) vs))
    by true = omega arith
    by false = omega arith

count_here : (core : ℕ) (v : View) (vs : List View) → v.core ≡ core → view_count core (v ∷ vs) ≡ suc (view_count core vs)
count_here core v vs e = ap (λ b. length (cond b (v ∷ filter (λ x. eqb x.core core) vs) (filter (λ x. eqb x.core core) vs))) (eq-eqb v.core core e)

none_there : (core : ℕ) (vs : List View) → view_count core vs ≡ 0 → AllByRecursion (λ v. v.core ≡ core → ⊥) vs
none_there core [] e = tt
none_there core (v ∷ vs) e = (
  (λ is. let here = count_here core v vs is in absurd (omega (arith, here, e))),
  none_there core vs (let less = count_less core v vs in omega (arith, less, e)),
)

kept_less : (core : ℕ) (pass : Pass) → view_count core (kept_of pass) ≤ view_count core (views_of pass)
unfolding kept_of views_of
kept_less core Spent = omega arith
kept_less core (Live own n kept) = count_less core own kept

kept_least : (core : ℕ) (pass : Pass) → IsOfCore core pass → view_count core (views_of pass) ≡ suc (view_count core (kept_of pass))
unfolding kept_of views_of
kept_least core Spent is = absurd is
kept_least core (Live own n kept) is = count_here core own kept is

-- no pass of these keeps a view of the core
NoneKept : ℕ → List Pass → Type 0
NoneKept core [] = Unit {0}
NoneKept core (pass ∷ passes) = AllByRecursion (λ v. v.core ≡ core → ⊥) (kept_of pass) × NoneKept core passes

count_pass : (core : ℕ) (pass : Pass) (passes : List Pass) → view_count core (all_views (pass ∷ passes)) ≡ view_count core (views_of pass) + view_count core (all_views passes)
count_pass core pass passes = count_append core (views_of pass) (all_views passes)

none_of_none : (core : ℕ) (passes : List Pass) → view_count core (all_views passes) ≡ 0 → NoneKept core passes
unfolding NoneKept
none_of_none core [] e = tt
none_of_none core (pass ∷ passes) e =
    let parts = count_pass core pass passes in
    let less = kept_less core pass in (
      none_there core (kept_of pass) (omega (arith, parts, less, e)),
      none_of_none core passes (omega (arith, parts, e)),
    )

some_live : (core : ℕ) (passes : List Pass) → IsLive core passes → 1 ≤ view_count core (all_views passes)
some_live core [] live = absurd live
some_live core (pass ∷ passes) live =
    let parts = count_pass core pass passes in
    elim live [
      | inl is ↦ let least = kept_least core pass is in omega (arith, parts, least)
      | inr later ↦ let rest = some_live core passes later in omega (arith, parts, rest)
    ]

-- where the core has a live pass, and one view
none_kept : (core : ℕ) (passes : List Pass) → IsLive core passes → view_count core (all_views passes) ≡ 1 → NoneKept core passes
unfolding NoneKept
none_kept core [] live e = tt
none_kept core (pass ∷ passes) live e =
    let parts = count_pass core pass passes in
    elim live [
      | inl is ↦ let least = kept_least core pass is in (none_there core (kept_of pass) (omega (arith, parts, least, e)), none_of_none core passes (omega (arith, parts, least, e)))
      | inr later ↦
          let less = kept_less core pass in
          let rest = some_live core passes later in
          (none_there core (kept_of pass) (omega (arith, parts, less, rest, e)), none_kept core passes later (omega (arith, parts, rest, e, alone core pass passes parts rest e)))
    ]
  where
    alone : (core : ℕ) (pass : Pass) (passes : List Pass) → view_count core (all_views (pass ∷ passes)) ≡ view_count core (views_of pass) + view_count core (all_views passes) → 1 ≤ view_count core (all_views passes) → view_count core (all_views (pass ∷ passes)) ≡ 1 → view_count core (all_views passes) ≡ 1
    alone core pass passes parts rest e = omega (arith, parts, rest, e)

module _ (made : Made) where
  counted_after : (count : ℕ) (passes : List Pass) → AllByRecursion (IsCounted count) passes → AllByRecursion (IsCounted count) (map (pass_after made) passes)
  unfolding pass_after
  counted_after count [] h = tt
  counted_after count (Spent ∷ passes) h = (tt, counted_after count passes h.1)
  counted_after count (Live own n kept ∷ passes) h = (h.0, counted_after count passes h.1)

  others_after : (count : ℕ) (passes : List Pass) → AllByRecursion (λ v. v.core < count) (all_views passes) → AllByRecursion (λ v. v.core < count) (all_views (map (pass_after made) passes))
  unfolding pass_after views_of
  others_after count [] h = tt
  others_after count (Spent ∷ passes) h = others_after count passes h
  others_after count (Live own n kept ∷ passes) h =
      let parts = all_split (λ v. v.core < count) kept (all_views passes) h.1 in
      (h.0, all_join (λ v. v.core < count) kept (all_views (map (pass_after made) passes)) parts.0 (others_after count passes parts.1))

  count_after : (core : ℕ) (passes : List Pass) → view_count core (all_views (map (pass_after made) passes)) ≡ view_count core (all_views passes)
  unfolding pass_after views_of
  count_after core [] = refl
  count_after core (Spent ∷ passes) = count_after core passes
  count_after core (Live own n kept ∷ passes) =
      let rest : view_count core (kept ++ all_views (map (pass_after made) passes)) ≡ view_count core (kept ++ all_views passes) = count_append core kept (all_views (map (pass_after made) passes)) ∙ ap (λ z. view_count core kept + z) (count_after core passes) ∙ sym (count_append core kept (all_views passes)) in
      by (eqb own.core core) rest
    where
      by : (b : Bool) → view_count core (kept ++ all_views (map (pass_after made) passes)) ≡ view_count core (kept ++ all_views passes) →
          length (cond b (record { core = own.core; moves = moves_with own.core made own.moves } ∷ filter (λ x. eqb x.core core) (kept ++ all_views (map (pass_after made) passes))) (filter (λ x. eqb x.core core) (kept ++ all_views (map (pass_after made) passes)))) ≡ length (cond b (own ∷ filter (λ x. eqb x.core core) (kept ++ all_views passes)) (filter (λ x. eqb x.core core) (kept ++ all_views passes)))
      by true e = ap suc e
      by false e = e

  -- another core's view
  other_view : (before : ℕ → Moves) (v : View) → (v.core ≡ made.core → ⊥) → v.moves ≡ before v.core → v.moves ≡ moves_with v.core made (before v.core)
  unfolding moves_with
  other_view before v ne e = e ∙ sym (ap (λ b. cond b ((made.move, made.outcome) ∷ before v.core) (before v.core)) (ne_eqb made.core v.core (λ f. ne (sym f))))

  other_views : (before : ℕ → Moves) (vs : List View) → AllByRecursion (λ v. v.core ≡ made.core → ⊥) vs → AllByRecursion (λ v. v.moves ≡ before v.core) vs → AllByRecursion (λ v. v.moves ≡ moves_with v.core made (before v.core)) vs
  other_views before [] apart h = tt
  other_views before (v ∷ vs) apart h = (other_view before v apart.0 h.0, other_views before vs apart.1 h.1)

  views_after : (before : ℕ → Moves) (passes : List Pass) → NoneKept made.core passes → AllByRecursion (λ v. v.moves ≡ before v.core) (all_views passes) → AllByRecursion (λ v. v.moves ≡ moves_with v.core made (before v.core)) (all_views (map (pass_after made) passes))
  unfolding pass_after views_of kept_of NoneKept
  views_after before [] apart h = tt
  views_after before (Spent ∷ passes) apart h = views_after before passes apart.1 h
  views_after before (Live own n kept ∷ passes) apart h =
      let parts = all_split (λ v. v.moves ≡ before v.core) kept (all_views passes) h.1 in (
        ap (moves_with own.core made) h.0,
        all_join (λ v. v.moves ≡ moves_with v.core made (before v.core)) kept (all_views (map (pass_after made) passes)) (other_views before kept apart.0 parts.0) (views_after before passes apart.1 parts.1),
      )

pub move_is_given : MoveIsGiven
unfolding world_after
move_is_given shape dram count passes w core move given live p placed =
    let made : Made = made_now w core move in
    let low : core < count = live_below core count passes live given.once.others in
    record {
      few = given.few;
      counted = counted_after made count passes given.counted;
      once = record {
        once = λ c lt. count_after made c passes ∙ given.once.once c lt;
        others = others_after made count passes given.once.others;
      };
      views = views_after made w.moves passes (none_kept core passes live (given.once.once core low)) given.views;
      given = (made ∷ given.given.0, one_more shape dram count w core move given.given.0 low given.few p placed given.given.1);
    }
