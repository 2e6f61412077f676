-- Lists of core numbers, and the moves that their steps give.
use Rattle.std.proofs.Common.{◌≡◌, ◌∙◌, ◌+◌, ◌<◌, ◌≤◌, ◌-◌, ℕ, zero, suc, true, List, [], ◌∷◌, ◌++◌, length, get_or, take, replicate, ap, sym, refl, subst, arith, append_assoc}
use Rattle.std.specs.List.{AllByRecursion, range_with_len}
use Rattle.std.proofs.lemmas.List.{append-nil, replicate-append-replicate, take_more}
use Rattle.mon_types.specs.declared.image.Image.{Image}
use Rattle.mon_types.specs.declared.script.Line.{Line}
use Rattle.mon_types.specs.declared.script.StepItem.{StepItem}
use Rattle.protocol.specs.Runs.{Made}
use Rattle.core_behaviour.specs.Runs.{stepped, run_under, rounds}
use Rattle.core_behaviour.proofs.Lagging.{under_more}
use Rattle.lab.specs.declared.bench.Bench.{Bench}
use Rattle.lab.specs.Stands.{Stands}
use Rattle.lab.specs.Rounds.{cores_by, NamesCores, GoesUnder, RunsOut}

-- ---- one list after the other

none_under : (image : Image) (script : List (List Line)) (run : List Made) → run_under image script [] run ≡ run
unfolding run_under
none_under image script run = refl

-- no steps
pub goes_nowhere : (b : Bench) → GoesUnder (λ image. []) b b
goes_nowhere b = λ image script run s. subst (λ z. Stands image script z b) (sym (none_under image script run)) s

-- more steps
pub goes_on : (xs ys : Image → List ℕ) (old mid new : Bench) → GoesUnder xs old mid → GoesUnder ys mid new → GoesUnder (λ image. xs image ++ ys image) old new
goes_on xs ys old mid new f g = λ image script run s.
    subst (λ z. Stands image script z new) (sym (under_more image script (xs image) (ys image) run)) (g image script (run_under image script (xs image) run) (f image script run s))

-- the same list, said otherwise
pub goes_same : (xs ys : Image → List ℕ) (old new : Bench) → ((image : Image) (script : List (List Line)) (run : List Made) → Stands image script run old → xs image ≡ ys image) → GoesUnder xs old new → GoesUnder ys old new
goes_same xs ys old new same g = λ image script run s. subst (λ z. Stands image script (run_under image script z run) new) (same image script run s) (g image script run s)

-- ---- the same core again and again

pub once_more : (n core : ℕ) → replicate n core ++ core ∷ [] ≡ replicate (n + 1) core
once_more n core = replicate-append-replicate n 1 core

-- a core that makes no move makes none in more steps
rests_on : (image : Image) (script : List (List Line)) (core n : ℕ) (run : List Made) → stepped image script run core ≡ run → run_under image script (replicate n core) run ≡ run
unfolding run_under
rests_on image script core zero run e = refl
rests_on image script core (suc n) run e = ap (run_under image script (replicate n core)) e ∙ rests_on image script core n run e

-- so the rest of its steps may be passed over
pub pass_over : (core i n : ℕ) (old mid new : Bench) → i ≤ n → GoesUnder (λ image. replicate i core) old mid → GoesUnder (λ image. core ∷ []) mid new
    → ((image : Image) (script : List (List Line)) (run : List Made) → Stands image script run mid → stepped image script run core ≡ run) → GoesUnder (λ image. replicate n core) old new
unfolding run_under
pass_over core i n old mid new le f g rests = λ image script run s.
    let m = f image script run s in
    let now = run_under image script (replicate i core) run in
    let still = rests image script now m in
    let stands : Stands image script now new = subst (λ z. Stands image script z new) still (g image script now m) in
    let parts : replicate i core ++ replicate (n - i) core ≡ replicate n core = replicate-append-replicate i (n - i) core ∙ ap (λ k. replicate k core) (let e : i + (n - i) ≡ n = omega arith in e) in
    subst (λ z. Stands image script z new)
    (sym (rests_on image script core (n - i) now still) ∙ sym (under_more image script (replicate i core) (replicate (n - i) core) run) ∙ ap (λ z. run_under image script z run) parts) stands

-- ---- schedules

by_append : (xs ys : List StepItem) → cores_by (xs ++ ys) ≡ cores_by xs ++ cores_by ys
unfolding cores_by
by_append [] ys = refl
by_append (x ∷ xs) ys = ap (λ z. replicate x.count x.core ++ z) (by_append xs ys) ∙ sym (append_assoc (replicate x.count x.core) (cores_by xs) (cores_by ys))

by_one : (x : StepItem) → cores_by (x ∷ []) ≡ replicate x.count x.core
unfolding cores_by
by_one x = append-nil (replicate x.count x.core)

pub by_none : (xs : List StepItem) → [] ≡ cores_by (take 0 xs)
unfolding cores_by
by_none xs = refl

-- one item more
pub by_more : (xs : List StepItem) (i : ℕ) (x : StepItem) → i < length xs → x ≡ get_or xs i x → cores_by (take i xs) ++ replicate x.count x.core ≡ cores_by (take (i + 1) xs)
by_more xs i x lt is =
    ap (λ z. cores_by (take i xs) ++ z) (sym (by_one x))
    ∙ sym (by_append (take i xs) (x ∷ []))
    ∙ ap (λ z. cores_by (take i xs ++ z ∷ [])) is
    ∙ ap cores_by (sym (take_more xs i x lt))

-- below the length it does not matter what else would stand there
pub same_item : (xs : List StepItem) (i : ℕ) (d e : StepItem) → i < length xs → get_or xs i d ≡ get_or xs i e
same_item [] i d e lt = absurd (omega arith)
same_item (x ∷ xs) zero d e lt = refl
same_item (x ∷ xs) (suc i) d e lt = same_item xs i d e (omega arith)

-- the core of an item is one of the machine
pub named : (cores : ℕ) (xs : List StepItem) (i : ℕ) (x d : StepItem) → i < length xs → x ≡ get_or xs i d → NamesCores cores xs → x.core < cores
named cores [] i x d lt e h = absurd (omega arith)
named cores (y ∷ xs) zero x d lt e h = subst (λ (z : StepItem). z.core < cores) (sym e) h.0
named cores (y ∷ xs) (suc i) x d lt e h = named cores xs i x d (omega arith) e h.1

-- ---- rounds

range_more : (k n : ℕ) → range_with_len k n ++ (k + n) ∷ [] ≡ range_with_len k (n + 1)
range_more k zero = ap (λ (j : ℕ). j ∷ []) (let e : k + 0 ≡ k = omega arith in e)
range_more k (suc n) =
    ap (λ (z : List ℕ). k ∷ z) (ap (λ (j : ℕ). range_with_len (k + 1) n ++ j ∷ []) (let e : k + suc n ≡ k + 1 + n = omega arith in e) ∙ range_more (k + 1) n)
    ∙ ap (range_with_len k) (let e : suc (n + 1) ≡ suc n + 1 = omega arith in e)

pub next_core : (n : ℕ) → range_with_len 0 n ++ n ∷ [] ≡ range_with_len 0 (n + 1)
next_core n = ap (λ j. range_with_len 0 n ++ j ∷ []) (let e : n ≡ 0 + n = omega arith in e) ∙ range_more 0 n

rounds_more : (cores count : ℕ) → rounds cores count ++ range_with_len 0 cores ≡ rounds cores (count + 1)
unfolding rounds
rounds_more cores zero = sym (append-nil (range_with_len 0 cores))
rounds_more cores (suc count) =
    append_assoc (range_with_len 0 cores) (rounds cores count) (range_with_len 0 cores)
    ∙ ap (λ (z : List ℕ). range_with_len 0 cores ++ z) (rounds_more cores count)
    ∙ ap (rounds cores) (let e : suc (count + 1) ≡ suc count + 1 = omega arith in e)

-- no round
pub runs_none : (image : Image) (script : List (List Line)) (run : List Made) (b : Bench) → Stands image script run b → RunsOut image script [] run b
unfolding run_under rounds
runs_none image script run b s = record { count = 0; stands = s }

-- one more
pub runs_more : (image : Image) (script : List (List Line)) (run : List Made) (mid new : Bench) → RunsOut image script [] run mid → GoesUnder (λ image. range_with_len 0 image.config.cores) mid new → RunsOut image script [] run new
runs_more image script run mid new r g =
    let n = image.config.cores in
    record {
      count = r.count + 1;
      stands = subst (λ z. Stands image script z new)
          (sym (under_more image script (rounds n r.count) (range_with_len 0 n) run) ∙ ap (λ z. run_under image script z run) (rounds_more n r.count))
          (g image script (run_under image script (rounds n r.count) run) r.stands);
    }

-- behind a schedule
pub runs_behind : (q : List ℕ) (old mid new : Bench) → GoesUnder (λ image. q) old mid → ((image : Image) (script : List (List Line)) (run : List Made) → Stands image script run mid → RunsOut image script [] run new)
    → (image : Image) (script : List (List Line)) (run : List Made) → Stands image script run old → RunsOut image script q run new
runs_behind q old mid new g out image script run s =
    let r = out image script (run_under image script q run) (g image script run s) in
    record { count = r.count; stands = subst (λ z. Stands image script z new) (sym (under_more image script q (rounds image.config.cores r.count) run)) r.stands }
