-- Thread counts, and cores inside enclaves, after each kind of change.
use Rattle.std.proofs.Common.{◌≡◌, ℕ, ◌+◌, ◌<◌, Bool, true, false, cond, List, length, get_or, slice_set, count_by, inl, inr, refl, sym, ap, ◌∙◌, subst, arith, true≢false}
use Rattle.std.proofs.lemmas.List.{get_or_past, get_or-set_same, get_or-set_other}
use Rattle.std.proofs.lemmas.List.Sums.{sum_by-set}
use Rattle.std.proofs.lemmas.Bool.Decides.{leb_tells}
use Rattle.mon_types.specs.Enclaves.{empty_enclave}
use Rattle.mon_types.specs.Threads.{empty_thread}
use Rattle.mon_types.specs.declared.enclave.Enclave.{Enclave}
use Rattle.mon_types.specs.declared.thread.ThreadState.{ThreadState}
use Rattle.mon_types.specs.declared.thread.ThreadState.TheVariants as states
use Rattle.mon_types.specs.declared.thread.Thread.{Thread}
use Rattle.mon_types.specs.declared.thread.Mode.{Mode}
use Rattle.mon_types.specs.declared.thread.Mode.TheVariants as modes
use Rattle.mon_model.specs.RegionCalls.{is_initialized}
use Rattle.mon_types.specs.Modes.{own_slot, own_thread}
use Rattle.mon_facts.specs.Facts.{is_thread_of}
use Rattle.mon_facts.proofs.OneChanged.{same-is, at_set}

-- ---- thread counts

abbrev pub one_if : Bool → ℕ
one_if b = cond b 1 0

abbrev pub thread_count : ℕ → List Thread → ℕ
thread_count e ts = count_by (λ thread. is_thread_of e thread.state) ts

-- `ThreadsAreCounted` of the tables
abbrev pub AreCounted : List Enclave → List Thread → Type 0
AreCounted es ts = (e : ℕ) → (get_or es e empty_enclave).threads ≡ thread_count e ts

pub count-set : (e : ℕ) (ts : List Thread) (t : ℕ) (x : Thread) → t < length ts
    → thread_count e (slice_set ts t x) + one_if (is_thread_of e (get_or ts t empty_thread).state) ≡ thread_count e ts + one_if (is_thread_of e x.state)
count-set e ts t x lt = sum_by-set (λ (thread : Thread). cond (is_thread_of e thread.state) 1 0) ts t x empty_thread lt

count-same : (e : ℕ) (ts : List Thread) (t : ℕ) (x : Thread) → t < length ts → is_thread_of e x.state ≡ is_thread_of e (get_or ts t empty_thread).state
    → thread_count e (slice_set ts t x) ≡ thread_count e ts
count-same e ts t x lt same = omega (arith, count-set e ts t x lt, ap one_if same)

-- another record with the same count
pub counts-enclave : (es : List Enclave) (ts : List Thread) (i : ℕ) (x : Enclave) → i < length es → x.threads ≡ (get_or es i empty_enclave).threads → AreCounted es ts → AreCounted (slice_set es i x) ts
counts-enclave es ts i x lt same h e =
    at_set (λ (y : Enclave). y.threads ≡ thread_count e ts) es i e x empty_enclave lt (λ is. rw (is, same) (h i)) (λ apart. h e)

-- another thread of the same enclave
pub counts-thread : (es : List Enclave) (ts : List Thread) (t : ℕ) (x : Thread) → t < length ts → ((e : ℕ) → is_thread_of e x.state ≡ is_thread_of e (get_or ts t empty_thread).state) → AreCounted es ts → AreCounted es (slice_set ts t x)
counts-thread es ts t x lt same h e = h e ∙ sym (count-same e ts t x lt (same e))

-- a thread comes to an enclave or leaves it
pub counts-both : (es : List Enclave) (ts : List Thread) (i t : ℕ) (y : Enclave) (x : Thread) → i < length es → t < length ts
    → ((e : ℕ) → (e ≡ i → ⊥) → is_thread_of e x.state ≡ is_thread_of e (get_or ts t empty_thread).state)
    → y.threads + one_if (is_thread_of i (get_or ts t empty_thread).state) ≡ (get_or es i empty_enclave).threads + one_if (is_thread_of i x.state)
    → AreCounted es ts → AreCounted (slice_set es i y) (slice_set ts t x)
counts-both es ts i t y x p q others here h e =
    at_set (λ (a : Enclave). a.threads ≡ thread_count e (slice_set ts t x)) es i e y empty_enclave p
    (λ is. rw is (omega (arith, count-set i ts t x q, here, h i)))
    (λ ne. h e ∙ sym (count-same e ts t x q (others e ne)))

-- ---- cores inside enclaves

-- `InsideAreRunning`, `RunningAreInside`, `InsideAreAlone` and `RunningAreInitialized` of the tables
abbrev pub AreRunning : List Thread → List Mode → Type 0
AreRunning ts ms = (core e t : ℕ) → get_or ms core modes.Os ≡ modes.Inside e t → (get_or ts t empty_thread).state ≡ states.Running e

abbrev pub AreInside : ℕ → List Thread → List Mode → Type 0
AreInside n ts ms = (e t : ℕ) → (get_or ts t empty_thread).state ≡ states.Running e → (core : ℕ) × (core < n) × (get_or ms core modes.Os ≡ modes.Inside e t)

abbrev pub AreAlone : List Mode → Type 0
AreAlone ms = (core other e t : ℕ) → get_or ms core modes.Os ≡ modes.Inside e t → get_or ms other modes.Os ≡ modes.Inside e t → other ≡ core

abbrev pub AreInitialized : List Enclave → List Thread → Type 0
AreInitialized es ts = (e t : ℕ) → (get_or ts t empty_thread).state ≡ states.Running e → is_initialized (get_or es e empty_enclave).stage ≡ true

-- runs in no enclave
abbrev pub IsStill : ThreadState → Type 0
IsStill state = (e : ℕ) → state ≡ states.Running e → ⊥

is_running : ThreadState → Bool
is_running states.Empty = false
is_running (states.Ready e) = false
is_running (states.Running e) = true

pub running-empty : (e : ℕ) → states.Empty ≡ states.Running e → ⊥
unfolding is_running
running-empty e h = true≢false (sym (ap is_running h))

pub still-empty : (state : ThreadState) → state ≡ states.Empty → IsStill state
unfolding is_running
still-empty state is e r = true≢false (ap is_running (sym r ∙ is))

pub still-ready : (state : ThreadState) (i : ℕ) → state ≡ states.Ready i → IsStill state
unfolding is_running
still-ready state i is e r = true≢false (ap is_running (sym r ∙ is))

running_slot : ThreadState → ℕ
running_slot states.Empty = 0
running_slot (states.Ready e) = e
running_slot (states.Running e) = e

pub same_slot : (e f : ℕ) → states.Running e ≡ states.Running f → e ≡ f
unfolding running_slot
same_slot e f h = ap running_slot h

is_inside : Mode → Bool
is_inside modes.Os = false
is_inside (modes.Inside e t) = true

pub os-outside : (m : Mode) (e t : ℕ) → m ≡ modes.Os → m ≡ modes.Inside e t → ⊥
unfolding is_inside
os-outside m e t os inside = true≢false (ap is_inside (sym inside ∙ os))

-- a thread that runs where it ran before, or does not run before and after
pub running-kept : (ts : List Thread) (ms : List Mode) (t : ℕ) (x : Thread) → t < length ts
    → ((e : ℕ) → (get_or ts t empty_thread).state ≡ states.Running e → x.state ≡ states.Running e) → AreRunning ts ms → AreRunning (slice_set ts t x) ms
running-kept ts ms t x lt on h core e j m =
    at_set (λ (y : Thread). y.state ≡ states.Running e) ts t j x empty_thread lt (λ is. on e (subst (λ (n : ℕ). (get_or ts n empty_thread).state ≡ states.Running e) is (h core e j m))) (λ apart. h core e j m)

pub inside-kept : (n : ℕ) (ts : List Thread) (ms : List Mode) (t : ℕ) (x : Thread) → t < length ts
    → ((e : ℕ) → x.state ≡ states.Running e → (get_or ts t empty_thread).state ≡ states.Running e) → AreInside n ts ms → AreInside n (slice_set ts t x) ms
inside-kept n ts ms t x lt back h e j =
    at_set (λ (y : Thread). y.state ≡ states.Running e → (core : ℕ) × (core < n) × (get_or ms core modes.Os ≡ modes.Inside e j)) ts t j x empty_thread lt
    (λ is r. h e j (subst (λ (k : ℕ). (get_or ts k empty_thread).state ≡ states.Running e) (sym is) (back e r)))
    (λ apart. h e j)

pub initialized-kept : (es : List Enclave) (ts : List Thread) (t : ℕ) (x : Thread) → t < length ts
    → ((e : ℕ) → x.state ≡ states.Running e → is_initialized (get_or es e empty_enclave).stage ≡ true) → AreInitialized es ts → AreInitialized es (slice_set ts t x)
initialized-kept es ts t x lt new h e j =
    at_set (λ (y : Thread). y.state ≡ states.Running e → is_initialized (get_or es e empty_enclave).stage ≡ true) ts t j x empty_thread lt (λ is r. new e r) (λ apart. h e j)

-- an enclave that does not become other than Initialized
pub initialized-enclave : (es : List Enclave) (ts : List Thread) (i : ℕ) (x : Enclave) → i < length es
    → (is_initialized (get_or es i empty_enclave).stage ≡ true → is_initialized x.stage ≡ true) → AreInitialized es ts → AreInitialized (slice_set es i x) ts
initialized-enclave es ts i x lt on h e t r =
    at_set (λ (y : Enclave). is_initialized y.stage ≡ true) es i e x empty_enclave lt (λ is. on (subst (λ (n : ℕ). is_initialized (get_or es n empty_enclave).stage ≡ true) is (h e t r))) (λ apart. h e t r)

-- an enclave without threads may become anything
pub initialized-emptied : (es : List Enclave) (ts : List Thread) (i : ℕ) (x : Enclave) → i < length es → thread_count i ts ≡ 0 → AreInitialized es ts → AreInitialized (slice_set es i x) ts
initialized-emptied es ts i x lt none h e t r =
    at_set (λ (y : Enclave). is_initialized y.stage ≡ true) es i e x empty_enclave lt (λ is. absurd (some (ap (λ (k : ℕ). is_thread_of i (states.Running k)) is))) (λ apart. h e t r)
  where
    in_table : t < length ts
    in_table = elim (leb_tells (length ts) t) [
      | inl (b, past) ↦ absurd (running-empty e (ap (λ (y : Thread). y.state) (sym (get_or_past ts t empty_thread past)) ∙ r))
      | inr (f, lt) ↦ lt
    ]

    some : is_thread_of i (states.Running e) ≡ is_thread_of i (states.Running i) → ⊥
    some is = omega (arith, none, count-set i ts t empty_thread in_table, ap one_if (ap (is_thread_of i) r ∙ is ∙ same-is i))

-- ---- enter

pub running-entered : (ts : List Thread) (ms : List Mode) (core i t : ℕ) (x : Thread) → t < length ts → core < length ms → IsStill (get_or ts t empty_thread).state → x.state ≡ states.Running i
    → AreRunning ts ms → AreRunning (slice_set ts t x) (slice_set ms core (modes.Inside i t))
running-entered ts ms core i t x p q still new h c e j =
    at_set (λ (m : Mode). m ≡ modes.Inside e j → (get_or (slice_set ts t x) j empty_thread).state ≡ states.Running e) ms core c (modes.Inside i t) modes.Os q
    (λ is m. ap (λ (k : ℕ). (get_or (slice_set ts t x) k empty_thread).state) (sym (ap own_thread m)) ∙ ap (λ (y : Thread). y.state) (get_or-set_same ts t x empty_thread p) ∙ new ∙ ap states.Running (ap own_slot m))
    (λ ne m. at_set (λ (y : Thread). y.state ≡ states.Running e) ts t j x empty_thread p
    (λ is. absurd (still e (subst (λ (k : ℕ). (get_or ts k empty_thread).state ≡ states.Running e) is (h c e j m))))
    (λ apart. h c e j m))

pub inside-entered : (n : ℕ) (ts : List Thread) (ms : List Mode) (core i t : ℕ) (x : Thread) → t < length ts → core < length ms → core < n → get_or ms core modes.Os ≡ modes.Os → x.state ≡ states.Running i
    → AreInside n ts ms → AreInside n (slice_set ts t x) (slice_set ms core (modes.Inside i t))
inside-entered n ts ms core i t x p q small os new h e j =
    at_set (λ (y : Thread). y.state ≡ states.Running e → (c : ℕ) × (c < n) × (get_or (slice_set ms core (modes.Inside i t)) c modes.Os ≡ modes.Inside e j)) ts t j x empty_thread p
    (λ is r. (core, small, get_or-set_same ms core (modes.Inside i t) modes.Os q ∙ ap (λ (k : ℕ). modes.Inside k t) (same_slot i e (sym new ∙ r)) ∙ ap (modes.Inside e) (sym is)))
    (λ apart r. let old = h e j r in (old.0, old.1, get_or-set_other ms core old.0 (modes.Inside i t) modes.Os (λ is. os-outside _ e j (ap (λ (k : ℕ). get_or ms k modes.Os) is ∙ os) old.2) ∙ old.2))

pub alone-entered : (ts : List Thread) (ms : List Mode) (core i t : ℕ) → core < length ms → IsStill (get_or ts t empty_thread).state → AreRunning ts ms → AreAlone ms → AreAlone (slice_set ms core (modes.Inside i t))
alone-entered ts ms core i t q still run h a b e j =
    at_set (λ (m : Mode). m ≡ modes.Inside e j → get_or (slice_set ms core (modes.Inside i t)) b modes.Os ≡ modes.Inside e j → b ≡ a) ms core a (modes.Inside i t) modes.Os q
    (λ is m. at_set (λ (o : Mode). o ≡ modes.Inside e j → b ≡ a) ms core b (modes.Inside i t) modes.Os q (λ bs o. bs ∙ sym is) (λ nb o. absurd (no_other b e j (ap own_thread m) o)))
    (λ na m. at_set (λ (o : Mode). o ≡ modes.Inside e j → b ≡ a) ms core b (modes.Inside i t) modes.Os q (λ bs o. absurd (no_other a e j (ap own_thread o) m)) (λ nb o. h a b e j m o))
  where
    no_other : (c e j : ℕ) → t ≡ j → get_or ms c modes.Os ≡ modes.Inside e j → ⊥
    no_other c e j is m = still e (subst (λ (k : ℕ). (get_or ts k empty_thread).state ≡ states.Running e) (sym is) (run c e j m))

-- ---- exit and aex

pub running-left : (ts : List Thread) (ms : List Mode) (core i t : ℕ) (x : Thread) → t < length ts → core < length ms → get_or ms core modes.Os ≡ modes.Inside i t
    → AreAlone ms → AreRunning ts ms → AreRunning (slice_set ts t x) (slice_set ms core modes.Os)
running-left ts ms core i t x p q was alone h c e j =
    at_set (λ (m : Mode). m ≡ modes.Inside e j → (get_or (slice_set ts t x) j empty_thread).state ≡ states.Running e) ms core c modes.Os modes.Os q
    (λ is m. absurd (os-outside modes.Os e j refl m))
    (λ ne m. at_set (λ (y : Thread). y.state ≡ states.Running e) ts t j x empty_thread p (λ is. absurd (ne (alone core c e j (was ∙ one e j is (h c e j m)) m))) (λ apart. h c e j m))
  where
    one : (e j : ℕ) → j ≡ t → (get_or ts j empty_thread).state ≡ states.Running e → modes.Inside i t ≡ modes.Inside e j
    one e j is r =
        let slot : i ≡ e = same_slot i e (sym (h core i t was) ∙ subst (λ (k : ℕ). (get_or ts k empty_thread).state ≡ states.Running e) is r) in
        ap (λ (k : ℕ). modes.Inside k t) slot ∙ ap (modes.Inside e) (sym is)

pub inside-left : (n : ℕ) (ts : List Thread) (ms : List Mode) (core i t : ℕ) (x : Thread) → t < length ts → get_or ms core modes.Os ≡ modes.Inside i t → IsStill x.state
    → AreInside n ts ms → AreInside n (slice_set ts t x) (slice_set ms core modes.Os)
inside-left n ts ms core i t x p was still h e j =
    at_set (λ (y : Thread). y.state ≡ states.Running e → (c : ℕ) × (c < n) × (get_or (slice_set ms core modes.Os) c modes.Os ≡ modes.Inside e j)) ts t j x empty_thread p
    (λ is r. absurd (still e r))
    (λ apart r. let old = h e j r in (old.0, old.1, get_or-set_other ms core old.0 modes.Os modes.Os (λ is. apart (ap own_thread (sym old.2 ∙ ap (λ (k : ℕ). get_or ms k modes.Os) is ∙ was))) ∙ old.2))

pub alone-left : (ms : List Mode) (core : ℕ) → core < length ms → AreAlone ms → AreAlone (slice_set ms core modes.Os)
alone-left ms core q h a b e j =
    at_set (λ (m : Mode). m ≡ modes.Inside e j → get_or (slice_set ms core modes.Os) b modes.Os ≡ modes.Inside e j → b ≡ a) ms core a modes.Os modes.Os q
    (λ is m. absurd (os-outside modes.Os e j refl m))
    (λ na m. at_set (λ (o : Mode). o ≡ modes.Inside e j → b ≡ a) ms core b modes.Os modes.Os q (λ bs o. absurd (os-outside modes.Os e j refl o)) (λ nb o. h a b e j m o))
