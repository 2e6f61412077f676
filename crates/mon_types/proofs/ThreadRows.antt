-- The records of thread slots come back from the words of their rows.
use Rattle.std.proofs.Common.{◌≡◌, ◌≢◌, ◌<◌, ◌-◌, ◌^◌, ◌∙◌, ℕ, Bool, true, false, List, ap, sym, refl, get_or, arith}
use Rattle.std.specs.Prelude.{◌==◌, if◌then◌else◌, nat_lt}
use Rattle.std.proofs.lemmas.Bool.Decides.{nat_tests}
use Rattle.std.proofs.lemmas.List.{take_all}
use Rattle.mon_types.specs.declared.thread.ThreadState.{ThreadState}
use Rattle.mon_types.specs.declared.thread.ThreadState.TheVariants as states
use Rattle.mon_types.specs.declared.thread.Thread.{Thread}
use Rattle.mon_types.specs.Words.{AreWords}
use Rattle.mon_types.specs.Threads.{IsThread, StateNamesSlot, empty_thread, state_code, thread_row, state_from, thread_parts, thread_from}
use Rattle.mon_types.proofs.Rows.{kept_where_same, none_where_other, row_back, kept_or_none, fitting_is, fitting_less, Fits, all_at, part, zeros_fit}

state_back : (s : ThreadState) → StateNamesSlot s → state_from (state_code s) ≡ s
unfolding state_from
state_back states.Empty h = refl
state_back (states.Ready e) h = grind (arith, nat_tests)
state_back (states.Running e) h = grind (arith, nat_tests)

same_thread : (t : Thread) (state : ThreadState) (saved_at : ℕ) (saved : List ℕ) → state ≡ t.state → saved_at ≡ t.saved_at → saved ≡ t.saved → (let made : Thread = record { state = state; entry = t.entry; sp = t.sp; saved_at = saved_at; saved = saved } in made ≡ t)
same_thread t state saved_at saved e1 e2 e3 = rw (e1, e2, e3) refl

parts_back : (t : Thread) → IsThread t → thread_parts (thread_row t) ≡ t
unfolding thread_parts
parts_back t h =
    same_thread t _ _ _ (state_back t.state h.state) (fitting_is (2 ^ 32) t.saved_at h.saved_at) (take_all 33 t.saved (omega (arith, h.saved.many)))

pub thread_back : (t : Thread) → IsThread t → thread_from (thread_row t) ≡ t
unfolding thread_from
thread_back t h = row_back thread_row thread_parts t empty_thread (parts_back t h)

pub state_valid : (word : ℕ) → StateNamesSlot (state_from word)
unfolding state_from
state_valid word = by (word == 0) (nat_lt word 9) (nat_lt word 17) (λ e f. grind (arith, nat_tests)) (λ e f. grind (arith, nat_tests))
  where
    by : (a b c : Bool) → (a ≡ false → b ≡ true → word - 1 < 8) → (b ≡ false → c ≡ true → word - 9 < 8) → StateNamesSlot (if a then states.Empty else if b then states.Ready (word - 1) else if c then states.Running (word - 9) else states.Empty)
    by true b c f g = tt
    by false true c f g = f refl refl
    by false false true f g = g refl refl
    by false false false f g = tt

pub thread_parts-valid : (words : List ℕ) → AreWords 37 words → IsThread (thread_parts words)
unfolding thread_parts
thread_parts-valid words h = record {
  state = state_valid (get_or words 0 0);
  entry = all_at Fits words 1 (omega arith) h.fit;
  sp = all_at Fits words 2 (omega arith) h.fit;
  saved_at = fitting_less (2 ^ 32) (get_or words 3 0) (omega arith);
  saved = part words 4 33 37 (omega arith) h;
}

empty_valid : IsThread empty_thread
empty_valid = record { state = tt; entry = omega arith; sp = omega arith; saved_at = omega arith; saved = record { many = refl; fit = zeros_fit 33 } }

pub thread_valid : (words : List ℕ) → AreWords 37 words → IsThread (thread_from words)
unfolding thread_from
thread_valid words h = kept_or_none IsThread _ (thread_parts words) empty_thread (thread_parts-valid words h) empty_valid

-- parts whose row is the words are the record read
pub thread_kept : (words : List ℕ) (x : Thread) → x ≡ thread_parts words → thread_row x ≡ words → x ≡ thread_from words
unfolding thread_from
thread_kept words x e row =
    e ∙ sym (kept_where_same thread_row (thread_parts words) empty_thread words (ap thread_row (sym e) ∙ row))

-- where their row is another, an empty slot is read
pub thread_refused : (words : List ℕ) (x result : Thread) → x ≡ thread_parts words → thread_row x ≢ words → result ≡ empty_thread → result ≡ thread_from words
unfolding thread_from
thread_refused words x result e other empty =
    empty ∙ sym (none_where_other thread_row (thread_parts words) empty_thread words (λ row. other (ap thread_row e ∙ row)))

-- a row gives back its record
pub thread_unique : (words : List ℕ) (result x : Thread) → result ≡ thread_from words → IsThread x → thread_row x ≡ words → result ≡ x
thread_unique words result x e h row = e ∙ ap thread_from (sym row) ∙ thread_back x h
