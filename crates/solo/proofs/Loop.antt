-- One more line of a script, and one more turn of a `run` line, as the loops over them go.
use Rattle.std.proofs.Common.{◌≡◌, ℕ, suc, ◌+◌, ◌-◌, ◌≤◌, ◌<◌, Bool, true, false, List, [], ◌∷◌, length, drop, get_or, refl, sym, ap, ◌∙◌, arith}
use Rattle.std.proofs.lemmas.Bool.Decides.{nat_tests}
use Rattle.std.proofs.lemmas.List.{drop_more, drop_all}
use Rattle.mon_types.specs.declared.script.Line.{Line}
use Rattle.mon_types.specs.Budgets.{event_budget, answer_budget, line_events, line_answers}
use Rattle.solo.specs.Core.{Core, chosen}
use Rattle.solo.specs.Turns.{Turned, turned}
use Rattle.solo.specs.Solo.{Lined, continues, is_spent, limited, turns_after, turns, core_after, lines_after, core_from}

-- ---- lines

next_line : (c : Core) (n : ℕ) (line : Line) (rest : List Line)
    → core_from c n (line ∷ rest) ≡ chosen (is_spent c) (λ u. (limited n c).core) (λ u. lines_after (λ d. core_from d (n + 1) rest) (core_after n c line))
unfolding core_from
next_line c n line rest = refl

none_left : (c : Core) (n : ℕ) → core_from c n [] ≡ c
unfolding core_from
none_left c n = refl

at_line : (c : Core) (script : List Line) (i : ℕ) (d : Line) → i < length script
    → core_from c (i + 1) (drop i script)
    ≡ chosen (is_spent c) (λ u. (limited (i + 1) c).core) (λ u. lines_after (λ e. core_from e (i + 1 + 1) (drop (i + 1) script)) (core_after (i + 1) c (get_or script i d)))
at_line c script i d lt = ap (core_from c (i + 1)) (drop_more script i d lt) ∙ next_line c (i + 1) (get_or script i d) (drop (i + 1) script)

-- the line's end is known
by_over : (more : Core → Core) (l : Lined) (over : Bool) (d : Core) → l.over ≡ over → d ≡ l.core → lines_after more l ≡ chosen over (λ u. d) (λ u. more d)
by_over more l over d e is =
    ap (λ (b : Bool). chosen b (λ u. l.core) (λ u. more l.core)) e ∙ ap (λ (x : Core). chosen over (λ u. x) (λ u. more x)) (sym is)

carried : (c e : Core) (script : List Line) (i : ℕ) (d : Line) (over : Bool) → i < length script → is_spent c ≡ false
    → (core_after (i + 1) c (get_or script i d)).over ≡ over → e ≡ (core_after (i + 1) c (get_or script i d)).core
    → core_from c (i + 1) (drop i script) ≡ chosen over (λ u. e) (λ u. core_from e (i + 1 + 1) (drop (i + 1) script))
carried c e script i d over lt unspent ends is =
    let l : Lined = core_after (i + 1) c (get_or script i d) in
    let more : Core → Core = λ x. core_from x (i + 1 + 1) (drop (i + 1) script) in
    at_line c script i d lt
    ∙ ap (λ (b : Bool). chosen b (λ u. (limited (i + 1) c).core) (λ u. lines_after more l)) unspent
    ∙ by_over more l over e ends is

pub stops : (c e : Core) (script : List Line) (i : ℕ) (d : Line) → i < length script → is_spent c ≡ true → e ≡ (limited (i + 1) c).core
    → e ≡ core_from c (i + 1) (drop i script)
stops c e script i d lt spent is =
    let l : Lined = core_after (i + 1) c (get_or script i d) in
    is ∙ sym (at_line c script i d lt ∙ ap (λ (b : Bool). chosen b (λ u. (limited (i + 1) c).core) (λ u. lines_after (λ x. core_from x (i + 1 + 1) (drop (i + 1) script)) l)) spent)

pub is_over : (c e : Core) (script : List Line) (i : ℕ) (d : Line) → i < length script → is_spent c ≡ false
    → (core_after (i + 1) c (get_or script i d)).over ≡ true → e ≡ (core_after (i + 1) c (get_or script i d)).core
    → e ≡ core_from c (i + 1) (drop i script)
is_over c e script i d lt unspent over is = sym (carried c e script i d true lt unspent over is)

pub goes_on : (c e : Core) (script : List Line) (i : ℕ) (d : Line) → i < length script → is_spent c ≡ false
    → (core_after (i + 1) c (get_or script i d)).over ≡ false → e ≡ (core_after (i + 1) c (get_or script i d)).core
    → core_from e (i + 1 + 1) (drop (i + 1) script) ≡ core_from c (i + 1) (drop i script)
goes_on c e script i d lt unspent over is = sym (carried c e script i d false lt unspent over is)

pub ends : (c : Core) (script : List Line) (i : ℕ) → length script ≤ i → c ≡ core_from c (i + 1) (drop i script)
ends c script i le = sym (ap (core_from c (i + 1)) (drop_all i script le) ∙ none_left c (i + 1))

-- ---- turns

next_turn : (n count : ℕ) (c : Core)
    → turns n (suc count) c ≡ chosen (is_spent c) (λ u. limited n c) (λ u. turns_after (turns n count) (turned n c))
unfolding turns
next_turn n count c = refl

no_turn : (n : ℕ) (c : Core) → turns n 0 c ≡ continues c
unfolding turns
no_turn n c = refl

at_turn : (n count i : ℕ) (c : Core) → i < count
    → turns n (count - i) c ≡ chosen (is_spent c) (λ u. limited n c) (λ u. turns_after (turns n (count - (i + 1))) (turned n c))
at_turn n count i c lt =
    let e : count - i ≡ suc (count - (i + 1)) = omega arith in
    ap (λ (x : ℕ). turns n x c) e ∙ next_turn n (count - (i + 1)) c

by_end : (more : Core → Lined) (t : Turned) (end : Bool) (d : Core) → t.ends ≡ end → d ≡ t.core → turns_after more t ≡ chosen end (λ u. continues d) (λ u. more d)
by_end more t end d e is =
    ap (λ (b : Bool). chosen b (λ u. continues t.core) (λ u. more t.core)) e ∙ ap (λ (x : Core). chosen end (λ u. continues x) (λ u. more x)) (sym is)

taken : (n count i : ℕ) (c d : Core) (end : Bool) → i < count → is_spent c ≡ false → (turned n c).ends ≡ end → d ≡ (turned n c).core
    → turns n (count - i) c ≡ chosen end (λ u. continues d) (λ u. turns n (count - (i + 1)) d)
taken n count i c d end lt unspent e is =
    at_turn n count i c lt
    ∙ ap (λ (b : Bool). chosen b (λ u. limited n c) (λ u. turns_after (turns n (count - (i + 1))) (turned n c))) unspent
    ∙ by_end (turns n (count - (i + 1))) (turned n c) end d e is

pub turns_stop : (n count i : ℕ) (c : Core) → i < count → is_spent c ≡ true → turns n (count - i) c ≡ limited n c
turns_stop n count i c lt spent =
    at_turn n count i c lt ∙ ap (λ (b : Bool). chosen b (λ u. limited n c) (λ u. turns_after (turns n (count - (i + 1))) (turned n c))) spent

pub turns_end : (n count i : ℕ) (c d : Core) → i < count → is_spent c ≡ false → (turned n c).ends ≡ true → d ≡ (turned n c).core
    → turns n (count - i) c ≡ continues d
turns_end n count i c d lt unspent e is = taken n count i c d true lt unspent e is

pub turns_go_on : (n count i : ℕ) (c d : Core) → i < count → is_spent c ≡ false → (turned n c).ends ≡ false → d ≡ (turned n c).core
    → turns n (count - i) c ≡ turns n (count - (i + 1)) d
turns_go_on n count i c d lt unspent e is = taken n count i c d false lt unspent e is

pub turns_done : (n count i : ℕ) (c : Core) → count ≤ i → turns n (count - i) c ≡ continues c
turns_done n count i c le =
    let e : count - i ≡ 0 = omega arith in
    ap (λ (x : ℕ). turns n x c) e ∙ no_turn n c

-- ---- room

pub event_room : (c : Core) → is_spent c ≡ false → length c.log + line_events ≤ event_budget
event_room c h = grind (arith, nat_tests)

pub answer_room : (c : Core) → is_spent c ≡ false → length c.answers + line_answers ≤ answer_budget
answer_room c h = grind (arith, nat_tests)
