-- A script is read as what it is in the grammar, and as nothing else.
use Rattle.std.proofs.Common.{◌≡◌, ℕ, ◌+◌, ◌<◌, ◌≤◌, eqb, ltb, List, [], ◌∷◌, ◌++◌, length, Option, Some, None, Result, Ok, Err, refl, sym, ap, subst, ◌∙◌, append_assoc, arith, inl, inr}
use Rattle.std.specs.Prelude.{IfOk, IfSome}
use Rattle.std.specs.List.{range_with_len}
use Rattle.std.specs.Option.{option_to_list}
use Rattle.std.proofs.lemmas.Bool.{cases_Bool, eqb-true, eqb-false, ltb-false, le-ltb}
use Rattle.std.proofs.lemmas.List.{append-nil}
use Rattle.std.proofs.lemmas.List.FromFn.{length-map-range_with_len}
use Rattle.mon_types.specs.declared.script.Line.{Line}
use Rattle.mon_types.specs.declared.script.Line.TheVariants as lines
use Rattle.mon_types.specs.declared.script.Script.{Script}
use Rattle.script_read.specs.declared.said.Said.{Said}
use Rattle.script_read.specs.declared.said.Said.TheVariants as says
use Rattle.script_read.specs.declared.fault.ScriptFault.{ScriptFault}
use Rattle.script_read.specs.declared.fault.ScriptFault.TheVariants as faults
use Rattle.reader_answers.specs.declared.errors.ParseError.{ParseError}
use Rattle.reader_answers.specs.Steps.{◌>>=◌}
use Rattle.reader_answers.specs.Answers.{Gives}
use Rattle.reader_answers.proofs.Steps.{bind_ok, ok_is, not_ok}
use Rattle.text_in.specs.Lines.{lines_of}
use Rattle.script_read.specs.Cores.{if_mine, lines_of_core, core_after, turns_of, turns_of_core, turn_limit, greatest_core, core_limit, core_count, lists_for}
use Rattle.script_read.specs.Grammar.{AreLines, limit, IsScript}
use Rattle.script_read.specs.Reading.{line_of, line_next, said_from, all_said, script_of}
use Rattle.script_read.specs.Drafts.{MayBeSaid}
use Rattle.script_read.specs.Answers.{AreFew, HaveFewTurns, HasCount}
use Rattle.text_in.proofs.Lines.{text_lines_are, text_lines_found}
use Rattle.script_read.proofs.Cores.{mine_own, mine_other, lines_few, run_turns, run_counts, line_turns, named_turns, greatest_more, all_lists}
use Rattle.script_read.proofs.LineLaws.{stands_may, line_is, line_found}

-- ---- what is in the grammar is read so

-- no core's turns are too many
abbrev pub FewTurns : List Said → Type 0
FewTurns said = (core : ℕ) → turns_of_core core said ≤ turn_limit

next_is : (n : ℕ) (before others : List Said) (line : Option Said) → FewTurns (before ++ (option_to_list line ++ others)) → line_next n before line ≡ Ok (before ++ option_to_list line)
next_is n before others None few = ap (λ (x : List Said). Ok x) (sym (append-nil before))
next_is n before others (Some (says.Line line)) few = refl
next_is n before others (Some (says.Run turns)) few =
    rw (le-ltb turn_limit (turns_of_core (core_after before) before + turns) (omega (arith, run_turns turns before others, few (core_after before)))) refl
next_is n before others (Some (says.Core core)) few = refl

said_are : (count n : ℕ) (before : List Said) (texts : List (List ℕ)) (more : List Said) → AreLines count texts more → FewTurns (before ++ more) → said_from count n before texts ≡ Ok (before ++ more)
unfolding said_from
said_are count n before [] more h few = ap (λ (x : List Said). Ok x) (sym (ap (λ (x : List Said). before ++ x) h ∙ append-nil before))
said_are count n before (text ∷ texts) more h few =
    let joined : before ++ more ≡ before ++ (option_to_list h.0 ++ h.1) = ap (λ (x : List Said). before ++ x) h.3 in
    let grouped : (before ++ option_to_list h.0) ++ h.1 ≡ before ++ more = append_assoc before (option_to_list h.0) h.1 ∙ sym joined in
    let next : line_next n before h.0 ≡ Ok (before ++ option_to_list h.0) = next_is n before h.1 h.0 (subst FewTurns joined few) in
    let rest : said_from count (n + 1) (before ++ option_to_list h.0) texts ≡ Ok ((before ++ option_to_list h.0) ++ h.1) =
    said_are count (n + 1) (before ++ option_to_list h.0) texts h.1 h.4 (subst FewTurns (sym grouped) few) in
    rw (line_is count n text h.0 h.2, next) (rest ∙ ap (λ (x : List Said). Ok x) grouped)

lists_same : (cores : Option ℕ) (script : List (List Line)) (said : List Said) → script ≡ lists_for (core_count cores said) said → ◌≡◌ {A = Result (List (List Line)) ScriptFault} (Ok (lists_for (core_count cores said) said)) (Ok script)
lists_same cores script said h = ap (λ (x : List (List Line)). Ok x) (sym h)

pub script_is : (cores : Option ℕ) (bytes : List ℕ) (script : List (List Line)) → IsScript cores bytes script → script_of cores bytes ≡ Ok script
unfolding script_of
script_is cores bytes script h =
    let read : said_from (core_limit cores) 1 [] (lines_of bytes) ≡ Ok h.said =
    ap (said_from (core_limit cores) 1 []) (text_lines_are bytes h.texts h.are_texts) ∙ said_are (core_limit cores) 1 [] h.texts h.said h.are_lines h.few_turns in
    rw (le-ltb limit (length bytes) h.within, read) (lists_same cores script h.said h.script_is)

-- ---- what is read is in the grammar

-- what was said, with a line more
record HasNext (before : List Said) (line : Option Said) (all : List Said) : Type 0 where
  all_is : all ≡ before ++ option_to_list line
  few : FewTurns all

run_few : (turns : ℕ) (before : List Said) → FewTurns before → turns_of_core (core_after before) before + turns ≤ turn_limit → FewTurns (before ++ says.Run turns ∷ [])
run_few turns before few sum = λ core.
    elim (cases_Bool (eqb (core_after before) core)) [
      | inl t ↦
          let same : core_after before ≡ core = eqb-true (core_after before) core t in
          let mine : turns_of (if_mine (eqb (core_after before) core) (lines.Run turns) []) ≡ turns + 0 = ap turns_of (mine_own (lines.Run turns) (core_after before) core (sym same)) in
          let here : turns_of_core (core_after before) before ≡ turns_of_core core before = ap (λ (c : ℕ). turns_of_core c before) same in
          omega (arith, run_counts turns core before, mine, here, sum)
      | inr f ↦
          let mine : turns_of (if_mine (eqb (core_after before) core) (lines.Run turns) []) ≡ 0 = ap turns_of (mine_other (lines.Run turns) (core_after before) core (λ h. eqb-false (core_after before) core f (sym h))) in
          omega (arith, run_counts turns core before, mine, few core)
    ]

next_found : (count n : ℕ) (before : List Said) (line : Option Said) (all : List Said) → FewTurns before → IfSome line (MayBeSaid count) → line_next n before line ≡ Ok all → HasNext before line all
next_found count n before None all few may h =
    let is : before ≡ all = ok_is before all h in
    record { all_is = sym is ∙ sym (append-nil before); few = subst FewTurns is few }
next_found count n before (Some (says.Line line)) all few may h =
    let is : before ++ says.Line line ∷ [] ≡ all = ok_is (before ++ says.Line line ∷ []) all h in
    record { all_is = sym is; few = subst FewTurns is (λ core. omega (arith, line_turns core line before may, few core)) }
next_found count n before (Some (says.Run turns)) all few may h =
    elim (cases_Bool (ltb turn_limit (turns_of_core (core_after before) before + turns))) [
      | inl t ↦ not_ok (faults.TurnsOver n) all (HasNext before (Some (says.Run turns)) all) (rw t at h)
      | inr f ↦
          let is : before ++ says.Run turns ∷ [] ≡ all = ok_is (before ++ says.Run turns ∷ []) all (rw f at h) in
          record { all_is = sym is; few = subst FewTurns is (run_few turns before few (ltb-false turn_limit (turns_of_core (core_after before) before + turns) f)) }
    ]
next_found count n before (Some (says.Core core)) all few may h =
    let is : before ++ says.Core core ∷ [] ≡ all = ok_is (before ++ says.Core core ∷ []) all h in
    record { all_is = sym is; few = subst FewTurns is (λ c. omega (arith, named_turns c core before, few c)) }

-- what lines said, behind what was said before
record HasSaid (count : ℕ) (before : List Said) (texts : List (List ℕ)) (all : List Said) : Type 0 where
  more : List Said
  are : AreLines count texts more
  all_is : all ≡ before ++ more
  few : FewTurns all

said_found : (count n : ℕ) (before : List Said) (texts : List (List ℕ)) (all : List Said) → FewTurns before → said_from count n before texts ≡ Ok all → HasSaid count before texts all
unfolding said_from
said_found count n before [] all few h =
    let is : before ≡ all = ok_is before all h in
    record { more = []; are = refl; all_is = sym is ∙ sym (append-nil before); few = subst FewTurns is few }
said_found count n before (text ∷ texts) all few h =
    let a = bind_ok (line_of count n text) (λ line. line_next n before line >>= λ said. said_from count (n + 1) said texts) all h in
    let b = bind_ok (line_next n before a.0) (λ said. said_from count (n + 1) said texts) all a.2 in
    let line = line_found count n text a.0 a.1 in
    let next = next_found count n before a.0 b.0 few (stands_may count line.words a.0 line.stands) b.1 in
    let rest = said_found count (n + 1) b.0 texts all next.few b.2 in
    record {
      more = option_to_list a.0 ++ rest.more;
      are = (a.0, rest.more, line, refl, rest.are);
      all_is = rest.all_is ∙ ap (λ (x : List Said). x ++ rest.more) next.all_is ∙ append_assoc before (option_to_list a.0) rest.more;
      few = rest.few;
    }

whole_found : (cores : Option ℕ) (bytes : List ℕ) (script : List (List Line)) → length bytes ≤ limit → (all_said (core_limit cores) bytes >>= λ said. Ok (lists_for (core_count cores said) said)) ≡ Ok script → IsScript cores bytes script
whole_found cores bytes script within h =
    let a = bind_ok (all_said (core_limit cores) bytes) (λ said. Ok (lists_for (core_count cores said) said)) script h in
    let s = said_found (core_limit cores) 1 [] (lines_of bytes) a.0 (λ core. omega arith) a.1 in
    record {
      within = within;
      texts = lines_of bytes;
      said = a.0;
      are_texts = text_lines_found bytes (lines_of bytes) refl;
      are_lines = subst (AreLines (core_limit cores) (lines_of bytes)) (sym s.all_is) s.are;
      few_turns = s.few;
      script_is = sym (ok_is (lists_for (core_count cores a.0) a.0) script a.2);
    }

pub script_found : (cores : Option ℕ) (bytes : List ℕ) (script : List (List Line)) → script_of cores bytes ≡ Ok script → IsScript cores bytes script
unfolding script_of
script_found cores bytes script h =
    elim (cases_Bool (ltb limit (length bytes))) [
      | inl t ↦ not_ok faults.TooLong script (IsScript cores bytes script) (rw t at h)
      | inr f ↦ whole_found cores bytes script (ltb-false limit (length bytes) f) (rw f at h)
    ]

-- ---- the lists of the cores

pub few_lists : (count : ℕ) (said : List Said) → length said ≤ limit → AreFew (lists_for count said)
few_lists count said few = all_lists (λ made. length made ≤ limit) (λ core. lines_of_core core said) (λ core. omega (arith, lines_few 0 core said, few)) (range_with_len 0 count)

turns_lists : (count : ℕ) (said : List Said) → FewTurns said → HaveFewTurns (lists_for count said)
turns_lists count said few = all_lists (λ made. turns_of made ≤ turn_limit) (λ core. lines_of_core core said) few (range_with_len 0 count)

count_lists : (count : ℕ) (said : List Said) → length (lists_for count said) ≡ count
count_lists count said = length-map-range_with_len (λ core. lines_of_core core said) 0 count

-- each core that is named is below the count
line_below : (count : ℕ) (line : Option Said) → 0 < count → IfSome line (MayBeSaid count) → greatest_core (option_to_list line) < count
line_below count None some may = some
line_below count (Some (says.Line line)) some may = some
line_below count (Some (says.Run turns)) some may = some
line_below count (Some (says.Core core)) some may = let below : core < count = may in omega arith

cores_below : (count : ℕ) (texts : List (List ℕ)) (said : List Said) → 0 < count → AreLines count texts said → greatest_core said < count
cores_below count [] said some h = omega (arith, ap greatest_core h)
cores_below count (text ∷ texts) said some h =
    omega (arith, ap greatest_core h.3, greatest_more (option_to_list h.0) h.1, line_below count h.0 some (stands_may count h.2.words h.0 h.2.stands), cores_below count texts h.1 some h.4)

has_count : (cores : Option ℕ) (bytes : List ℕ) (script : List (List Line)) → IsScript cores bytes script → HasCount cores script
has_count None bytes script h =
    let size : length script ≡ greatest_core h.said + 1 = ap length h.script_is ∙ count_lists (greatest_core h.said + 1) h.said in
    let below : greatest_core h.said < 16 = cores_below 16 h.texts h.said (omega arith) h.are_lines in
    (omega arith, omega arith)
has_count (Some count) bytes script h = ap length h.script_is ∙ count_lists count h.said

-- ---- answers

pub count_if : (cores : Option ℕ) (bytes : List ℕ) (r : Result Script (ParseError ScriptFault)) → Gives (λ s. s.cores) r (script_of cores bytes) → IfOk r (λ s. HasCount cores s.cores)
count_if cores bytes (Ok s) h = has_count cores bytes s.cores (script_found cores bytes s.cores h)
count_if cores bytes (Err e) h = tt

pub turns_if : (cores : Option ℕ) (bytes : List ℕ) (r : Result Script (ParseError ScriptFault)) → Gives (λ s. s.cores) r (script_of cores bytes) → IfOk r (λ s. HaveFewTurns s.cores)
turns_if cores bytes (Ok s) h =
    let f = script_found cores bytes s.cores h in
    subst HaveFewTurns (sym f.script_is) (turns_lists (core_count cores f.said) f.said f.few_turns)
turns_if cores bytes (Err e) h = tt
