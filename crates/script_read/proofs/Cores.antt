-- What lines say of each core, as more of them are read.
use Rattle.std.proofs.Common.{◌≡◌, ℕ, ◌+◌, ◌≤◌, eqb, Bool, true, false, List, [], ◌∷◌, ◌++◌, length, refl, sym, ap, ◌∙◌, arith}
use Rattle.std.specs.Prelude.{max, map}
use Rattle.std.specs.List.{AllByRecursion}
use Rattle.std.proofs.lemmas.Bool.{eq-eqb, ne_eqb}
use Rattle.mon_types.specs.declared.script.Line.{Line}
use Rattle.mon_types.specs.declared.script.Line.TheVariants as lines
use Rattle.script_read.specs.declared.said.Said.{Said}
use Rattle.script_read.specs.declared.said.Said.TheVariants as says
use Rattle.script_read.specs.Cores.{if_mine, lines_from, lines_of_core, core_from, core_after, turns_in, turns_of, turns_of_core, greatest_core}

-- ---- lines

mine_more : (mine : Bool) (line : Line) (others more : List Line) → if_mine mine line (others ++ more) ≡ if_mine mine line others ++ more
mine_more true line others more = refl
mine_more false line others more = refl

pub lines_more : (now core : ℕ) (before more : List Said) → lines_from now core (before ++ more) ≡ lines_from now core before ++ lines_from (core_from now before) core more
lines_more now core [] more = refl
lines_more now core (says.Line line ∷ before) more =
    ap (if_mine (eqb now core) line) (lines_more now core before more) ∙ mine_more (eqb now core) line (lines_from now core before) (lines_from (core_from now before) core more)
lines_more now core (says.Run turns ∷ before) more =
    ap (if_mine (eqb now core) (lines.Run turns)) (lines_more now core before more) ∙ mine_more (eqb now core) (lines.Run turns) (lines_from now core before) (lines_from (core_from now before) core more)
lines_more now core (says.Core next ∷ before) more = lines_more next core before more

pub core_more : (now : ℕ) (before more : List Said) → core_from now (before ++ more) ≡ core_from (core_from now before) more
core_more now [] more = refl
core_more now (says.Line line ∷ before) more = core_more now before more
core_more now (says.Run turns ∷ before) more = core_more now before more
core_more now (says.Core next ∷ before) more = core_more next before more

mine_few : (mine : Bool) (line : Line) (others : List Line) (n : ℕ) → length others ≤ n → length (if_mine mine line others) ≤ n + 1
mine_few true line others n h = omega arith
mine_few false line others n h = omega arith

-- the line, where the core is the one whose lines come next
pub mine_own : (line : Line) (now core : ℕ) → core ≡ now → if_mine (eqb now core) line [] ≡ line ∷ []
mine_own line now core same = rw (eq-eqb now core (sym same)) refl

pub mine_other : (line : Line) (now core : ℕ) → (core ≡ now → ⊥) → if_mine (eqb now core) line [] ≡ []
mine_other line now core other = rw (ne_eqb now core (λ h. other (sym h))) refl

-- a core has no more lines than were said
pub lines_few : (now core : ℕ) (said : List Said) → length (lines_from now core said) ≤ length said
lines_few now core [] = omega arith
lines_few now core (says.Line line ∷ said) = omega (arith, mine_few (eqb now core) line (lines_from now core said) (length said) (lines_few now core said))
lines_few now core (says.Run turns ∷ said) = omega (arith, mine_few (eqb now core) (lines.Run turns) (lines_from now core said) (length said) (lines_few now core said))
lines_few now core (says.Core next ∷ said) = omega (arith, lines_few next core said)

-- ---- turns

pub turns_more : (made more : List Line) → turns_of (made ++ more) ≡ turns_of made + turns_of more
turns_more [] more = omega arith
turns_more (line ∷ made) more = omega (arith, turns_more made more)

pub core_turns_more : (core : ℕ) (before more : List Said) → turns_of_core core (before ++ more) ≡ turns_of_core core before + turns_of (lines_from (core_after before) core more)
core_turns_more core before more = ap turns_of (lines_more 0 core before more) ∙ turns_more (lines_of_core core before) (lines_from (core_after before) core more)

mine_turns : (line : Line) (others : List Line) (core : ℕ) → turns_of (if_mine (eqb core core) line others) ≡ turns_in line + turns_of others
mine_turns line others core = rw (eq-eqb core core refl) refl

-- a run counts for the core whose lines come next
pub run_turns : (turns : ℕ) (before more : List Said) → turns_of_core (core_after before) before + turns ≤ turns_of_core (core_after before) (before ++ says.Run turns ∷ more)
run_turns turns before more =
    let core = core_after before in
    omega (arith, core_turns_more core before (says.Run turns ∷ more), mine_turns (lines.Run turns) (lines_from core core more) core)

pub run_counts : (turns core : ℕ) (before : List Said) → turns_of_core core (before ++ says.Run turns ∷ []) ≡ turns_of_core core before + turns_of (if_mine (eqb (core_after before) core) (lines.Run turns) [])
run_counts turns core before = core_turns_more core before (says.Run turns ∷ [])

no_turns : (mine : Bool) (line : Line) → turns_in line ≡ 0 → turns_of (if_mine mine line []) ≡ 0
no_turns true line h = omega arith
no_turns false line h = refl

-- a line that is no run leaves the turns of each core
pub line_turns : (core : ℕ) (line : Line) (before : List Said) → turns_in line ≡ 0 → turns_of_core core (before ++ says.Line line ∷ []) ≡ turns_of_core core before
line_turns core line before h = omega (arith, core_turns_more core before (says.Line line ∷ []), no_turns (eqb (core_after before) core) line h)

pub named_turns : (core next : ℕ) (before : List Said) → turns_of_core core (before ++ says.Core next ∷ []) ≡ turns_of_core core before
named_turns core next before = omega (arith, core_turns_more core before (says.Core next ∷ []))

-- ---- the greatest core that is named

pub greatest_more : (before more : List Said) → greatest_core (before ++ more) ≡ max (greatest_core before) (greatest_core more)
greatest_more [] more = omega arith
greatest_more (says.Line line ∷ before) more = greatest_more before more
greatest_more (says.Run turns ∷ before) more = greatest_more before more
greatest_more (says.Core core ∷ before) more = omega (arith, greatest_more before more)

-- ---- the lists of all cores

-- what holds of the lines of each core holds of each list
pub all_lists : (P : List Line → Type 0) (f : ℕ → List Line) → ((core : ℕ) → P (f core)) → (cores : List ℕ) → AllByRecursion P (map f cores)
all_lists P f each [] = tt
all_lists P f each (core ∷ cores) = (each core, all_lists P f each cores)
