-- What a draft keeps, as one line more is read.
use Rattle.std.proofs.Common.{◌≡◌, ℕ, ◌+◌, ◌<◌, ◌≤◌, eqb, ltb, true, false, List, [], ◌∷◌, ◌++◌, length, replicate, get_or, set, take, Option, Some, None, Ok, Err, refl, sym, ap, ◌∙◌, arith, inl, inr}
use Rattle.std.specs.Prelude.{max}
use Rattle.std.proofs.lemmas.Bool.{cases_Bool}
use Rattle.std.proofs.lemmas.Bool.Decides.{eqb_tells}
use Rattle.std.proofs.lemmas.List.{append-nil, get_or-set_same, get_or-set_other, get_or-replicate, length-set, length-replicate}
use Rattle.std.proofs.lemmas.List.FromFn.{fill_by_all, take-map-range_with_len}
use Rattle.mon_types.specs.declared.script.Line.{Line}
use Rattle.mon_types.specs.declared.script.Line.TheVariants as lines
use Rattle.script_read.specs.declared.draft.Draft.{Draft}
use Rattle.script_read.specs.declared.said.Said.{Said}
use Rattle.script_read.specs.declared.said.Said.TheVariants as says
use Rattle.script_read.specs.Cores.{if_mine, lines_from, lines_of_core, core_after, turns_in, turn_limit, turns_of, turns_of_core, greatest_core, core_limit, core_count, lists_for}
use Rattle.script_read.specs.declared.fault.ScriptFault.TheVariants as faults
use Rattle.script_read.specs.Reading.{said_next}
use Rattle.script_read.specs.Drafts.{list_at, turns_with, Keeps}
use Rattle.script_read.proofs.Cores.{lines_more, core_more, mine_own, mine_other, run_counts, line_turns, named_turns, greatest_more}

-- ---- nothing was read

pub keeps_nothing : (count : ℕ) (draft : Draft) → 1 ≤ count → draft.core ≡ 0 → draft.top ≡ 0 → draft.turns ≡ replicate 256 0 → draft.lists.items ≡ replicate count [] → Keeps count [] draft
keeps_nothing count draft some core top turns lists = record {
  core = core;
  core_below = omega arith;
  top = top;
  top_below = omega arith;
  turns = λ c lt. ap (λ (x : List ℕ). get_or x c 0) turns ∙ get_or-replicate 256 c 0 0 lt;
  size = ap length lists ∙ length-replicate count [];
  lists = λ c lt. ap (λ (x : List (List Line)). list_at x c) lists ∙ get_or-replicate count c [] [] lt;
}

-- ---- the lines of each core, with one more of the core whose lines come next

-- the line is the one that this says of its core
abbrev pub Tells : Said → Line → Type 0
Tells said line = (now core : ℕ) → lines_from now core (said ∷ []) ≡ if_mine (eqb now core) line []

pub tells_line : (line : Line) → Tells (says.Line line) line
tells_line line = λ now core. refl

pub tells_run : (turns : ℕ) → Tells (says.Run turns) (lines.Run turns)
tells_run turns = λ now core. refl

one_more : (before : List Said) (said : Said) (line : Line) (core : ℕ) → Tells said line → lines_of_core core (before ++ said ∷ []) ≡ lines_of_core core before ++ if_mine (eqb (core_after before) core) line []
one_more before said line core tells = lines_more 0 core before (said ∷ []) ∙ ap (λ (x : List Line). lines_of_core core before ++ x) (tells (core_after before) core)

own_list : (lists grown : List (List Line)) (now : ℕ) (line : Line) → now < length lists → grown ≡ set lists now (list_at lists now ++ line ∷ []) → list_at grown now ≡ list_at lists now ++ line ∷ []
own_list lists grown now line lt g = ap (λ (x : List (List Line)). list_at x now) g ∙ get_or-set_same lists now (list_at lists now ++ line ∷ []) [] lt

other_list : (lists grown : List (List Line)) (now core : ℕ) (line : Line) → (core ≡ now → ⊥) → grown ≡ set lists now (list_at lists now ++ line ∷ []) → list_at grown core ≡ list_at lists core
other_list lists grown now core line other g = ap (λ (x : List (List Line)). list_at x core) g ∙ get_or-set_other lists now core (list_at lists now ++ line ∷ []) [] other

-- each list of a draft is that of its core
abbrev AreLists : ℕ → List Said → List (List Line) → Type 0
AreLists count said lists = (core : ℕ) → core < count → list_at lists core ≡ lines_of_core core said

lists_grown : (count now : ℕ) (before : List Said) (said : Said) (line : Line) (lists grown : List (List Line)) → Tells said line → now ≡ core_after before → now < count → length lists ≡ count → AreLists count before lists
    → grown ≡ set lists now (list_at lists now ++ line ∷ []) → AreLists count (before ++ said ∷ []) grown
lists_grown count now before said line lists grown tells at below size are g = λ core lt.
    elim (eqb_tells core now) [
      | inl same ↦
          let own : list_at grown now ≡ list_at lists now ++ line ∷ [] = own_list lists grown now line (omega arith) g in
          let mine : if_mine (eqb (core_after before) core) line [] ≡ line ∷ [] = mine_own line (core_after before) core (same.1 ∙ at) in
          ap (list_at grown) same.1 ∙ own ∙ ap (λ (c : ℕ). list_at lists c ++ line ∷ []) (sym same.1) ∙ ap (λ (x : List Line). x ++ line ∷ []) (are core lt)
          ∙ ap (λ (x : List Line). lines_of_core core before ++ x) (sym mine) ∙ sym (one_more before said line core tells)
      | inr other ↦
          let mine : if_mine (eqb (core_after before) core) line [] ≡ [] = mine_other line (core_after before) core (λ h. other.1 (h ∙ sym at)) in
          other_list lists grown now core line other.1 g ∙ are core lt ∙ sym (append-nil (lines_of_core core before))
          ∙ ap (λ (x : List Line). lines_of_core core before ++ x) (sym mine) ∙ sym (one_more before said line core tells)
    ]

size_grown : (count now : ℕ) (line : Line) (lists grown : List (List Line)) → length lists ≡ count → grown ≡ set lists now (list_at lists now ++ line ∷ []) → length grown ≡ count
size_grown count now line lists grown size g = ap length g ∙ length-set lists now (list_at lists now ++ line ∷ []) ∙ size

-- a list that was given out and has grown is that of the core
pub pushed : (lists given grown : List (List Line)) (core place : ℕ) (line : Line) → given ≡ lists → place ≡ core → grown ≡ set given place (list_at given place ++ line ∷ []) → grown ≡ set lists core (list_at lists core ++ line ∷ [])
pushed lists given grown core place line l p g =
    g ∙ ap (λ (x : List (List Line)). set x place (list_at x place ++ line ∷ [])) l ∙ ap (λ (n : ℕ). set lists n (list_at lists n ++ line ∷ [])) p

-- ---- a line that is no run

pub keeps_line : (count : ℕ) (before : List Said) (line : Line) (old new : Draft) → Keeps count before old → turns_in line ≡ 0 → new.core ≡ old.core → new.top ≡ old.top → new.turns ≡ old.turns
    → new.lists.items ≡ set old.lists.items old.core (list_at old.lists.items old.core ++ line ∷ []) → Keeps count (before ++ says.Line line ∷ []) new
keeps_line count before line old new k none core top turns g = record {
  core = core ∙ k.core ∙ sym (core_more 0 before (says.Line line ∷ []));
  core_below = omega (arith, k.core_below);
  top = omega (arith, k.top, greatest_more before (says.Line line ∷ []));
  top_below = omega (arith, k.top_below);
  turns = λ c lt. ap (λ (x : List ℕ). get_or x c 0) turns ∙ k.turns c lt ∙ sym (line_turns c line before none);
  size = size_grown count old.core line old.lists.items new.lists.items k.size g;
  lists = lists_grown count old.core before (says.Line line) line old.lists.items new.lists.items (tells_line line) k.core k.core_below k.size k.lists g;
}

-- ---- a run

-- each count of turns of a draft is that of its core
abbrev AreTurns : List Said → List ℕ → Type 0
AreTurns said turns = (core : ℕ) → core < 256 → get_or turns core 0 ≡ turns_of_core core said

turns_grown : (now turns all : ℕ) (before : List Said) (counts grown : List ℕ) → now ≡ core_after before → now < 256 → length counts ≡ 256 → AreTurns before counts → all ≡ get_or counts now 0 + turns → grown ≡ set counts now all → AreTurns (before ++ says.Run turns ∷ []) grown
turns_grown now turns all before counts grown at below size are sum g = λ core lt.
    elim (eqb_tells core now) [
      | inl same ↦
          let own : get_or grown now 0 ≡ all = ap (λ (x : List ℕ). get_or x now 0) g ∙ get_or-set_same counts now all 0 (omega arith) in
          let mine : turns_of (if_mine (eqb (core_after before) core) (lines.Run turns) []) ≡ turns + 0 = ap turns_of (mine_own (lines.Run turns) (core_after before) core (same.1 ∙ at)) in
          let here : get_or counts now 0 ≡ turns_of_core core before = ap (λ (c : ℕ). get_or counts c 0) (sym same.1) ∙ are core lt in
          let there : get_or grown core 0 ≡ get_or grown now 0 = ap (λ (c : ℕ). get_or grown c 0) same.1 in
          omega (arith, there, own, here, sum, mine, run_counts turns core before)
      | inr other ↦
          let left : get_or grown core 0 ≡ get_or counts core 0 = ap (λ (x : List ℕ). get_or x core 0) g ∙ get_or-set_other counts now core all 0 other.1 in
          let mine : turns_of (if_mine (eqb (core_after before) core) (lines.Run turns) []) ≡ 0 = ap turns_of (mine_other (lines.Run turns) (core_after before) core (λ h. other.1 (h ∙ sym at))) in
          omega (arith, left, are core lt, mine, run_counts turns core before)
    ]

pub keeps_run : (count turns all : ℕ) (before : List Said) (old new : Draft) → Keeps count before old → old.core < 256 → length old.turns ≡ 256 → all ≡ get_or old.turns old.core 0 + turns → new.core ≡ old.core → new.top ≡ old.top
    → new.turns ≡ set old.turns old.core all → new.lists.items ≡ set old.lists.items old.core (list_at old.lists.items old.core ++ lines.Run turns ∷ []) → Keeps count (before ++ says.Run turns ∷ []) new
keeps_run count turns all before old new k below size sum core top grown g = record {
  core = core ∙ k.core ∙ sym (core_more 0 before (says.Run turns ∷ []));
  core_below = omega (arith, k.core_below);
  top = omega (arith, k.top, greatest_more before (says.Run turns ∷ []));
  top_below = omega (arith, k.top_below);
  turns = turns_grown old.core turns all before old.turns new.turns k.core below size k.turns sum grown;
  size = size_grown count old.core (lines.Run turns) old.lists.items new.lists.items k.size g;
  lists = lists_grown count old.core before (says.Run turns) (lines.Run turns) old.lists.items new.lists.items (tells_run turns) k.core k.core_below k.size k.lists g;
}

-- the turns that a draft keeps are those of the core whose lines come next
pub kept_turns : (count : ℕ) (before : List Said) (draft : Draft) → Keeps count before draft → draft.core < 256 → get_or draft.turns draft.core 0 ≡ turns_of_core (core_after before) before
kept_turns count before draft k below = k.turns draft.core below ∙ ap (λ (c : ℕ). turns_of_core c before) k.core

-- the turns of a run that are too many with those before, and of one that are not
pub run_over : (count line turns : ℕ) (before : List Said) (draft : Draft) → Keeps count before draft → draft.core < 256 → None ≡ turns_with (get_or draft.turns draft.core 0) turns → said_next line before (says.Run turns) ≡ Err (faults.TurnsOver line)
run_over count line turns before draft k below h =
    let kept = kept_turns count before draft k below in
    elim (cases_Bool (ltb turn_limit (get_or draft.turns draft.core 0 + turns))) [
      | inl t ↦
          let over : ltb turn_limit (turns_of_core (core_after before) before + turns) ≡ true = ap (λ (n : ℕ). ltb turn_limit (n + turns)) (sym kept) ∙ t in
          rw over refl
      | inr f ↦ let no : None ≡ Some (get_or draft.turns draft.core 0 + turns) = rw f at h in absurd cc
    ]

pub run_within : (count line turns all : ℕ) (before : List Said) (draft : Draft) → Keeps count before draft → draft.core < 256 → Some all ≡ turns_with (get_or draft.turns draft.core 0) turns
    → (all ≡ get_or draft.turns draft.core 0 + turns) × (said_next line before (says.Run turns) ≡ Ok (before ++ says.Run turns ∷ []))
run_within count line turns all before draft k below h =
    let kept = kept_turns count before draft k below in
    elim (cases_Bool (ltb turn_limit (get_or draft.turns draft.core 0 + turns))) [
      | inl t ↦ let no : Some all ≡ None = rw t at h in absurd cc
      | inr f ↦
          let sum : Some all ≡ Some (get_or draft.turns draft.core 0 + turns) = rw f at h in
          let within : ltb turn_limit (turns_of_core (core_after before) before + turns) ≡ false = ap (λ (n : ℕ). ltb turn_limit (n + turns)) (sym kept) ∙ f in
          (cc, rw within refl)
    ]

-- ---- a core that is named

pub keeps_core : (count next : ℕ) (before : List Said) (old new : Draft) → Keeps count before old → next < count → new.core ≡ next → new.top ≡ max old.top next → new.turns ≡ old.turns → new.lists.items ≡ old.lists.items → Keeps count (before ++ says.Core next ∷ []) new
keeps_core count next before old new k below core top turns lists = record {
  core = core ∙ sym (core_more 0 before (says.Core next ∷ []));
  core_below = omega arith;
  top = omega (arith, k.top, greatest_more before (says.Core next ∷ []));
  top_below = omega (arith, k.top_below);
  turns = λ c lt. ap (λ (x : List ℕ). get_or x c 0) turns ∙ k.turns c lt ∙ sym (named_turns c next before);
  size = ap length lists ∙ k.size;
  lists = λ c lt. ap (λ (x : List (List Line)). list_at x c) lists ∙ k.lists c lt ∙ sym (lines_more 0 c before (says.Core next ∷ []) ∙ append-nil (lines_of_core c before));
}

-- ---- the whole script

lists_are : (count : ℕ) (said : List Said) (draft : Draft) → Keeps count said draft → draft.lists.items ≡ lists_for count said
lists_are count said draft k = fill_by_all (λ core. lines_of_core core said) draft.lists.items count [] k.size k.lists

pub lists_taken : (count some : ℕ) (said : List Said) (draft : Draft) → Keeps count said draft → some ≤ count → take some draft.lists.items ≡ lists_for some said
lists_taken count some said draft k le = ap (take some) (lists_are count said draft k) ∙ take-map-range_with_len (λ core. lines_of_core core said) 0 count some le

pub count_given : (cores : Option ℕ) (count : ℕ) (said : List Said) → cores ≡ Some count → count ≡ core_count cores said
count_given cores count said h = ap (λ (o : Option ℕ). core_count o said) (sym h)

pub count_named : (cores : Option ℕ) (top : ℕ) (said : List Said) → cores ≡ None → top ≡ greatest_core said → top + 1 ≡ core_count cores said
count_named cores top said h t = ap (λ (n : ℕ). n + 1) t ∙ ap (λ (o : Option ℕ). core_count o said) (sym h)

pub finished : (cores : Option ℕ) (said : List Said) (draft : Draft) (some : ℕ) → Keeps (core_limit cores) said draft → some ≡ core_count cores said → take some draft.lists.items ≡ lists_for (core_count cores said) said
finished None said draft some k s = ap (λ (n : ℕ). take n draft.lists.items) s ∙ lists_taken 16 (greatest_core said + 1) said draft k (omega (arith, k.top, k.top_below))
finished (Some count) said draft some k s = ap (λ (n : ℕ). take n draft.lists.items) s ∙ lists_taken count count said draft k (omega arith)
