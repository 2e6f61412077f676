-- Images and scripts that are read have numbers of their types.
use Rattle.std.proofs.Common.{◌≡◌, ◌⊎◌, inl, inr, ◌+◌, ◌-◌, ◌==◌, ℕ, Bool, true, false, cond, Option, Some, None, List, [], ◌∷◌, ◌++◌, length, replicate, sym, subst, arith}
use Rattle.std.specs.Prelude.{slice_index}
use Rattle.std.specs.Option.{option_to_list}
use Rattle.std.specs.List.{AllByRecursion, range_with_len}
use Rattle.mon_types.specs.Calls.{call_args}
use Rattle.mon_types.proofs.Rows.{all_at, zeros_fit}
use Rattle.mon_types.specs.declared.call.Call.{Call}
use Rattle.mon_types.specs.declared.call.Call.TheVariants as calls
use Rattle.mon_types.specs.declared.script.Line.{Line}
use Rattle.mon_types.specs.declared.script.Line.TheVariants as lines
use Rattle.mon_records.specs.Ranges.{HasAllArguments, IsCall}
use Rattle.script_read.specs.declared.said.Said.{Said}
use Rattle.script_read.specs.declared.said.Said.TheVariants as says
use Rattle.script_read.specs.Cores.{lines_from, lines_of_core, core_count, lists_for}
use Rattle.script_read.specs.Grammar.{IsArgument, AreArguments, is_named_call, IsCallLine, IsEcallLine, StandsForLine, StandsFor, AreLines}
use Rattle.core_laws.specs.Outcomes.{IsWord}
use Rattle.core_laws.specs.Given.{IsWide, AreWide}
use Rattle.core_laws.specs.Laws.{ImagesAreMachines, ScriptsAreWide}
use Rattle.core_laws.proofs.CallWords.{all_append, all_map}
use Rattle.core_laws.proofs.GuestTurns.{call_fits}

argument_fits : (os : ℕ → Bool) (place : ℕ) (word : List ℕ) (n : ℕ) → IsArgument os place word n → IsWord n
argument_fits os place word n (inl h) = h.0
argument_fits os place word n (inr h) = subst IsWord (sym h.2) (omega arith)

arguments_fit : (os : ℕ → Bool) (place : ℕ) (words : List (List ℕ)) (ns : List ℕ) → AreArguments os place words ns → AllByRecursion IsWord ns
arguments_fit os place [] [] h = tt
arguments_fit os place [] (n ∷ ns) h = absurd h
arguments_fit os place (word ∷ words) [] h = absurd h
arguments_fit os place (word ∷ words) (n ∷ ns) h = (argument_fits os place word n h.0, arguments_fit os (place + 1) words ns h.1)

named_has_all : (call : Call) → is_named_call call ≡ true → HasAllArguments call
named_has_all (calls.Aex saved) h = absurd (cc)
named_has_all (calls.Unknown number args) h = absurd (cc)
named_has_all _ h = tt

named_fits : (words : List (List ℕ)) (call : Call) → IsCallLine words call → IsCall call
named_fits words call h = record { words = arguments_fit _ 0 h.args (call_args call) h.are_arguments; all = named_has_all call h.named }

numbered_fits : (words : List (List ℕ)) (call : Call) → IsEcallLine words call → IsCall call
numbered_fits words call h =
    let fit = arguments_fit (λ place. false) 0 h.numbers (h.number ∷ h.args) h.are_numbers in
    let at : (i : ℕ) → IsWord (slice_index (h.args ++ replicate (6 - length h.args) 0) i) =
    λ i. all_at IsWord (h.args ++ replicate (6 - length h.args) 0) i (omega arith) (all_append IsWord h.args (replicate (6 - length h.args) 0) fit.1 (zeros_fit (6 - length h.args))) in
    subst IsCall (sym h.call_is) (call_fits h.number _ _ _ _ _ _ fit.0 (at 0) (at 1) (at 2) (at 3) (at 4) (at 5))

line_fits : (words : List (List ℕ)) (line : Line) → StandsForLine words line → IsWide line
line_fits words (lines.Make call) (inl h) = named_fits words call h
line_fits words (lines.Make call) (inr h) = numbered_fits words call h
line_fits words (lines.Run count) h = absurd h
line_fits words lines.Tick h = tt
line_fits words (lines.LoadWord va) h = (arguments_fit (λ place. false) 0 h.numbers (va ∷ []) h.are_numbers).0
line_fits words (lines.StoreWord va value) h = (let fit = arguments_fit (λ place. false) 0 h.numbers (va ∷ value ∷ []) h.are_numbers in (fit.0, fit.1.0))
line_fits words (lines.SetPc pc) h = (arguments_fit (λ place. false) 0 h.numbers (pc ∷ []) h.are_numbers).0
line_fits words (lines.SetReg x value) h = (arguments_fit (λ place. false) 0 h.numbers (x ∷ value ∷ []) h.are_numbers).1.0

-- what a line says has numbers of 64 bits
abbrev IsWideSaid : Said → Type 0
IsWideSaid (says.Line line) = IsWide line
IsWideSaid (says.Run turns) = Unit {0}
IsWideSaid (says.Core core) = Unit {0}

said_fits : (count : ℕ) (words : List (List ℕ)) (said : Option Said) → StandsFor count words said → AllByRecursion IsWideSaid (option_to_list said)
said_fits count words None h = tt
said_fits count words (Some (says.Line line)) h = (line_fits words line h, tt)
said_fits count words (Some (says.Run turns)) h = (tt, tt)
said_fits count words (Some (says.Core core)) h = (tt, tt)

all_said_fit : (count : ℕ) (texts : List (List ℕ)) (said : List Said) → AreLines count texts said → AllByRecursion IsWideSaid said
all_said_fit count [] said h = subst (AllByRecursion IsWideSaid) (sym h) tt
all_said_fit count (text ∷ texts) said h =
    subst (AllByRecursion IsWideSaid) (sym h.3) (all_append IsWideSaid (option_to_list h.0) h.1 (said_fits count h.2.words h.0 h.2.stands) (all_said_fit count texts h.1 h.4))

lines_fit : (now core : ℕ) (said : List Said) → AllByRecursion IsWideSaid said → AllByRecursion IsWide (lines_from now core said)
lines_fit now core [] h = tt
lines_fit now core (says.Line line ∷ others) h = mine (now == core) line (lines_from now core others) h.0 (lines_fit now core others h.1)
  where
    mine : (b : Bool) (line : Line) (rest : List Line) → IsWide line → AllByRecursion IsWide rest → AllByRecursion IsWide (cond b (line ∷ rest) rest)
    mine true line rest a k = (a, k)
    mine false line rest a k = k
lines_fit now core (says.Run turns ∷ others) h = mine (now == core) (lines_from now core others) (lines_fit now core others h.1)
  where
    mine : (b : Bool) (rest : List Line) → AllByRecursion IsWide rest → AllByRecursion IsWide (cond b (lines.Run turns ∷ rest) rest)
    mine true rest k = (tt, k)
    mine false rest k = k
lines_fit now core (says.Core next ∷ others) h = lines_fit next core others h.1

pub images_are_machines : ImagesAreMachines
images_are_machines = λ bytes image text. record { shape = text.is_image.shape; starts = text.wide_starts; segments = text.wide_segments }

pub scripts_are_wide : ScriptsAreWide
scripts_are_wide = λ cores bytes script is.
    let fit = all_said_fit _ is.texts is.said is.are_lines in
    subst AreWide (sym is.script_is) (all_map (AllByRecursion IsWide) (λ core. lines_of_core core is.said) (λ core. lines_fit 0 core is.said fit) (range_with_len 0 (core_count cores is.said)))
