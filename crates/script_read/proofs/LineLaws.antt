-- A line is read as what it stands for in the grammar, and as nothing else.
use Rattle.std.proofs.Common.{◌≡◌, ℕ, suc, ◌+◌, ◌-◌, ◌^◌, ◌≤◌, ◌⊎◌, Bool, true, false, ◌&&◌, ltb, List, [], ◌∷◌, ◌++◌, length, Option, Some, None, Result, Ok, Err, refl, sym, ap, subst, ◌∙◌, arith, inl, inr}
use Rattle.std.specs.Prelude.{codes, IfSome, IfOk}
use Rattle.std.specs.List.{list_all}
use Rattle.std.specs.Char.{is_ascii}
use Rattle.std.specs.Str.{bytes_eq}
use Rattle.std.specs.Option.{option_map}
use Rattle.std.proofs.lemmas.Bool.{cases_Bool, and_parts, and_from, ltb-false, le-ltb}
use Rattle.std.proofs.lemmas.Bool.Decides.{nat_tests}
use Rattle.std.proofs.lemmas.Option.{option_and_then_some}
use Rattle.std.proofs.lemmas.List.Folds.{list_all-append}
use Rattle.std.proofs.lemmas.Slice.Eq.{bytes_eq-Decides}
use Rattle.mon_types.specs.Calls.{call_name, call_args, call_of_registers}
use Rattle.mon_types.specs.declared.call.Call.{Call}
use Rattle.mon_types.specs.declared.script.Line.{Line}
use Rattle.mon_types.specs.declared.script.Line.TheVariants as lines
use Rattle.script_read.specs.declared.form.Form.{Form}
use Rattle.script_read.specs.declared.form.Form.TheVariants as forms
use Rattle.script_read.specs.declared.fault.LineKind.{LineKind}
use Rattle.script_read.specs.declared.fault.LineKind.TheVariants as kinds
use Rattle.script_read.specs.declared.fault.ScriptFault.{ScriptFault}
use Rattle.script_read.specs.declared.fault.ScriptFault.TheVariants as faults
use Rattle.script_read.specs.declared.said.Said.{Said}
use Rattle.script_read.specs.declared.said.Said.TheVariants as says
use Rattle.text_in.specs.Bytes.{is_blank}
use Rattle.text_in.specs.Cuts.{before_comment}
use Rattle.text_in.specs.Words.{IsFirstWord, AreWords, words_of}
use Rattle.text_in.specs.Numbers.{IsDigit, AreDigits, IsUnsigned, with_bytes, unsigned_of}
use Rattle.mon_types.specs.Owns.{os_word}
use Rattle.script_read.specs.Forms.{form_name, least, most, takes_os, form_said, form_named}
use Rattle.script_read.specs.Grammar.{IsNumber, is_owner_place, IsArgument, AreArguments, AreNumbers, IsCallLine, IsEcallLine, IsPcLine, IsRegLine, IsRunLine, IsLoadLine, IsStoreLine, IsCoreLine, StandsForLine, StandsFor, IsLine}
use Rattle.script_read.specs.Reading.{number_of, argument_of, arguments_of, with_zeros, said_with, form_read, at_line, line_in, line_of_words, line_of}
use Rattle.script_read.specs.Drafts.{MayBeSaid}
use Rattle.text_in.proofs.Numbers.{unsigned_read, unsigned_is, up_to_is, up_to_read}
use Rattle.text_in.proofs.Words.{words_are, words_found}
use Rattle.text_in.proofs.Lines.{front_is, has_comment}
use Rattle.text_in.proofs.Cuts.{all_from}
use Rattle.script_read.proofs.FormLaws.{of_one, of_two, HoldsForm, named_is, named_holds, has_form, ecall_said, ecall_word, run_word, tick_word, load_word, store_word, pc_word, reg_word, core_word, said_same, pc_is, pc_found, reg_is, reg_found, core_is, core_found}

-- ---- arguments

number_is : (word : List ℕ) (n : ℕ) → IsNumber word n → number_of word ≡ Some n
number_is word n h = up_to_read (2 ^ 64 - 1) (unsigned_of word) n (unsigned_read word n h.1) (omega (arith, h.0))

number_found : (word : List ℕ) (n : ℕ) → number_of word ≡ Some n → IsNumber word n
number_found word n h = let p = up_to_is (2 ^ 64 - 1) (unsigned_of word) n h in (omega (arith, p.1), unsigned_is word n p.0)

no_number : number_of (codes "os") ≡ None
unfolding with_bytes
no_number = refl

-- a test that a word meets is met by no number
not_os : (word : List ℕ) (n : ℕ) → number_of word ≡ Some n → bytes_eq word (codes "os") ≡ true → ⊥
not_os word n h t =
    let same : word ≡ codes "os" = (bytes_eq-Decides word (codes "os")).0 t in
    let some : None ≡ Some n = sym no_number ∙ ap number_of (sym same) ∙ h in
    absurd cc

number_argument : (form : Form) (place : ℕ) (word : List ℕ) (n : ℕ) → number_of word ≡ Some n → argument_of form place word ≡ Some n
number_argument form place word n h =
    elim (cases_Bool (takes_os form place && bytes_eq word (codes "os"))) [
      | inl t ↦ absurd (not_os word n h (and_parts (takes_os form place) (bytes_eq word (codes "os")) t).1)
      | inr f ↦ rw f h
    ]

os_argument : (form : Form) (place : ℕ) (word : List ℕ) (n : ℕ) → takes_os form place ≡ true → word ≡ codes "os" → n ≡ os_word → argument_of form place word ≡ Some n
os_argument form place word n t w e =
    rw (and_from (takes_os form place) (bytes_eq word (codes "os")) t ((bytes_eq-Decides word (codes "os")).1 w)) (ap (λ (x : ℕ). Some x) (sym e))

-- `os` may stand where it may stand for the form
abbrev SameOwner : (ℕ → Bool) → Form → Type 0
SameOwner os_there form = (place : ℕ) → os_there place ≡ takes_os form place

argument_is : (os_there : ℕ → Bool) (form : Form) (place : ℕ) (word : List ℕ) (n : ℕ) → os_there place ≡ takes_os form place → IsArgument os_there place word n → argument_of form place word ≡ Some n
argument_is os_there form place word n o (inl h) = number_argument form place word n (number_is word n h)
argument_is os_there form place word n o (inr h) = os_argument form place word n (sym o ∙ h.0) h.1 h.2

argument_found : (os_there : ℕ → Bool) (form : Form) (place : ℕ) (word : List ℕ) (n : ℕ) → os_there place ≡ takes_os form place → argument_of form place word ≡ Some n → IsArgument os_there place word n
argument_found os_there form place word n o h =
    elim (cases_Bool (takes_os form place && bytes_eq word (codes "os"))) [
      | inl t ↦
          let p = and_parts (takes_os form place) (bytes_eq word (codes "os")) t in
          let k : Some os_word ≡ Some n = rw t at h in
          let e : os_word ≡ n = cc in
          inr (o ∙ p.0, (bytes_eq-Decides word (codes "os")).0 p.1, sym e)
      | inr f ↦ inl (number_found word n (rw f at h))
    ]

arguments_are : (os_there : ℕ → Bool) (form : Form) (place : ℕ) (words : List (List ℕ)) (ns : List ℕ) → SameOwner os_there form → AreArguments os_there place words ns → arguments_of form place words ≡ Some ns
unfolding arguments_of
arguments_are os_there form place [] [] o h = refl
arguments_are os_there form place [] (n ∷ ns) o h = absurd h
arguments_are os_there form place (word ∷ words) [] o h = absurd h
arguments_are os_there form place (word ∷ words) (n ∷ ns) o h = rw (argument_is os_there form place word n (o place) h.0, arguments_are os_there form (place + 1) words ns o h.1) refl

same_length : (os_there : ℕ → Bool) (place : ℕ) (words : List (List ℕ)) (ns : List ℕ) → AreArguments os_there place words ns → length words ≡ length ns
same_length os_there place [] [] h = refl
same_length os_there place [] (n ∷ ns) h = absurd h
same_length os_there place (word ∷ words) [] h = absurd h
same_length os_there place (word ∷ words) (n ∷ ns) h = ap suc (same_length os_there (place + 1) words ns h.1)

map_some : (f : List ℕ → List ℕ) (o : Option (List ℕ)) (y : List ℕ) → option_map f o ≡ Some y → (x : List ℕ) × (o ≡ Some x) × (f x ≡ y)
map_some f None y h = absurd cc
map_some f (Some x) y h = let e : f x ≡ y = cc in (x, refl, e)

arguments_found : (os_there : ℕ → Bool) (form : Form) (place : ℕ) (words : List (List ℕ)) (ns : List ℕ) → SameOwner os_there form → arguments_of form place words ≡ Some ns → AreArguments os_there place words ns
unfolding arguments_of
arguments_found os_there form place [] [] o h = tt
arguments_found os_there form place [] (n ∷ ns) o h = absurd cc
arguments_found os_there form place (word ∷ words) [] o h = option_and_then_some (λ n. option_map (λ ns. n ∷ ns) (arguments_of form (place + 1) words)) (argument_of form place word) [] h (λ n w r.
    let m = map_some (λ ns. n ∷ ns) (arguments_of form (place + 1) words) [] r in let e : n ∷ m.0 ≡ [] = m.2 in absurd cc)
arguments_found os_there form place (word ∷ words) (n ∷ ns) o h = option_and_then_some (λ n. option_map (λ ns. n ∷ ns) (arguments_of form (place + 1) words)) (argument_of form place word) (n ∷ ns) h (λ k w r.
    let m = map_some (λ ns. k ∷ ns) (arguments_of form (place + 1) words) (n ∷ ns) r in
    let both : k ∷ m.0 ≡ n ∷ ns = m.2 in
    let first : k ≡ n = cc in
    let others : m.0 ≡ ns = cc in
    (argument_found os_there form place word n (o place) (w ∙ ap (λ (x : ℕ). Some x) first), arguments_found os_there form (place + 1) words ns o (m.1 ∙ ap (λ (x : List ℕ). Some x) others)))

-- ---- what stands for a line is read so

-- the words of a form, with as many arguments as it takes, and what it says with them
form_is : (count : ℕ) (os_there : ℕ → Bool) (form : Form) (words : List (List ℕ)) (ns : List ℕ) (said : Said) → SameOwner os_there form → AreArguments os_there 0 words ns → least form ≤ length ns → length ns ≤ most form → form_said count form (with_zeros 7 ns) ≡ Ok said → form_read count form words ≡ Ok said
unfolding form_read
form_is count os_there form words ns said o a low high s =
    let size : length words ≡ length ns = same_length os_there 0 words ns a in
    rw (le-ltb (length words) (least form) (omega arith), le-ltb (most form) (length words) (omega arith), arguments_are os_there form 0 words ns o a) s

-- a line that begins with the word of a form
named_line : (count n : ℕ) (word : List ℕ) (form : Form) (words : List (List ℕ)) (said : Said) → form_named word ≡ Some form → form_read count form words ≡ Ok said → line_of_words count n (word ∷ words) ≡ Ok (Some said)
unfolding line_of_words
named_line count n word form words said w r = rw (w, r) refl

call_line_is : (count n : ℕ) (words : List (List ℕ)) (call : Call) → IsCallLine words call → line_of_words count n words ≡ Ok (Some (says.Line (lines.Make call)))
call_line_is count n words call h =
    let f = has_form call h.named in
    ap (line_of_words count n) h.words_are
    ∙ named_line count n (call_name call) f.form h.args (says.Line (lines.Make call)) f.named
    (form_is count (is_owner_place call) f.form h.args (call_args call) (says.Line (lines.Make call)) f.owner h.are_arguments (omega (arith, f.at_least)) (omega (arith, f.at_most)) (f.said_is count))

-- no `os` may stand among the arguments of a line that is no name of a call
abbrev nowhere : ℕ → Bool
nowhere place = false

ecall_line_is : (count n : ℕ) (words : List (List ℕ)) (call : Call) → IsEcallLine words call → line_of_words count n words ≡ Ok (Some (says.Line (lines.Make call)))
ecall_line_is count n words call h =
    let made : form_said count forms.Ecall (with_zeros 7 (h.number ∷ h.args)) ≡ Ok (says.Line (lines.Make call)) = ecall_said count h.number h.args ∙ ap (λ (x : Call). Ok (says.Line (lines.Make x))) (sym h.call_is) in
    ap (line_of_words count n) h.words_are
    ∙ named_line count n (codes "ecall") forms.Ecall h.numbers (says.Line (lines.Make call)) ecall_word.named
    (form_is count nowhere forms.Ecall h.numbers (h.number ∷ h.args) (says.Line (lines.Make call)) (λ place. refl) h.are_numbers (omega arith) (omega (arith, h.few)) made)

tick_line_is : (count n : ℕ) (words : List (List ℕ)) → words ≡ codes "tick" ∷ [] → line_of_words count n words ≡ Ok (Some (says.Line lines.Tick))
tick_line_is count n words h =
    ap (line_of_words count n) h
    ∙ named_line count n (codes "tick") forms.Tick [] (says.Line lines.Tick) tick_word.named (form_is count nowhere forms.Tick [] [] (says.Line lines.Tick) (λ place. refl) tt (omega arith) (omega arith) refl)

run_line_is : (count n : ℕ) (words : List (List ℕ)) (turns : ℕ) → IsRunLine words turns → line_of_words count n words ≡ Ok (Some (says.Run turns))
run_line_is count n words turns h =
    ap (line_of_words count n) h.words_are
    ∙ named_line count n (codes "run") forms.Run h.numbers (says.Run turns) run_word.named
    (form_is count nowhere forms.Run h.numbers (turns ∷ []) (says.Run turns) (λ place. refl) h.are_numbers (omega arith) (omega arith) refl)

load_line_is : (count n : ℕ) (words : List (List ℕ)) (va : ℕ) → IsLoadLine words va → line_of_words count n words ≡ Ok (Some (says.Line (lines.LoadWord va)))
load_line_is count n words va h =
    ap (line_of_words count n) h.words_are
    ∙ named_line count n (codes "load") forms.LoadWord h.numbers (says.Line (lines.LoadWord va)) load_word.named
    (form_is count nowhere forms.LoadWord h.numbers (va ∷ []) (says.Line (lines.LoadWord va)) (λ place. refl) h.are_numbers (omega arith) (omega arith) refl)

store_line_is : (count n : ℕ) (words : List (List ℕ)) (va value : ℕ) → IsStoreLine words va value → line_of_words count n words ≡ Ok (Some (says.Line (lines.StoreWord va value)))
store_line_is count n words va value h =
    ap (line_of_words count n) h.words_are
    ∙ named_line count n (codes "store") forms.StoreWord h.numbers (says.Line (lines.StoreWord va value)) store_word.named
    (form_is count nowhere forms.StoreWord h.numbers (va ∷ value ∷ []) (says.Line (lines.StoreWord va value)) (λ place. refl) h.are_numbers (omega arith) (omega arith) refl)

pc_line_is : (count n : ℕ) (words : List (List ℕ)) (pc : ℕ) → IsPcLine words pc → line_of_words count n words ≡ Ok (Some (says.Line (lines.SetPc pc)))
pc_line_is count n words pc h =
    ap (line_of_words count n) h.words_are
    ∙ named_line count n (codes "pc") forms.SetPc h.numbers (says.Line (lines.SetPc pc)) pc_word.named
    (form_is count nowhere forms.SetPc h.numbers (pc ∷ []) (says.Line (lines.SetPc pc)) (λ place. refl) h.are_numbers (omega arith) (omega arith) (pc_is pc h.whole))

reg_line_is : (count n : ℕ) (words : List (List ℕ)) (x value : ℕ) → IsRegLine words x value → line_of_words count n words ≡ Ok (Some (says.Line (lines.SetReg x value)))
reg_line_is count n words x value h =
    ap (line_of_words count n) h.words_are
    ∙ named_line count n (codes "reg") forms.SetReg h.numbers (says.Line (lines.SetReg x value)) reg_word.named
    (form_is count nowhere forms.SetReg h.numbers (x ∷ value ∷ []) (says.Line (lines.SetReg x value)) (λ place. refl) h.are_numbers (omega arith) (omega arith) (reg_is x value h.from h.to))

core_line_is : (count n : ℕ) (words : List (List ℕ)) (core : ℕ) → IsCoreLine count words core → line_of_words count n words ≡ Ok (Some (says.Core core))
core_line_is count n words core h =
    ap (line_of_words count n) h.words_are
    ∙ named_line count n (codes "core") forms.Core h.numbers (says.Core core) core_word.named
    (form_is count nowhere forms.Core h.numbers (core ∷ []) (says.Core core) (λ place. refl) h.are_numbers (omega arith) (omega arith) (core_is count core h.below))

no_words_are : (count n : ℕ) → line_of_words count n [] ≡ Ok None
unfolding line_of_words
no_words_are count n = refl

made_line_is : (count n : ℕ) (words : List (List ℕ)) (call : Call) → IsCallLine words call ⊎ IsEcallLine words call → line_of_words count n words ≡ Ok (Some (says.Line (lines.Make call)))
made_line_is count n words call (inl h) = call_line_is count n words call h
made_line_is count n words call (inr h) = ecall_line_is count n words call h

own_line_stands : (count n : ℕ) (words : List (List ℕ)) (line : Line) → StandsForLine words line → line_of_words count n words ≡ Ok (Some (says.Line line))
own_line_stands count n words (lines.Make call) h = made_line_is count n words call h
own_line_stands count n words (lines.Run turns) h = absurd h
own_line_stands count n words lines.Tick h = tick_line_is count n words h
own_line_stands count n words (lines.LoadWord va) h = load_line_is count n words va h
own_line_stands count n words (lines.StoreWord va value) h = store_line_is count n words va value h
own_line_stands count n words (lines.SetPc pc) h = pc_line_is count n words pc h
own_line_stands count n words (lines.SetReg x value) h = reg_line_is count n words x value h

words_stand : (count n : ℕ) (words : List (List ℕ)) (said : Option Said) → StandsFor count words said → line_of_words count n words ≡ Ok said
words_stand count n words None h = ap (line_of_words count n) h ∙ no_words_are count n
words_stand count n words (Some (says.Line line)) h = own_line_stands count n words line h
words_stand count n words (Some (says.Run turns)) h = run_line_is count n words turns h
words_stand count n words (Some (says.Core core)) h = core_line_is count n words core h

-- ---- what the words of a line are read as

err_ok : {X E : Type 0} (e : E) (x : X) (P : Type 0) → ◌≡◌ {A = Result X E} (Err e) (Ok x) → P
err_ok e x P h = absurd cc

ok_same : {X E : Type 0} (x y : X) → ◌≡◌ {A = Result X E} (Ok x) (Ok y) → x ≡ y
ok_same x y h = cc

-- the arguments of a line that was read
record HasArguments (count : ℕ) (form : Form) (args : List (List ℕ)) (said : Said) : Type 0 where
  ns : List ℕ
  low : least form ≤ length args
  high : length args ≤ most form
  read : arguments_of form 0 args ≡ Some ns
  is : form_said count form (with_zeros 7 ns) ≡ Ok said

with_found : (count : ℕ) (form : Form) (args : List (List ℕ)) (said : Said) (read : Option (List ℕ)) → least form ≤ length args → length args ≤ most form → arguments_of form 0 args ≡ read → said_with count form read ≡ Ok said → HasArguments count form args said
with_found count form args said None low high r h = err_ok kinds.BadNumber said (HasArguments count form args said) h
with_found count form args said (Some ns) low high r h = record { ns = ns; low = low; high = high; read = r; is = h }

form_read_found : (count : ℕ) (form : Form) (args : List (List ℕ)) (said : Said) → form_read count form args ≡ Ok said → HasArguments count form args said
unfolding form_read
form_read_found count form args said h =
    elim (cases_Bool (ltb (length args) (least form))) [
      | inl t ↦ err_ok kinds.MissingWord said (HasArguments count form args said) (rw t at h)
      | inr f ↦ elim (cases_Bool (ltb (most form) (length args))) [
        | inl t ↦ err_ok kinds.ExtraWord said (HasArguments count form args said) (rw (f, t) at h)
        | inr g ↦ with_found count form args said (arguments_of form 0 args) (ltb-false (length args) (least form) f) (ltb-false (most form) (length args) g) refl (rw (f, g) at h)
      ]
    ]

-- what the line of this first word and these arguments says
abbrev Found : ℕ → List ℕ → List (List ℕ) → Said → Type 0
Found count word args said = StandsFor count (word ∷ args) (Some said)

named_found : (count number arity : ℕ) (word : List ℕ) (args : List (List ℕ)) (said : Said) → word ≡ form_name (forms.Named number arity) → HoldsForm (forms.Named number arity) → HasArguments count (forms.Named number arity) args said → Found count word args said
named_found count number arity word args said w holds a =
    let found : AreArguments (takes_os (forms.Named number arity)) 0 args a.ns = arguments_found (takes_os (forms.Named number arity)) (forms.Named number arity) 0 args a.ns (λ place. refl) a.read in
    let same : length args ≡ length a.ns = same_length (takes_os (forms.Named number arity)) 0 args a.ns found in
    let size : length a.ns ≡ arity = omega (arith, a.low, a.high) in
    let m = holds a.ns size in
    let there : AreArguments (is_owner_place m.call) 0 args a.ns = arguments_found (is_owner_place m.call) (forms.Named number arity) 0 args a.ns m.owner a.read in
    subst (λ (x : Said). Found count word args x) (said_same (says.Line (lines.Make m.call)) said (sym (m.said_is count) ∙ a.is)) (inl (record {
      named = m.named;
      args = args;
      words_are = ap (λ (x : List ℕ). x ∷ args) (w ∙ sym m.name_is);
      are_arguments = subst (λ (x : List ℕ). AreArguments (is_owner_place m.call) 0 args x) (sym m.args_are) there;
    }))

-- the numbers of a line that was read
numbers_found : (count : ℕ) (form : Form) (args : List (List ℕ)) (said : Said) (a : HasArguments count form args said) → SameOwner nowhere form → AreNumbers args a.ns
numbers_found count form args said a o = arguments_found nowhere form 0 args a.ns o a.read

ecall_by : (count : ℕ) (word : List ℕ) (args : List (List ℕ)) (said : Said) (ns : List ℕ) → word ≡ codes "ecall" → 1 ≤ length args → length args ≤ 7 → AreNumbers args ns → form_said count forms.Ecall (with_zeros 7 ns) ≡ Ok said → Found count word args said
ecall_by count word args said [] w low high found is = let same : length args ≡ 0 = same_length nowhere 0 args [] found in absurd (omega arith)
ecall_by count word args said (n ∷ ns) w low high found is =
    let same : length args ≡ length ns + 1 = omega (arith, same_length nowhere 0 args (n ∷ ns) found) in
    subst (λ (x : Said). Found count word args x) (said_same (says.Line (lines.Make (call_of_registers n (with_zeros 6 ns)))) said (sym (ecall_said count n ns) ∙ is)) (inr (record {
      number = n;
      args = ns;
      numbers = args;
      words_are = ap (λ (x : List ℕ). x ∷ args) w;
      are_numbers = found;
      few = omega arith;
      call_is = refl;
    }))

tick_by : (count : ℕ) (word : List ℕ) (args : List (List ℕ)) (said : Said) → word ≡ codes "tick" → length args ≤ 0 → form_said count forms.Tick [] ≡ Ok said → Found count word args said
tick_by count word [] said w high is = subst (λ (x : Said). Found count word [] x) (said_same (says.Line lines.Tick) said is) (ap (λ (x : List ℕ). x ∷ []) w)
tick_by count word (arg ∷ args) said w high is = absurd (omega arith)

-- what a line of the form says with these numbers, it stands for
abbrev Told : ℕ → Form → List ℕ → List (List ℕ) → Said → List ℕ → Type 0
Told count form word args said ns = AreNumbers args ns → form_said count form (with_zeros 7 ns) ≡ Ok said → Found count word args said

run_by : (count : ℕ) (word : List ℕ) (args : List (List ℕ)) (said : Said) → word ≡ codes "run" → (ns : List ℕ) → length ns ≡ 1 → Told count forms.Run word args said ns
run_by count word args said w = of_one (Told count forms.Run word args said) (λ turns found is.
    subst (λ (x : Said). Found count word args x) (said_same (says.Run turns) said is) (record { numbers = args; words_are = ap (λ (x : List ℕ). x ∷ args) w; are_numbers = found }))

load_by : (count : ℕ) (word : List ℕ) (args : List (List ℕ)) (said : Said) → word ≡ codes "load" → (ns : List ℕ) → length ns ≡ 1 → Told count forms.LoadWord word args said ns
load_by count word args said w = of_one (Told count forms.LoadWord word args said) (λ va found is.
    subst (λ (x : Said). Found count word args x) (said_same (says.Line (lines.LoadWord va)) said is) (record { numbers = args; words_are = ap (λ (x : List ℕ). x ∷ args) w; are_numbers = found }))

store_by : (count : ℕ) (word : List ℕ) (args : List (List ℕ)) (said : Said) → word ≡ codes "store" → (ns : List ℕ) → length ns ≡ 2 → Told count forms.StoreWord word args said ns
store_by count word args said w = of_two (Told count forms.StoreWord word args said) (λ va value found is.
    subst (λ (x : Said). Found count word args x) (said_same (says.Line (lines.StoreWord va value)) said is) (record { numbers = args; words_are = ap (λ (x : List ℕ). x ∷ args) w; are_numbers = found }))

pc_by : (count : ℕ) (word : List ℕ) (args : List (List ℕ)) (said : Said) → word ≡ codes "pc" → (ns : List ℕ) → length ns ≡ 1 → Told count forms.SetPc word args said ns
pc_by count word args said w = of_one (Told count forms.SetPc word args said) (λ pc found is.
    let p = pc_found pc said is in
    subst (λ (x : Said). Found count word args x) p.1 (record { numbers = args; words_are = ap (λ (x : List ℕ). x ∷ args) w; are_numbers = found; whole = p.0 }))

reg_by : (count : ℕ) (word : List ℕ) (args : List (List ℕ)) (said : Said) → word ≡ codes "reg" → (ns : List ℕ) → length ns ≡ 2 → Told count forms.SetReg word args said ns
reg_by count word args said w = of_two (Told count forms.SetReg word args said) (λ x value found is.
    let p = reg_found x value said is in
    subst (λ (s : Said). Found count word args s) p.2 (record { numbers = args; words_are = ap (λ (s : List ℕ). s ∷ args) w; are_numbers = found; from = p.0; to = p.1 }))

core_by : (count : ℕ) (word : List ℕ) (args : List (List ℕ)) (said : Said) → word ≡ codes "core" → (ns : List ℕ) → length ns ≡ 1 → Told count forms.Core word args said ns
core_by count word args said w = of_one (Told count forms.Core word args said) (λ core found is.
    let p = core_found count core said is in
    subst (λ (x : Said). Found count word args x) p.1 (record { numbers = args; words_are = ap (λ (x : List ℕ). x ∷ args) w; are_numbers = found; below = p.0 }))

-- a line that is no name of a call, with a number of arguments that is fixed
fixed_by : (count size : ℕ) (word : List ℕ) (args : List (List ℕ)) (said : Said) (form : Form) → SameOwner nowhere form → least form ≡ size → most form ≡ size → HasArguments count form args said
    → ((ns : List ℕ) → length ns ≡ size → Told count form word args said ns) → Found count word args said
fixed_by count size word args said form o low high a by =
    let found = numbers_found count form args said a o in
    let same : length args ≡ length a.ns = same_length nowhere 0 args a.ns found in
    by a.ns (omega (arith, a.low, a.high)) found a.is

form_found : (count : ℕ) (word : List ℕ) (args : List (List ℕ)) (said : Said) (form : Form) → word ≡ form_name form → HoldsForm form → HasArguments count form args said → Found count word args said
unfolding form_name
form_found count word args said (forms.Named number arity) w holds a = named_found count number arity word args said w holds a
form_found count word args said forms.Ecall w holds a = ecall_by count word args said a.ns w a.low a.high (numbers_found count forms.Ecall args said a (λ place. refl)) a.is
form_found count word args said forms.Run w holds a = fixed_by count 1 word args said forms.Run (λ place. refl) refl refl a (run_by count word args said w)
form_found count word args said forms.Tick w holds a = tick_by count word args said w a.high a.is
form_found count word args said forms.LoadWord w holds a = fixed_by count 1 word args said forms.LoadWord (λ place. refl) refl refl a (load_by count word args said w)
form_found count word args said forms.StoreWord w holds a = fixed_by count 2 word args said forms.StoreWord (λ place. refl) refl refl a (store_by count word args said w)
form_found count word args said forms.SetPc w holds a = fixed_by count 1 word args said forms.SetPc (λ place. refl) refl refl a (pc_by count word args said w)
form_found count word args said forms.SetReg w holds a = fixed_by count 2 word args said forms.SetReg (λ place. refl) refl refl a (reg_by count word args said w)
form_found count word args said forms.Core w holds a = fixed_by count 1 word args said forms.Core (λ place. refl) refl refl a (core_by count word args said w)

at_line_found : (count n : ℕ) (word : List ℕ) (args : List (List ℕ)) (form : Form) (said : Option Said) (r : Result Said LineKind) → form_named word ≡ Some form → form_read count form args ≡ r → at_line n r ≡ Ok said → StandsFor count (word ∷ args) said
at_line_found count n word args form said (Ok first) w r h =
    subst (λ (x : Option Said). StandsFor count (word ∷ args) x) (ok_same (Some first) said h) (form_found count word args first form (named_is word form w) (named_holds word form w) (form_read_found count form args first r))
at_line_found count n word args form said (Err kind) w r h = err_ok (faults.BadLine n kind) said (StandsFor count (word ∷ args) said) h

line_in_found : (count n : ℕ) (word : List ℕ) (args : List (List ℕ)) (o : Option Form) (said : Option Said) → form_named word ≡ o → line_in count n o args ≡ Ok said → StandsFor count (word ∷ args) said
line_in_found count n word args None said w h = err_ok (faults.BadLine n kinds.UnknownWord) said (StandsFor count (word ∷ args) said) h
line_in_found count n word args (Some form) said w h = at_line_found count n word args form said (form_read count form args) w refl h

words_line_found : (count n : ℕ) (words : List (List ℕ)) (said : Option Said) → line_of_words count n words ≡ Ok said → StandsFor count words said
unfolding line_of_words
words_line_found count n [] said h = subst (λ (x : Option Said). StandsFor count [] x) (ok_same None said h) refl
words_line_found count n (word ∷ args) said h = line_in_found count n word args (form_named word) said refl h

-- ---- bytes that are not ASCII

blank_ascii : (b : ℕ) → is_blank b ≡ true → is_ascii b ≡ true
blank_ascii b h = grind (arith, nat_tests)

digit_ascii : (b digit : ℕ) → IsDigit b digit → is_ascii b ≡ true
digit_ascii b digit h = grind (arith, nat_tests)

digits_ascii : (base : ℕ) (bytes : List ℕ) (n : ℕ) → AreDigits base bytes n → list_all is_ascii bytes ≡ true
digits_ascii base [] n h = refl
digits_ascii base (b ∷ bs) n h = and_from (is_ascii b) (list_all is_ascii bs) (digit_ascii b h.0 h.3) (digits_ascii base bs h.1 h.4)

number_ascii : (word : List ℕ) (n : ℕ) → IsUnsigned word n → list_all is_ascii word ≡ true
number_ascii word n (inl d) = digits_ascii 10 word n d.1
number_ascii word n (inr x) = ap (list_all is_ascii) x.1 ∙ digits_ascii 16 x.0 n x.3

argument_ascii : (os_there : ℕ → Bool) (place : ℕ) (word : List ℕ) (n : ℕ) → IsArgument os_there place word n → list_all is_ascii word ≡ true
argument_ascii os_there place word n (inl h) = number_ascii word n h.1
argument_ascii os_there place word n (inr h) = ap (list_all is_ascii) h.1

abbrev AreAscii : List (List ℕ) → Type 0
AreAscii words = list_all (list_all is_ascii) words ≡ true

arguments_ascii : (os_there : ℕ → Bool) (place : ℕ) (words : List (List ℕ)) (ns : List ℕ) → AreArguments os_there place words ns → AreAscii words
arguments_ascii os_there place [] [] h = refl
arguments_ascii os_there place [] (n ∷ ns) h = absurd h
arguments_ascii os_there place (word ∷ words) [] h = absurd h
arguments_ascii os_there place (word ∷ words) (n ∷ ns) h =
    and_from (list_all is_ascii word) (list_all (list_all is_ascii) words) (argument_ascii os_there place word n h.0) (arguments_ascii os_there (place + 1) words ns h.1)

-- a word, and its arguments
pair_ascii : (os_there : ℕ → Bool) (words : List (List ℕ)) (word : List ℕ) (args : List (List ℕ)) (ns : List ℕ) → words ≡ word ∷ args → list_all is_ascii word ≡ true → AreArguments os_there 0 args ns → AreAscii words
pair_ascii os_there words word args ns w a h = rw w (and_from (list_all is_ascii word) (list_all (list_all is_ascii) args) a (arguments_ascii os_there 0 args ns h))

made_ascii : (words : List (List ℕ)) (call : Call) → IsCallLine words call ⊎ IsEcallLine words call → AreAscii words
made_ascii words call (inl h) = pair_ascii (is_owner_place call) words (call_name call) h.args (call_args call) h.words_are (has_form call h.named).ascii h.are_arguments
made_ascii words call (inr h) = pair_ascii nowhere words (codes "ecall") h.numbers (h.number ∷ h.args) h.words_are refl h.are_numbers

own_line_ascii : (words : List (List ℕ)) (line : Line) → StandsForLine words line → AreAscii words
own_line_ascii words (lines.Make call) h = made_ascii words call h
own_line_ascii words (lines.Run turns) h = absurd h
own_line_ascii words lines.Tick h = ap (list_all (list_all is_ascii)) h
own_line_ascii words (lines.LoadWord va) h = pair_ascii nowhere words (codes "load") h.numbers (va ∷ []) h.words_are refl h.are_numbers
own_line_ascii words (lines.StoreWord va value) h = pair_ascii nowhere words (codes "store") h.numbers (va ∷ value ∷ []) h.words_are refl h.are_numbers
own_line_ascii words (lines.SetPc pc) h = pair_ascii nowhere words (codes "pc") h.numbers (pc ∷ []) h.words_are refl h.are_numbers
own_line_ascii words (lines.SetReg x value) h = pair_ascii nowhere words (codes "reg") h.numbers (x ∷ value ∷ []) h.words_are refl h.are_numbers

words_ascii : (count : ℕ) (words : List (List ℕ)) (said : Option Said) → StandsFor count words said → AreAscii words
words_ascii count words None h = ap (list_all (list_all is_ascii)) h
words_ascii count words (Some (says.Line line)) h = own_line_ascii words line h
words_ascii count words (Some (says.Run turns)) h = pair_ascii nowhere words (codes "run") h.numbers (turns ∷ []) h.words_are refl h.are_numbers
words_ascii count words (Some (says.Core core)) h = pair_ascii nowhere words (codes "core") h.numbers (core ∷ []) h.words_are refl h.are_numbers

front_ascii : (text : List ℕ) (words : List (List ℕ)) → AreWords text words → AreAscii words → list_all is_ascii text ≡ true
front_ascii text [] h a = all_from is_blank is_ascii text blank_ascii h
front_ascii text (word ∷ words) h a =
    let p = and_parts (list_all is_ascii word) (list_all (list_all is_ascii) words) a in
    let first : IsFirstWord text word h.0 = h.1 in
    let behind : list_all is_ascii (word ++ h.0) ≡ true = list_all-append is_ascii word h.0 ∙ and_from (list_all is_ascii word) (list_all is_ascii h.0) p.0 (front_ascii h.0 words h.2 p.1) in
    ap (list_all is_ascii) first.text_is ∙ list_all-append is_ascii first.blanks (word ++ h.0)
    ∙ and_from (list_all is_ascii first.blanks) (list_all is_ascii (word ++ h.0)) (all_from is_blank is_ascii first.blanks blank_ascii first.are_blank) behind

-- ---- lines

pub line_is : (count n : ℕ) (text : List ℕ) (said : Option Said) → IsLine count text said → line_of count n text ≡ Ok said
unfolding line_of
line_is count n text said h =
    let before : before_comment text ≡ h.before = ap before_comment h.text_is ∙ front_is h.before h.comment h.no_sign h.is_comment in
    let ascii : list_all is_ascii h.before ≡ true = front_ascii h.before h.words h.are_words (words_ascii count h.words said h.stands) in
    rw before (rw ascii (ap (line_of_words count n) (words_are h.before h.words h.are_words) ∙ words_stand count n h.words said h.stands))

pub line_found : (count n : ℕ) (text : List ℕ) (said : Option Said) → line_of count n text ≡ Ok said → IsLine count text said
unfolding line_of
line_found count n text said h =
    let c = has_comment text in
    elim (cases_Bool (list_all is_ascii (before_comment text))) [
      | inl t ↦ record {
        before = before_comment text;
        comment = c.comment;
        words = words_of (before_comment text);
        text_is = c.text_is;
        no_sign = c.no_sign;
        is_comment = c.is_comment;
        are_words = words_found (before_comment text) (words_of (before_comment text)) refl;
        stands = words_line_found count n (words_of (before_comment text)) said (rw t at h);
      }
      | inr f ↦ err_ok (faults.BadLine n kinds.UnknownWord) said (IsLine count text said) (rw f at h)
    ]

own_line_may : (count : ℕ) (words : List (List ℕ)) (line : Line) → StandsForLine words line → MayBeSaid count (says.Line line)
own_line_may count words (lines.Make call) h = refl
own_line_may count words (lines.Run turns) h = absurd h
own_line_may count words lines.Tick h = refl
own_line_may count words (lines.LoadWord va) h = refl
own_line_may count words (lines.StoreWord va value) h = refl
own_line_may count words (lines.SetPc pc) h = refl
own_line_may count words (lines.SetReg x value) h = refl

pub stands_may : (count : ℕ) (words : List (List ℕ)) (said : Option Said) → StandsFor count words said → IfSome said (MayBeSaid count)
stands_may count words None h = tt
stands_may count words (Some (says.Line line)) h = own_line_may count words line h
stands_may count words (Some (says.Run turns)) h = tt
stands_may count words (Some (says.Core core)) h = h.below

pub words_may : (count n : ℕ) (words : List (List ℕ)) (r : Result (Option Said) ScriptFault) → r ≡ line_of_words count n words → IfOk r (λ said. IfSome said (MayBeSaid count))
words_may count n words (Ok said) h = stands_may count words said (words_line_found count n words said (sym h))
words_may count n words (Err fault) h = tt
