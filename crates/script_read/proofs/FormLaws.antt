-- The forms of lines, and the lines that they make.
use Rattle.std.proofs.Common.{◌≡◌, ℕ, ◌+◌, ◌-◌, ◌%◌, ◌<◌, ◌≤◌, eqb, leb, ltb, Bool, true, ◌&&◌, List, [], ◌∷◌, ◌++◌, length, replicate, Option, Some, None, Result, Ok, Err, refl, sym, ap, subst, ◌∙◌, arith, inl, inr}
use Rattle.std.specs.Prelude.{IfSome, codes}
use Rattle.std.specs.List.{find, list_all, AllByRecursion}
use Rattle.std.specs.Char.{is_ascii}
use Rattle.std.specs.Str.{bytes_eq}
use Rattle.std.proofs.lemmas.Bool.{cases_Bool, and_parts, eqb-true, ltb-true, lt-ltb}
use Rattle.std.proofs.lemmas.Bool.Decides.{nat_tests}
use Rattle.std.proofs.lemmas.Slice.Eq.{bytes_eq-Decides}
use Rattle.mon_types.specs.Calls.{call_name, call_args, call_of, call_of_registers}
use Rattle.mon_types.specs.declared.call.Call.{Call}
use Rattle.mon_types.specs.declared.call.Call.TheVariants as calls
use Rattle.mon_types.specs.declared.script.Line.TheVariants as lines
use Rattle.script_read.specs.declared.fault.LineKind.{LineKind}
use Rattle.script_read.specs.declared.fault.LineKind.TheVariants as kinds
use Rattle.script_read.specs.declared.said.Said.{Said}
use Rattle.script_read.specs.declared.said.Said.TheVariants as says
use Rattle.script_read.specs.declared.form.Form.{Form}
use Rattle.script_read.specs.declared.form.Form.TheVariants as forms
use Rattle.script_read.specs.Grammar.{is_owner_place, is_named_call}
use Rattle.script_read.specs.Forms.{form_name, pc_said, reg_said, core_said, all_forms, form_named, least, most, takes_os, form_said}
use Rattle.script_read.specs.Reading.{with_zeros}

-- ---- lists of known length

of_none : (P : List ℕ → Type 0) → P [] → (args : List ℕ) → length args ≡ 0 → P args
of_none P p [] h = p
of_none P p (a ∷ args) h = absurd (omega arith)

of_more : (P : List ℕ → Type 0) (n : ℕ) → ((a : ℕ) (args : List ℕ) → length args ≡ n → P (a ∷ args)) → (args : List ℕ) → length args ≡ n + 1 → P args
of_more P n p [] h = absurd (omega arith)
of_more P n p (a ∷ args) h = p a args (omega arith)

pub of_one : (P : List ℕ → Type 0) → ((a : ℕ) → P (a ∷ [])) → (args : List ℕ) → length args ≡ 1 → P args
of_one P p = of_more P 0 (λ a. of_none (λ args. P (a ∷ args)) (p a))

pub of_two : (P : List ℕ → Type 0) → ((a b : ℕ) → P (a ∷ b ∷ [])) → (args : List ℕ) → length args ≡ 2 → P args
of_two P p = of_more P 1 (λ a. of_one (λ args. P (a ∷ args)) (p a))

of_three : (P : List ℕ → Type 0) → ((a b c : ℕ) → P (a ∷ b ∷ c ∷ [])) → (args : List ℕ) → length args ≡ 3 → P args
of_three P p = of_more P 2 (λ a. of_two (λ args. P (a ∷ args)) (p a))

of_four : (P : List ℕ → Type 0) → ((a b c d : ℕ) → P (a ∷ b ∷ c ∷ d ∷ [])) → (args : List ℕ) → length args ≡ 4 → P args
of_four P p = of_more P 3 (λ a. of_three (λ args. P (a ∷ args)) (p a))

of_five : (P : List ℕ → Type 0) → ((a b c d e : ℕ) → P (a ∷ b ∷ c ∷ d ∷ e ∷ [])) → (args : List ℕ) → length args ≡ 5 → P args
of_five P p = of_more P 4 (λ a. of_four (λ args. P (a ∷ args)) (p a))

of_six : (P : List ℕ → Type 0) → ((a b c d e f : ℕ) → P (a ∷ b ∷ c ∷ d ∷ e ∷ f ∷ [])) → (args : List ℕ) → length args ≡ 6 → P args
of_six P p = of_more P 5 (λ a. of_five (λ args. P (a ∷ args)) (p a))

-- ---- the call that a form makes

-- the line is the call of the form's name with these arguments
pub record MakesCall (form : Form) (args : List ℕ) : Type 0 where
  pub call : Call
  pub said_is : (count : ℕ) → form_said count form (with_zeros 7 args) ≡ Ok (says.Line (lines.Make call))
  pub name_is : call_name call ≡ form_name form
  pub named : is_named_call call ≡ true
  pub args_are : call_args call ≡ args
  pub owner : (place : ℕ) → is_owner_place call place ≡ takes_os form place

-- what holds of each form of the table
abbrev pub HoldsForm : Form → Type 0
HoldsForm (forms.Named number arity) = (args : List ℕ) → length args ≡ arity → MakesCall (forms.Named number arity) args
HoldsForm forms.Ecall = Unit {0}
HoldsForm forms.Run = Unit {0}
HoldsForm forms.Tick = Unit {0}
HoldsForm forms.LoadWord = Unit {0}
HoldsForm forms.StoreWord = Unit {0}
HoldsForm forms.SetPc = Unit {0}
HoldsForm forms.SetReg = Unit {0}
HoldsForm forms.Core = Unit {0}

makes_1 : HoldsForm (forms.Named 1 1)
unfolding call_name form_name call_of
makes_1 = of_one (MakesCall (forms.Named 1 1)) (λ r. record { call = calls.Block r; said_is = λ count. refl; name_is = refl; named = refl; args_are = refl; owner = λ place. refl })

makes_2 : HoldsForm (forms.Named 2 1)
unfolding call_name form_name call_of
makes_2 = of_one (MakesCall (forms.Named 2 1)) (λ r. record { call = calls.Free r; said_is = λ count. refl; name_is = refl; named = refl; args_are = refl; owner = λ place. refl })

makes_3 : HoldsForm (forms.Named 3 2)
unfolding call_name form_name call_of
makes_3 = of_two (MakesCall (forms.Named 3 2)) (λ r to. record { call = calls.Assign r to; said_is = λ count. refl; name_is = refl; named = refl; args_are = refl; owner = λ place. refl })

makes_4 : HoldsForm (forms.Named 4 0)
unfolding call_name form_name call_of
makes_4 = of_none (MakesCall (forms.Named 4 0)) (record { call = calls.Flush; said_is = λ count. refl; name_is = refl; named = refl; args_are = refl; owner = λ place. refl })

makes_5 : HoldsForm (forms.Named 5 1)
unfolding call_name form_name call_of
makes_5 = of_one (MakesCall (forms.Named 5 1)) (λ r. record { call = calls.RegionInfo r; said_is = λ count. refl; name_is = refl; named = refl; args_are = refl; owner = λ place. refl })

makes_6 : HoldsForm (forms.Named 6 3)
unfolding call_name form_name call_of
makes_6 = of_three (MakesCall (forms.Named 6 3)) (λ e base size. record { call = calls.Create e base size; said_is = λ count. refl; name_is = refl; named = refl; args_are = refl; owner = λ place. refl })

makes_7 : HoldsForm (forms.Named 7 4)
unfolding call_name form_name call_of
makes_7 = of_four (MakesCall (forms.Named 7 4)) (λ e va level page. record { call = calls.LoadTable e va level page; said_is = λ count. refl; name_is = refl; named = refl; args_are = refl; owner = λ place. refl })

makes_8 : HoldsForm (forms.Named 8 5)
unfolding call_name form_name call_of
makes_8 = of_five (MakesCall (forms.Named 8 5)) (λ e va page src perms. record { call = calls.LoadPage e va page src perms; said_is = λ count. refl; name_is = refl; named = refl; args_are = refl; owner = λ place. refl })

makes_9 : HoldsForm (forms.Named 9 4)
unfolding call_name form_name call_of
makes_9 = of_four (MakesCall (forms.Named 9 4)) (λ e t entry sp. record { call = calls.LoadThread e t entry sp; said_is = λ count. refl; name_is = refl; named = refl; args_are = refl; owner = λ place. refl })

makes_10 : HoldsForm (forms.Named 10 1)
unfolding call_name form_name call_of
makes_10 = of_one (MakesCall (forms.Named 10 1)) (λ e. record { call = calls.Init e; said_is = λ count. refl; name_is = refl; named = refl; args_are = refl; owner = λ place. refl })

makes_11 : HoldsForm (forms.Named 11 2)
unfolding call_name form_name call_of
makes_11 = of_two (MakesCall (forms.Named 11 2)) (λ e t. record { call = calls.DeleteThread e t; said_is = λ count. refl; name_is = refl; named = refl; args_are = refl; owner = λ place. refl })

makes_12 : HoldsForm (forms.Named 12 1)
unfolding call_name form_name call_of
makes_12 = of_one (MakesCall (forms.Named 12 1)) (λ e. record { call = calls.Delete e; said_is = λ count. refl; name_is = refl; named = refl; args_are = refl; owner = λ place. refl })

makes_13 : HoldsForm (forms.Named 13 2)
unfolding call_name form_name call_of
makes_13 = of_two (MakesCall (forms.Named 13 2)) (λ e t. record { call = calls.Enter e t; said_is = λ count. refl; name_is = refl; named = refl; args_are = refl; owner = λ place. refl })

makes_14 : HoldsForm (forms.Named 14 0)
unfolding call_name form_name call_of
makes_14 = of_none (MakesCall (forms.Named 14 0)) (record { call = calls.Exit; said_is = λ count. refl; name_is = refl; named = refl; args_are = refl; owner = λ place. refl })

makes_16 : HoldsForm (forms.Named 16 0)
unfolding call_name form_name call_of
makes_16 = of_none (MakesCall (forms.Named 16 0)) (record { call = calls.Restore; said_is = λ count. refl; name_is = refl; named = refl; args_are = refl; owner = λ place. refl })

makes_17 : HoldsForm (forms.Named 17 2)
unfolding call_name form_name call_of
makes_17 = of_two (MakesCall (forms.Named 17 2)) (λ m from. record { call = calls.Accept m from; said_is = λ count. refl; name_is = refl; named = refl; args_are = refl; owner = λ place. refl })

makes_18 : HoldsForm (forms.Named 18 6)
unfolding call_name form_name call_of
makes_18 = of_six (MakesCall (forms.Named 18 6)) (λ to m w0 w1 w2 w3. record { call = calls.Send to m w0 w1 w2 w3; said_is = λ count. refl; name_is = refl; named = refl; args_are = refl; owner = λ place. refl })

makes_19 : HoldsForm (forms.Named 19 1)
unfolding call_name form_name call_of
makes_19 = of_one (MakesCall (forms.Named 19 1)) (λ m. record { call = calls.Read m; said_is = λ count. refl; name_is = refl; named = refl; args_are = refl; owner = λ place. refl })

makes_20 : HoldsForm (forms.Named 20 1)
unfolding call_name form_name call_of
makes_20 = of_one (MakesCall (forms.Named 20 1)) (λ e. record { call = calls.EnclaveInfo e; said_is = λ count. refl; name_is = refl; named = refl; args_are = refl; owner = λ place. refl })

makes_21 : HoldsForm (forms.Named 21 1)
unfolding call_name form_name call_of
makes_21 = of_one (MakesCall (forms.Named 21 1)) (λ v. record { call = calls.SetSatp v; said_is = λ count. refl; name_is = refl; named = refl; args_are = refl; owner = λ place. refl })

makes_22 : HoldsForm (forms.Named 22 1)
unfolding call_name form_name call_of
makes_22 = of_one (MakesCall (forms.Named 22 1)) (λ r. record { call = calls.AcceptRegion r; said_is = λ count. refl; name_is = refl; named = refl; args_are = refl; owner = λ place. refl })

makes_23 : HoldsForm (forms.Named 23 4)
unfolding call_name form_name call_of
makes_23 = of_four (MakesCall (forms.Named 23 4)) (λ e va page perms. record { call = calls.Reserve e va page perms; said_is = λ count. refl; name_is = refl; named = refl; args_are = refl; owner = λ place. refl })

all_hold : AllByRecursion HoldsForm all_forms
all_hold = (makes_1, (makes_2, (makes_3, (makes_4, (makes_5, (makes_6, (makes_7, (makes_8, (makes_9, (makes_10, (makes_11, (makes_12, (makes_13, (makes_14, (makes_16, (makes_17, (makes_18, (makes_19, (makes_20, (makes_21, (makes_22, (makes_23, (tt, (tt, (tt, (tt, (tt, (tt, (tt, (tt, tt))))))))))))))))))))))))))))))

-- ---- the form of a word

-- what was found passes the test, and has what all of the list have
find_passes : {X : Type 0} (P : X → Type 0) (test : X → Bool) (xs : List X) (x : X) → AllByRecursion P xs → find test xs ≡ Some x → (test x ≡ true) × P x
find_passes P test [] x all h = absurd cc
find_passes P test (y ∷ ys) x all h =
    elim (cases_Bool (test y)) [
      | inl t ↦ let k : Some y ≡ Some x = rw t at h in let same : y ≡ x = cc in (ap test (sym same) ∙ t, subst P same all.0)
      | inr f ↦ find_passes P test ys x all.1 (rw f at h)
    ]

pub named_is : (word : List ℕ) (form : Form) → form_named word ≡ Some form → word ≡ form_name form
named_is word form h = (bytes_eq-Decides word (form_name form)).0 (find_passes HoldsForm (λ form. bytes_eq word (form_name form)) all_forms form all_hold h).0

pub named_holds : (word : List ℕ) (form : Form) → form_named word ≡ Some form → HoldsForm form
named_holds word form h = (find_passes HoldsForm (λ form. bytes_eq word (form_name form)) all_forms form all_hold h).1

abbrev TakesFew : Form → Type 0
TakesFew form = most form ≤ 7

all_few : AllByRecursion TakesFew all_forms
all_few = (omega arith, (omega arith, (omega arith, (omega arith, (omega arith, (omega arith, (omega arith, (omega arith, (omega arith, (omega arith, (omega arith, (omega arith, (omega arith, (omega arith, (omega arith, (omega arith, (omega arith, (omega arith, (omega arith, (omega arith, (omega arith, (omega arith, (omega arith, (omega arith, (omega arith, (omega arith, (omega arith, (omega arith, (omega arith, (omega arith, tt))))))))))))))))))))))))))))))

few_of : (word : List ℕ) (o : Option Form) → form_named word ≡ o → IfSome o (λ form. most form ≤ 7)
few_of word None h = tt
few_of word (Some form) h = (find_passes TakesFew (λ form. bytes_eq word (form_name form)) all_forms form all_few h).1

pub named_few : (word : List ℕ) → IfSome (form_named word) (λ form. most form ≤ 7)
named_few word = few_of word (form_named word) refl

-- ---- the form of a call

pub record HasForm (call : Call) : Type 0 where
  pub form : Form
  pub named : form_named (call_name call) ≡ Some form
  pub ascii : list_all is_ascii (call_name call) ≡ true
  pub at_least : least form ≡ length (call_args call)
  pub at_most : most form ≡ length (call_args call)
  pub owner : (place : ℕ) → is_owner_place call place ≡ takes_os form place
  pub said_is : (count : ℕ) → form_said count form (with_zeros 7 (call_args call)) ≡ Ok (says.Line (lines.Make call))

pub has_form : (call : Call) → is_named_call call ≡ true → HasForm call
unfolding call_name form_name call_of
has_form (calls.Block r) h = record { form = forms.Named 1 1; named = refl; ascii = refl; at_least = refl; at_most = refl; owner = λ place. refl; said_is = λ count. refl }
has_form (calls.Free r) h = record { form = forms.Named 2 1; named = refl; ascii = refl; at_least = refl; at_most = refl; owner = λ place. refl; said_is = λ count. refl }
has_form (calls.Assign r to) h = record { form = forms.Named 3 2; named = refl; ascii = refl; at_least = refl; at_most = refl; owner = λ place. refl; said_is = λ count. refl }
has_form calls.Flush h = record { form = forms.Named 4 0; named = refl; ascii = refl; at_least = refl; at_most = refl; owner = λ place. refl; said_is = λ count. refl }
has_form (calls.RegionInfo r) h = record { form = forms.Named 5 1; named = refl; ascii = refl; at_least = refl; at_most = refl; owner = λ place. refl; said_is = λ count. refl }
has_form (calls.Create e base size) h = record { form = forms.Named 6 3; named = refl; ascii = refl; at_least = refl; at_most = refl; owner = λ place. refl; said_is = λ count. refl }
has_form (calls.LoadTable e va level page) h = record { form = forms.Named 7 4; named = refl; ascii = refl; at_least = refl; at_most = refl; owner = λ place. refl; said_is = λ count. refl }
has_form (calls.LoadPage e va page src perms) h = record { form = forms.Named 8 5; named = refl; ascii = refl; at_least = refl; at_most = refl; owner = λ place. refl; said_is = λ count. refl }
has_form (calls.LoadThread e t entry sp) h = record { form = forms.Named 9 4; named = refl; ascii = refl; at_least = refl; at_most = refl; owner = λ place. refl; said_is = λ count. refl }
has_form (calls.Init e) h = record { form = forms.Named 10 1; named = refl; ascii = refl; at_least = refl; at_most = refl; owner = λ place. refl; said_is = λ count. refl }
has_form (calls.DeleteThread e t) h = record { form = forms.Named 11 2; named = refl; ascii = refl; at_least = refl; at_most = refl; owner = λ place. refl; said_is = λ count. refl }
has_form (calls.Delete e) h = record { form = forms.Named 12 1; named = refl; ascii = refl; at_least = refl; at_most = refl; owner = λ place. refl; said_is = λ count. refl }
has_form (calls.Enter e t) h = record { form = forms.Named 13 2; named = refl; ascii = refl; at_least = refl; at_most = refl; owner = λ place. refl; said_is = λ count. refl }
has_form calls.Exit h = record { form = forms.Named 14 0; named = refl; ascii = refl; at_least = refl; at_most = refl; owner = λ place. refl; said_is = λ count. refl }
has_form calls.Restore h = record { form = forms.Named 16 0; named = refl; ascii = refl; at_least = refl; at_most = refl; owner = λ place. refl; said_is = λ count. refl }
has_form (calls.Accept m from) h = record { form = forms.Named 17 2; named = refl; ascii = refl; at_least = refl; at_most = refl; owner = λ place. refl; said_is = λ count. refl }
has_form (calls.Send to m w0 w1 w2 w3) h = record { form = forms.Named 18 6; named = refl; ascii = refl; at_least = refl; at_most = refl; owner = λ place. refl; said_is = λ count. refl }
has_form (calls.Read m) h = record { form = forms.Named 19 1; named = refl; ascii = refl; at_least = refl; at_most = refl; owner = λ place. refl; said_is = λ count. refl }
has_form (calls.EnclaveInfo e) h = record { form = forms.Named 20 1; named = refl; ascii = refl; at_least = refl; at_most = refl; owner = λ place. refl; said_is = λ count. refl }
has_form (calls.SetSatp v) h = record { form = forms.Named 21 1; named = refl; ascii = refl; at_least = refl; at_most = refl; owner = λ place. refl; said_is = λ count. refl }
has_form (calls.AcceptRegion r) h = record { form = forms.Named 22 1; named = refl; ascii = refl; at_least = refl; at_most = refl; owner = λ place. refl; said_is = λ count. refl }
has_form (calls.Reserve e va page perms) h = record { form = forms.Named 23 4; named = refl; ascii = refl; at_least = refl; at_most = refl; owner = λ place. refl; said_is = λ count. refl }
has_form call h = absurd cc

-- ---- ecall

zeros_behind : (n : ℕ) (args : List ℕ) → with_zeros 7 (n ∷ args) ≡ n ∷ with_zeros 6 args
zeros_behind n args = let e : 7 - length (n ∷ args) ≡ 6 - length args = omega arith in ap (λ (k : ℕ). n ∷ (args ++ replicate k 0)) e

made_by : (count n : ℕ) (args : List ℕ) → form_said count forms.Ecall (n ∷ args) ≡ Ok (says.Line (lines.Make (call_of_registers n args)))
made_by count n args = refl

pub ecall_said : (count n : ℕ) (args : List ℕ) → form_said count forms.Ecall (with_zeros 7 (n ∷ args)) ≡ Ok (says.Line (lines.Make (call_of_registers n (with_zeros 6 args))))
ecall_said count n args = ap (form_said count forms.Ecall) (zeros_behind n args) ∙ made_by count n (with_zeros 6 args)

-- ---- the words that are no names of calls

-- the word begins the lines of this form
pub record IsWordOf (word : List ℕ) (form : Form) : Type 0 where
  pub named : form_named word ≡ Some form
  pub ascii : list_all is_ascii word ≡ true

pub ecall_word : IsWordOf (codes "ecall") forms.Ecall
unfolding call_name form_name call_of
ecall_word = record { named = refl; ascii = refl }

pub run_word : IsWordOf (codes "run") forms.Run
unfolding call_name form_name call_of
run_word = record { named = refl; ascii = refl }

pub tick_word : IsWordOf (codes "tick") forms.Tick
unfolding call_name form_name call_of
tick_word = record { named = refl; ascii = refl }

pub load_word : IsWordOf (codes "load") forms.LoadWord
unfolding call_name form_name call_of
load_word = record { named = refl; ascii = refl }

pub store_word : IsWordOf (codes "store") forms.StoreWord
unfolding call_name form_name call_of
store_word = record { named = refl; ascii = refl }

pub pc_word : IsWordOf (codes "pc") forms.SetPc
unfolding call_name form_name call_of
pc_word = record { named = refl; ascii = refl }

pub reg_word : IsWordOf (codes "reg") forms.SetReg
unfolding call_name form_name call_of
reg_word = record { named = refl; ascii = refl }

pub core_word : IsWordOf (codes "core") forms.Core
unfolding call_name form_name call_of
core_word = record { named = refl; ascii = refl }

-- ---- pc, reg and core

-- a line that says something has no fault
pub said_same : (x y : Said) → ◌≡◌ {A = Result Said LineKind} (Ok x) (Ok y) → x ≡ y
said_same x y e = cc

pub no_said : (kind : LineKind) (said : Said) (P : Type 0) → ◌≡◌ {A = Result Said LineKind} (Err kind) (Ok said) → P
no_said kind said P e = absurd cc

pub pc_is : (pc : ℕ) → pc % 4 ≡ 0 → pc_said pc ≡ Ok (says.Line (lines.SetPc pc))
pc_is pc h = rw h refl

pub pc_found : (pc : ℕ) (said : Said) → pc_said pc ≡ Ok said → (pc % 4 ≡ 0) × (says.Line (lines.SetPc pc) ≡ said)
pc_found pc said h =
    elim (cases_Bool (eqb (pc % 4) 0)) [
      | inl t ↦ (eqb-true (pc % 4) 0 t, said_same (says.Line (lines.SetPc pc)) said (rw t at h))
      | inr f ↦ no_said kinds.BadNumber said ((pc % 4 ≡ 0) × (says.Line (lines.SetPc pc) ≡ said)) (rw f at h)
    ]

pub reg_is : (x value : ℕ) → 1 ≤ x → x ≤ 31 → reg_said x value ≡ Ok (says.Line (lines.SetReg x value))
reg_is x value from to = grind (arith, nat_tests)

pub reg_found : (x value : ℕ) (said : Said) → reg_said x value ≡ Ok said → (1 ≤ x) × (x ≤ 31) × (says.Line (lines.SetReg x value) ≡ said)
reg_found x value said h =
    elim (cases_Bool (leb 1 x && leb x 31)) [
      | inl t ↦
          let p = and_parts (leb 1 x) (leb x 31) t in
          (grind (arith, nat_tests), grind (arith, nat_tests), said_same (says.Line (lines.SetReg x value)) said (rw t at h))
      | inr f ↦ no_said kinds.BadNumber said ((1 ≤ x) × (x ≤ 31) × (says.Line (lines.SetReg x value) ≡ said)) (rw f at h)
    ]

pub core_is : (count core : ℕ) → core < count → core_said count core ≡ Ok (says.Core core)
core_is count core h = rw (lt-ltb core count h) refl

pub core_found : (count core : ℕ) (said : Said) → core_said count core ≡ Ok said → (core < count) × (says.Core core ≡ said)
core_found count core said h =
    elim (cases_Bool (ltb core count)) [
      | inl t ↦ (ltb-true core count t, said_same (says.Core core) said (rw t at h))
      | inr f ↦ no_said kinds.BadCore said ((core < count) × (says.Core core ≡ said)) (rw f at h)
    ]
