-- Arguments, read one after the other.
use Rattle.std.proofs.Common.{◌≡◌, ℕ, suc, ◌+◌, ◌-◌, ◌<◌, ◌≤◌, List, [], ◌∷◌, ◌++◌, length, replicate, take, drop, get_or, set, Option, Some, None, refl, sym, ap, ◌∙◌, append_assoc, arith}
use Rattle.std.specs.Option.{option_and_then, option_map}
use Rattle.std.proofs.lemmas.List.{append-nil, take_more_set, at_drop_more, drop-set-lt, take-append-drop, length-take}
use Rattle.script_read.specs.declared.form.Form.{Form}
use Rattle.script_read.specs.Reading.{argument_of, arguments_of, with_zeros}

-- the numbers that were read, and behind them those that are still read
abbrev pub behind : List ℕ → Option (List ℕ) → Option (List ℕ)
behind front read = option_map (λ ns. front ++ ns) read

unfolded : (form : Form) (place : ℕ) (word : List ℕ) (words : List (List ℕ)) → arguments_of form place (word ∷ words) ≡ option_and_then (λ n. option_map (λ ns. n ∷ ns) (arguments_of form (place + 1) words)) (argument_of form place word)
unfolding arguments_of
unfolded form place word words = refl

one_more : (front : List ℕ) (n : ℕ) (read : Option (List ℕ)) → behind front (option_map (λ ns. n ∷ ns) read) ≡ behind (front ++ n ∷ []) read
one_more front n None = refl
one_more front n (Some ns) = ap (λ (x : List ℕ). Some x) (sym (append_assoc front (n ∷ []) ns))

-- the next argument
argument_at : (form : Form) (place : ℕ) (front : List ℕ) (word : List ℕ) (left words : List (List ℕ)) (next : Option ℕ) → left ≡ word ∷ words → argument_of form place word ≡ next
    → behind front (arguments_of form place left) ≡ behind front (option_and_then (λ n. option_map (λ ns. n ∷ ns) (arguments_of form (place + 1) words)) next)
argument_at form place front word left words next l h =
    ap (λ (ws : List (List ℕ)). behind front (arguments_of form place ws)) l ∙ ap (behind front) (unfolded form place word words)
    ∙ ap (λ (o : Option ℕ). behind front (option_and_then (λ n. option_map (λ ns. n ∷ ns) (arguments_of form (place + 1) words)) o)) h

pub argument_read : (form : Form) (place n : ℕ) (args word : List ℕ) (left words : List (List ℕ)) (total : Option (List ℕ)) → place < length args → left ≡ word ∷ words → argument_of form place word ≡ Some n
    → behind (take place args) (arguments_of form place left) ≡ total → behind (take (place + 1) (set args place n)) (arguments_of form (place + 1) words) ≡ total
argument_read form place n args word left words total lt l h so_far =
    ap (λ (front : List ℕ). behind front (arguments_of form (place + 1) words)) (take_more_set args place n lt)
    ∙ sym (one_more (take place args) n (arguments_of form (place + 1) words)) ∙ sym (argument_at form place (take place args) word left words (Some n) l h) ∙ so_far

pub argument_fails : (form : Form) (place : ℕ) (front word : List ℕ) (left words : List (List ℕ)) (total : Option (List ℕ)) → left ≡ word ∷ words → argument_of form place word ≡ None
    → behind front (arguments_of form place left) ≡ total → None ≡ total
argument_fails form place front word left words total l h so_far = sym (argument_at form place front word left words None l h) ∙ so_far

none_left : (form : Form) (place : ℕ) (front : List ℕ) → behind front (arguments_of form place []) ≡ Some front
unfolding arguments_of
none_left form place front = ap (λ (x : List ℕ). Some x) (append-nil front)

-- one argument fewer is missing
pub zeros_fewer : (place n : ℕ) (args : List ℕ) → place < length args → length args ≡ 7 → drop place args ≡ replicate (7 - place) 0 → drop (place + 1) (set args place n) ≡ replicate (7 - (place + 1)) 0
zeros_fewer place n args lt size zeros =
    let up : 7 - place ≡ suc (7 - (place + 1)) = omega arith in
    let one : get_or args place 0 ∷ drop (place + 1) args ≡ 0 ∷ replicate (7 - (place + 1)) 0 = sym (at_drop_more (λ (x : List ℕ). x) args place 0 lt) ∙ zeros ∙ ap (λ (k : ℕ). replicate k 0) up in
    let fewer : drop (place + 1) args ≡ replicate (7 - (place + 1)) 0 = cc in
    drop-set-lt (place + 1) args place n (omega arith) ∙ fewer

filled : (place : ℕ) (args : List ℕ) → place ≤ 7 → length args ≡ 7 → drop place args ≡ replicate (7 - place) 0 → args ≡ with_zeros 7 (take place args)
filled place args le size zeros =
    let count : 7 - place ≡ 7 - length (take place args) = omega (arith, length-take place args) in
    sym (take-append-drop place args) ∙ ap (λ (x : List ℕ). take place args ++ x) (zeros ∙ ap (λ (k : ℕ). replicate k 0) count)

pub all_arguments_read : (form : Form) (place count : ℕ) (args : List ℕ) (left : List (List ℕ)) (total : Option (List ℕ)) → left ≡ [] → place + length left ≡ count → count ≤ 7 → length args ≡ 7 → drop place args ≡ replicate (7 - place) 0
    → behind (take place args) (arguments_of form place left) ≡ total → Some args ≡ option_map (with_zeros 7) total
all_arguments_read form place count args left total l c le size zeros so_far =
    let read : Some (take place args) ≡ total = sym (none_left form place (take place args)) ∙ ap (λ (ws : List (List ℕ)). behind (take place args) (arguments_of form place ws)) (sym l) ∙ so_far in
    ap (λ (x : List ℕ). Some x) (filled place args (omega arith) size zeros) ∙ ap (λ (o : Option (List ℕ)). option_map (with_zeros 7) o) read
