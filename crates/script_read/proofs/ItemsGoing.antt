-- Items of a schedule, read one after the other.
use Rattle.std.proofs.Common.{◌≡◌, ℕ, ◌+◌, ◌-◌, ◌<◌, ◌≤◌, eqb, true, false, List, [], ◌∷◌, ◌++◌, length, Option, Some, None, Result, Ok, Err, refl, sym, ap, ◌∙◌, append_assoc, arith}
use Rattle.std.specs.List.{before_first}
use Rattle.std.specs.Option.{ok_or}
use Rattle.std.proofs.lemmas.Bool.{eqb-true}
use Rattle.std.proofs.lemmas.List.{append-nil, nil_from_length, length-append}
use Rattle.mon_types.specs.declared.script.StepItem.{StepItem}
use Rattle.text_in.specs.Bytes.{is_gap, is_no_gap, begins}
use Rattle.text_in.specs.Cuts.{from_first}
use Rattle.text_in.proofs.Cuts.{cut_joins, cut_found}
use Rattle.reader_answers.specs.Steps.{◌>>=◌}
use Rattle.script_read.specs.declared.fault.ScheduleFault.{ScheduleFault}
use Rattle.script_read.specs.Schedule.{item_of, items_of}
use Rattle.script_read.proofs.ScheduleLaws.{fault_at, item_then, only_gaps, skipped, word_cut, cut_read}

-- these items, and then those that were read
abbrev behind : List StepItem → Result (List StepItem) ScheduleFault → Result (List StepItem) ScheduleFault
behind before read = read >>= λ items. Ok (before ++ items)

-- these items were read of the bytes, and the rest of the bytes, which no gap begins, is still to be read
pub record Going (cores : ℕ) (bytes rest : List ℕ) (items : List StepItem) : Type 0 where
  pub read : behind items (items_of cores (length bytes - length rest) rest) ≡ items_of cores 0 bytes
  pub within : length rest ≤ length bytes
  pub begins_it : begins is_no_gap rest ≡ true

behind_nothing : (read : Result (List StepItem) ScheduleFault) → behind [] read ≡ read
behind_nothing (Ok items) = refl
behind_nothing (Err fault) = refl

behind_one : (before : List StepItem) (item : StepItem) (read : Result (List StepItem) ScheduleFault) → behind (before ++ item ∷ []) read ≡ behind before (read >>= λ items. Ok (item ∷ items))
behind_one before item (Ok items) = ap (λ (x : List StepItem). Ok x) (append_assoc before (item ∷ []) items)
behind_one before item (Err fault) = refl

parts : (text : List ℕ) → length text ≡ length (before_first is_no_gap text) + length (from_first is_no_gap text)
parts text = ap length (cut_joins is_no_gap text) ∙ length-append (before_first is_no_gap text) (from_first is_no_gap text)

pub going_from : (cores : ℕ) (bytes rest : List ℕ) → rest ≡ from_first is_no_gap bytes → Going cores bytes rest []
going_from cores bytes rest r =
    let size : length rest ≡ length (from_first is_no_gap bytes) = ap length r in
    let place : length bytes - length rest ≡ 0 + length (before_first is_no_gap bytes) = omega (arith, parts bytes, size) in
    record {
      read = behind_nothing (items_of cores (length bytes - length rest) rest) ∙ ap (λ (n : ℕ). items_of cores n rest) place ∙ ap (items_of cores (0 + length (before_first is_no_gap bytes))) r ∙ sym (skipped cores 0 bytes);
      within = omega (arith, parts bytes, size);
      begins_it = rw r (cut_found is_no_gap bytes).1;
    }

-- the word that comes next, what stands behind it, and what is left behind the gaps there
pub record Next (rest word more after : List ℕ) : Type 0 where
  pub some : 0 < length rest
  pub word_is : word ≡ before_first is_gap rest
  pub more_is : more ≡ from_first is_gap rest
  pub after_is : after ≡ from_first is_no_gap more

some_bytes : (rest : List ℕ) → eqb (length rest) 0 ≡ false → 0 < length rest
some_bytes rest h = grind arith

pub next_is : (rest word more after : List ℕ) → eqb (length rest) 0 ≡ false → word ≡ before_first is_gap rest → more ≡ from_first is_gap rest → after ≡ from_first is_no_gap more → Next rest word more after
next_is rest word more after some w m a = record { some = some_bytes rest some; word_is = w; more_is = m; after_is = a }

-- what is read of the rest, by its first word
rest_read : (cores : ℕ) (bytes rest word more after : List ℕ) (items : List StepItem) → Going cores bytes rest items → Next rest word more after
    → behind items (item_then cores (length bytes - length rest + length word) more (ok_or (item_of cores word) (fault_at (length bytes - length rest)))) ≡ items_of cores 0 bytes
rest_read cores bytes rest word more after items g n =
    let c = word_cut rest word more n.some g.begins_it n.word_is n.more_is in
    ap (behind items) (sym (cut_read cores (length bytes - length rest) rest word more c)) ∙ g.read

pub going_shorter : (cores : ℕ) (bytes rest word more after : List ℕ) (items : List StepItem) → Going cores bytes rest items → Next rest word more after → length after < length rest
going_shorter cores bytes rest word more after items g n =
    let c = word_cut rest word more n.some g.begins_it n.word_is n.more_is in
    let whole : length rest ≡ length word + length more = ap length c.joined ∙ length-append word more in
    let size : length after ≡ length (from_first is_no_gap more) = ap length n.after_is in
    omega (arith, c.piece.some, parts more)

pub going_on : (cores : ℕ) (bytes rest word more after : List ℕ) (items : List StepItem) (item : StepItem) → Going cores bytes rest items → Next rest word more after → item_of cores word ≡ Some item → Going cores bytes after (items ++ item ∷ [])
going_on cores bytes rest word more after items item g n i =
    let c = word_cut rest word more n.some g.begins_it n.word_is n.more_is in
    let place : ℕ = length bytes - length rest + length word in
    let whole : length rest ≡ length word + length more = ap length c.joined ∙ length-append word more in
    let size : length after ≡ length (from_first is_no_gap more) = ap length n.after_is in
    let further : length bytes - length after ≡ place + length (before_first is_no_gap more) = omega (arith, parts more, whole, size, g.within) in
    let left : items_of cores (length bytes - length after) after ≡ items_of cores place more =
    ap (λ (k : ℕ). items_of cores k after) further ∙ ap (items_of cores (place + length (before_first is_no_gap more))) n.after_is ∙ sym (skipped cores place more) in
    record {
      read = ap (behind (items ++ item ∷ [])) left ∙ behind_one items item (items_of cores place more) ∙ rw i at (rest_read cores bytes rest word more after items g n);
      within = omega (arith, parts more, whole, size, g.within);
      begins_it = rw n.after_is (cut_found is_no_gap more).1;
    }

pub going_stops : (cores : ℕ) (bytes rest word more after : List ℕ) (items : List StepItem) → Going cores bytes rest items → Next rest word more after → item_of cores word ≡ None → items_of cores 0 bytes ≡ Err (fault_at (length bytes - length rest))
going_stops cores bytes rest word more after items g n i = sym (rw i at (rest_read cores bytes rest word more after items g n))

pub going_done : (cores : ℕ) (bytes rest : List ℕ) (items : List StepItem) → Going cores bytes rest items → eqb (length rest) 0 ≡ true → items_of cores 0 bytes ≡ Ok items
going_done cores bytes rest items g h =
    let empty : rest ≡ [] = nil_from_length rest (eqb-true _ _ h) in
    let none : items_of cores (length bytes - length rest) rest ≡ Ok [] = ap (items_of cores (length bytes - length rest)) empty ∙ only_gaps cores (length bytes - length rest) [] refl in
    sym g.read ∙ ap (behind items) none ∙ ap (λ (x : List StepItem). Ok x) (append-nil items)

-- ---- the same by what the code has found

item_fails : (read : Option StepItem) (offset : ℕ) (fault : ScheduleFault) → ◌≡◌ {A = Result StepItem ScheduleFault} (Err fault) (ok_or read (fault_at offset)) → (read ≡ None) × (fault ≡ fault_at offset)
item_fails None offset fault h = (refl, cc)
item_fails (Some item) offset fault h = absurd cc

item_there : (read : Option StepItem) (offset : ℕ) (item : StepItem) → ◌≡◌ {A = Result StepItem ScheduleFault} (Ok item) (ok_or read (fault_at offset)) → read ≡ Some item
item_there None offset item h = absurd cc
item_there (Some other) offset item h = let same : item ≡ other = cc in ap (λ (i : StepItem). Some i) (sym same)

-- the next word is no item
pub word_fails : (cores : ℕ) (bytes rest word more : List ℕ) (items : List StepItem) (read : Option StepItem) (fault : ScheduleFault) → Going cores bytes rest items → eqb (length rest) 0 ≡ false → word ≡ before_first is_gap rest → more ≡ from_first is_gap rest
    → read ≡ item_of cores word → ◌≡◌ {A = Result StepItem ScheduleFault} (Err fault) (ok_or read (fault_at (length bytes - length rest))) → items_of cores 0 bytes ≡ Err fault
word_fails cores bytes rest word more items read fault g some w m r f =
    let why = item_fails read (length bytes - length rest) fault f in
    going_stops cores bytes rest word more (from_first is_no_gap more) items g (next_is rest word more (from_first is_no_gap more) some w m refl) (sym r ∙ why.0)
    ∙ ap (λ (x : ScheduleFault). Err x) (sym why.1)

-- the next word is an item, which was taken
pub word_taken : (cores : ℕ) (bytes rest word more after : List ℕ) (items taken : List StepItem) (read : Option StepItem) (item : StepItem) → Going cores bytes rest items → eqb (length rest) 0 ≡ false → word ≡ before_first is_gap rest → more ≡ from_first is_gap rest
    → after ≡ from_first is_no_gap more → read ≡ item_of cores word → ◌≡◌ {A = Result StepItem ScheduleFault} (Ok item) (ok_or read (fault_at (length bytes - length rest))) → taken ≡ items ++ item ∷ [] → Going cores bytes after taken
word_taken cores bytes rest word more after items taken read item g some w m a r f t =
    rw t (going_on cores bytes rest word more after items item g (next_is rest word more after some w m a) (sym r ∙ item_there read (length bytes - length rest) item f))
