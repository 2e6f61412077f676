-- The early writes of a call: what stands in its rows then, as what was found and as words of all rows in one.
use Rattle.std.proofs.Common.{◌≡◌, inl, inr, ◌∙◌, ◌+◌, ◌-◌, ◌<◌, ℕ, true, false, cond, Option, Some, None, List, [], ◌∷◌, ◌++◌, length, drop, map, set, ap, sym, refl, arith}
use Rattle.std.specs.List.{AllByRecursion}
use Rattle.std.proofs.lemmas.Bool.{eq-eqb, ne_eqb, cases_Bool}
use Rattle.std.proofs.lemmas.List.{set-append_right}
use Rattle.mon_types.specs.Shape.{Shape}
use Rattle.mon_types.specs.Objects.{width, object_number}
use Rattle.mon_types.specs.declared.region.Region.{Region}
use Rattle.mon_types.specs.declared.region.Region.TheVariants as regions
use Rattle.mon_types.specs.declared.call.Call.{Call}
use Rattle.mon_types.specs.declared.call.Call.TheVariants as calls
use Rattle.mon_types.specs.declared.thread.Mode.TheVariants as modes
use Rattle.mon_types.specs.declared.object.ObjectId.{ObjectId}
use Rattle.mon_types.specs.declared.object.ObjectId.TheVariants as objects
use Rattle.mon_model.specs.State.{State, region_at, mode_of}
use Rattle.mon_model.specs.Step.{regions_of}
use Rattle.mon_model.specs.Tries.{held_tries, own_enclave}
use Rattle.lock_plan.specs.Records.{records_of}
use Rattle.lock_plan.proofs.Order.{Rises}
use Rattle.mon_records.specs.Rows.{Found, same_object, words_of}
use Rattle.mon_records.specs.EarlyWords.{withdrawn_word, withdrawn_words, early_words}
use Rattle.mon_records.specs.Members.{In}
use Rattle.mon_records.proofs.RebuiltStates.{same_object-true, same_object-refl}
use Rattle.protocol.specs.declared.action.Action.TheVariants as actions
use Rattle.protocol.specs.CallTree.{Tree, then_, early_writes}
use Rattle.call_machine.specs.Rest.{row_start, early_own, withdrawn_own, early_write, early_rest}
use Rattle.call_machine.proofs.LateWrites.{rows_in}

-- ---- one word in a row

-- objects that rise from above this one are others
pub apart : (o x : ObjectId) → object_number o < object_number x → same_object o x ≡ false
unfolding same_object
apart (objects.Enclave a) (objects.Enclave b) h = ne_eqb a b (λ e. absurd (omega (arith, h, e)))
apart (objects.Thread a) (objects.Thread b) h = ne_eqb a b (λ e. absurd (omega (arith, h, e)))
apart (objects.Region a) (objects.Region b) h = ne_eqb a b (λ e. absurd (omega (arith, h, e)))
apart (objects.Cell a) (objects.Cell b) h = ne_eqb a b (λ e. absurd (omega (arith, h, e)))
apart _ _ h = refl

pub symmetric : (o x : ObjectId) → same_object o x ≡ false → same_object x o ≡ false
unfolding same_object
symmetric (objects.Enclave a) (objects.Enclave b) h = ne_eqb b a (λ e. cc (h, eq-eqb a b (sym e)))
symmetric (objects.Thread a) (objects.Thread b) h = ne_eqb b a (λ e. cc (h, eq-eqb a b (sym e)))
symmetric (objects.Region a) (objects.Region b) h = ne_eqb b a (λ e. cc (h, eq-eqb a b (sym e)))
symmetric (objects.Cell a) (objects.Cell b) h = ne_eqb b a (λ e. cc (h, eq-eqb a b (sym e)))
symmetric _ _ h = refl

-- the words that stand after a write of a region's own-word
abbrev pub patched : Found → ℕ → ℕ → Found
patched stands r word = (objects.Region r, word ∷ drop 1 (words_of stands (objects.Region r))) ∷ stands

module _ (stands : Found) (r word : ℕ) where
  here : words_of (patched stands r word) (objects.Region r) ≡ word ∷ drop 1 (words_of stands (objects.Region r))
  unfolding words_of
  here = ap (λ b. cond b (word ∷ drop 1 (words_of stands (objects.Region r))) (words_of stands (objects.Region r))) (same_object-refl (objects.Region r))

  there : (x : ObjectId) → same_object (objects.Region r) x ≡ false → words_of (patched stands r word) x ≡ words_of stands x
  unfolding words_of
  there x e = ap (λ b. cond b (word ∷ drop 1 (words_of stands (objects.Region r))) (words_of stands x)) e

  above : (m : Shape) (lo hi : ℕ) (xs : List ObjectId) → object_number (objects.Region r) < lo → Rises m lo hi xs → rows_in (patched stands r word) xs ≡ rows_in stands xs
  above m lo hi [] l h = refl
  above m lo hi (x ∷ xs) l h =
      ap (λ ws. ws ++ rows_in (patched stands r word) xs) (there x (apart (objects.Region r) x (omega (arith, l, h.1))))
      ∙ ap (λ ws. words_of stands x ++ ws) (above m (object_number x + 1) hi xs (omega (arith, l, h.1)) h.2)

  first_set : (ws rest : List ℕ) → length ws ≡ 2 → (word ∷ drop 1 ws) ++ rest ≡ set (ws ++ rest) 0 word
  first_set [] rest e = absurd (omega arith)
  first_set (w ∷ ws) rest e = refl

  -- it is one word of all rows
  rows_patched : (m : Shape) (lo hi : ℕ) (os : List ObjectId) → Rises m lo hi os → In (objects.Region r) os → ((o : ObjectId) → In o os → length (words_of stands o) ≡ width o)
      → rows_in (patched stands r word) os ≡ set (rows_in stands os) (row_start os (objects.Region r)) word
  unfolding row_start width
  rows_patched m lo hi [] h i long = absurd i
  rows_patched m lo hi (x ∷ xs) h i long = elim (cases_Bool (same_object x (objects.Region r))) [
    | inl e ↦
        let is : x ≡ objects.Region r = same_object-true x (objects.Region r) e in
        let below : object_number (objects.Region r) < object_number x + 1 = omega (arith, ap object_number is) in
        ap (λ ws. ws ++ rows_in (patched stands r word) xs) (ap (words_of (patched stands r word)) is ∙ here)
        ∙ ap (λ ws. (word ∷ drop 1 (words_of stands (objects.Region r))) ++ ws) (above m (object_number x + 1) hi xs below h.2)
        ∙ first_set (words_of stands (objects.Region r)) (rows_in stands xs) (ap (λ o. length (words_of stands o)) (sym is) ∙ long x (inl refl) ∙ ap width is)
        ∙ ap (λ o. set (words_of stands o ++ rows_in stands xs) 0 word) (sym is)
        ∙ ap (λ b. set (words_of stands x ++ rows_in stands xs) (cond b 0 (width x + row_start xs (objects.Region r))) word) (sym e)
    | inr e ↦
        let behind : In (objects.Region r) xs = elim i [ inl f ↦ absurd (clash (sym e ∙ ap (λ o. same_object x o) f ∙ same_object-refl x)) | inr g ↦ g ] in
        let many : length (words_of stands x) ≡ width x = long x (inl refl) in
        ap (λ ws. ws ++ rows_in (patched stands r word) xs) (there x (symmetric x (objects.Region r) e))
        ∙ ap (λ ws. words_of stands x ++ ws) (rows_patched m (object_number x + 1) hi xs h.2 behind (λ o j. long o (inr j)))
        ∙ ap (λ n. words_of stands x ++ set (rows_in stands xs) n word) {x = row_start xs (objects.Region r)} {y = width x + row_start xs (objects.Region r) - width x} (omega arith)
        ∙ sym (set-append_right (words_of stands x) (rows_in stands xs) (width x) (width x + row_start xs (objects.Region r)) word many (omega arith))
        ∙ ap (λ b. set (words_of stands x ++ rows_in stands xs) (cond b 0 (width x + row_start xs (objects.Region r))) word) (sym e)
  ]
    where
      clash : false ≡ true → ⊥
      clash e = cc

  long_patched : (os : List ObjectId) → ((o : ObjectId) → In o os → length (words_of stands o) ≡ width o) → (o : ObjectId) → In o os → length (words_of (patched stands r word) o) ≡ width o
  unfolding width
  long_patched os long o i = elim (cases_Bool (same_object (objects.Region r) o)) [
    | inl e ↦
        let is : objects.Region r ≡ o = same_object-true (objects.Region r) o e in
        let two : length (words_of stands (objects.Region r)) ≡ 2 = ap (λ o. length (words_of stands o)) is ∙ long o i ∙ ap width (sym is) in
        ap (λ o. length (words_of (patched stands r word) o)) (sym is) ∙ ap (λ l. length l) here ∙ second (words_of stands (objects.Region r)) two ∙ ap width is
    | inr e ↦ ap (λ l. length l) (there o e) ∙ long o i
  ]
    where
      second : (ws : List ℕ) → length ws ≡ 2 → length (word ∷ drop 1 ws) ≡ 2
      second [] e = absurd (omega arith)
      second (w ∷ ws) e = omega arith

-- ---- all of them

-- an own-word, if there is one, with its region
abbrev pub own_of : Option ℕ → ℕ → List (ℕ × ℕ)
own_of None r = []
own_of (Some word) r = (r, word) ∷ []

-- the early own-words of these regions
abbrev pub early_of : Call → List (ℕ × Region) → List (ℕ × ℕ)
early_of call [] = []
early_of call (p ∷ ps) = own_of (early_own call p.1) p.0 ++ early_of call ps

-- what was found is in the words of all rows, and each row is as long as it is to be
pub record IsSame (os : List ObjectId) (stands : Found) (stood : List ℕ) : Type 0 where
  pub rows : rows_in stands os ≡ stood
  pub long : (o : ObjectId) → In o os → length (words_of stands o) ≡ width o

-- one of them
early_one : (call : Call) (os : List ObjectId) (ps : List (ℕ × Region)) (stands : Found) (stood : List ℕ) (next : Found → Tree) (rest : List ℕ → Tree) (r : ℕ) (o : Option ℕ)
    → early_writes (early_of call ps) stands next ≡ early_rest call os ps stood rest
    → ((word : ℕ) → early_writes (early_of call ps) (patched stands r word) next ≡ early_rest call os ps (set stood (row_start os (objects.Region r)) word) rest)
    → early_writes (own_of o r ++ early_of call ps) stands next ≡ early_write o os r stood (λ now. early_rest call os ps now rest)
unfolding early_writes early_write
early_one call os ps stands stood next rest r None none some = none
early_one call os ps stands stood next rest r (Some word) none some = ap (then_ (actions.Write (objects.Region r) 0 word)) (some word)

-- early writes end alike where they begin alike
pub early_same : (m : Shape) (hi : ℕ) (call : Call) (os : List ObjectId) (items : List (ℕ × Region)) (stands : Found) (stood : List ℕ) (next : Found → Tree) (rest : List ℕ → Tree)
    → Rises m 0 hi os → AllByRecursion (λ p. In (objects.Region p.0) os) items → IsSame os stands stood
    → ((f : Found) (l : List ℕ) → IsSame os f l → next f ≡ rest l)
    → early_writes (early_of call items) stands next ≡ early_rest call os items stood rest
unfolding early_writes early_rest early_write
early_same m hi call os [] stands stood next rest rises are same ends = ends stands stood same
early_same m hi call os (p ∷ ps) stands stood next rest rises are same ends =
    early_one call os ps stands stood next rest p.0 (early_own call p.1)
    (early_same m hi call os ps stands stood next rest rises are.1 same ends)
    (λ word. early_same m hi call os ps (patched stands p.0 word) (set stood (row_start os (objects.Region p.0)) word) next rest rises are.1
    (record {
      rows = rows_patched stands p.0 word m 0 hi os rises are.0 same.long ∙ ap (λ l. set l (row_start os (objects.Region p.0)) word) same.rows;
      long = long_patched stands p.0 word os same.long;
    })
    ends)

-- ---- the regions that are held

none_early : (call : Call) (items : List (ℕ × Region)) → ((x : Region) → early_own call x ≡ None) → early_of call items ≡ []
none_early call [] h = refl
none_early call (p ∷ ps) h = ap (λ o. own_of o p.0 ++ early_of call ps) (h p.1) ∙ none_early call ps h

own_same : (r : ℕ) (x : Region) → own_of (withdrawn_own x) r ≡ withdrawn_word r x
own_same r regions.Free = refl
own_same r (regions.Owned owner since) = refl
own_same r (regions.Blocked owner since at) = refl
own_same r (regions.Offered to at) = refl

delete_same : (s : State) (e : ℕ) (rs : List ℕ) → early_of (calls.Delete e) (records_of s (map (λ r. objects.Region r) rs)).regions.items ≡ withdrawn_words s rs
unfolding early_own
delete_same s e [] = refl
delete_same s e (r ∷ rs) = ap (λ l. l ++ early_of (calls.Delete e) (records_of s (map (λ r. objects.Region r) rs)).regions.items) (own_same r (region_at s r)) ∙ ap (λ l. withdrawn_word r (region_at s r) ++ l) (delete_same s e rs)

pub early_held : (s : State) (core : ℕ) (call : Call) → early_of call (records_of s (held_tries s core call)).regions.items ≡ early_words s call
unfolding early_own early_words
early_held s core (calls.Block r) = block_same (mode_of s core)
  where
    block_same : (mode : _) → early_of (calls.Block r) (records_of s (own_enclave mode ++ objects.Region r ∷ [])).regions.items ≡ early_words s (calls.Block r)
    block_same modes.Os = refl
    block_same (modes.Inside e t) = refl
early_held s core (calls.Delete e) = delete_same s e (regions_of s e)
early_held s core call = none_early call (records_of s (held_tries s core call)).regions.items (λ x. refl)

more_there : (o : ObjectId) (os : List ObjectId) (items : List (ℕ × Region)) → AllByRecursion (λ p. In (objects.Region p.0) os) items → AllByRecursion (λ p. In (objects.Region p.0) (o ∷ os)) items
more_there o os [] h = tt
more_there o os (p ∷ ps) h = (inr h.0, more_there o os ps h.1)

-- the regions of records are those of their objects
pub regions_there : (s : State) (os : List ObjectId) → AllByRecursion (λ p. In (objects.Region p.0) os) (records_of s os).regions.items
regions_there s [] = tt
regions_there s (objects.Enclave e ∷ os) = more_there (objects.Enclave e) os (records_of s os).regions.items (regions_there s os)
regions_there s (objects.Thread e ∷ os) = more_there (objects.Thread e) os (records_of s os).regions.items (regions_there s os)
regions_there s (objects.Region e ∷ os) = (inl refl, more_there (objects.Region e) os (records_of s os).regions.items (regions_there s os))
regions_there s (objects.Cell e ∷ os) = more_there (objects.Cell e) os (records_of s os).regions.items (regions_there s os)
