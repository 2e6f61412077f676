-- The Draw of a call that holds all its objects and what follows, once for all calls: zeros of a freed region, the late
-- writes and the Unlocks.
use Rattle.std.proofs.Common.{◌≡◌, ◌⊎◌, inl, inr, ◌<◌, ◌%◌, ◌∙◌, ℕ, Bool, true, false, cond, Option, Some, None, List, [], ap, sym, refl, subst, get_or, arith}
use Rattle.std.specs.Prelude.{is_some}
use Rattle.std.specs.List.{Contains}
use Rattle.std.proofs.lemmas.Bool.{eq-eqb, cases_eq}
use Rattle.mon_types.specs.Shape.{Shape}
use Rattle.mon_types.specs.Objects.{width}
use Rattle.mon_types.specs.Owns.{own_word}
use Rattle.mon_types.specs.Replies.{is_done, is_concurrent}
use Rattle.mon_types.specs.declared.thread.Mode.{Mode}
use Rattle.mon_types.specs.declared.call.Call.{Call}
use Rattle.mon_types.specs.declared.call.Call.TheVariants as calls
use Rattle.mon_types.specs.declared.reply.Reply.{Reply}
use Rattle.mon_types.specs.declared.object.ObjectId.{ObjectId}
use Rattle.mon_types.specs.declared.object.ObjectId.TheVariants as objects
use Rattle.mon_model.specs.State.{State, region_at, mode_of}
use Rattle.mon_model.specs.OnCore.{is_load_page}
use Rattle.mon_model.specs.EveryReply.{never_met}
use Rattle.mon_model.specs.EveryStep.{after_shape}
use Rattle.mon_model.specs.Step.{reply_of, effect, changed, after}
use Rattle.mon_model.specs.Tries.{tries, tried_set}
use Rattle.mon_model.specs.Laws.{AgreeOn, ChangesOnly}
use Rattle.mon_model.proofs.Changes.{changes}
use Rattle.dram_map.specs.Addresses.{word_total, region_of_word}
use Rattle.mon_enclaves.specs.LoadReply.{is_load}
use Rattle.mon_records.specs.Rows.{Found, row_words, words_of, objects_of}
use Rattle.mon_records.specs.Rebuilt.{state_of}
use Rattle.mon_records.specs.RebuiltLaws.{AreRowsOf, HasFound, rebuilt}
use Rattle.mon_records.specs.EarlyWords.{ReadsOwned}
use Rattle.mon_records.specs.Answers.{Answers, freed_where_ok, freed}
use Rattle.mon_records.specs.Members.{In}
use Rattle.mon_records.proofs.Members.{contains_in, in_contains}
use Rattle.mon_records.proofs.RebuiltStates.{words_known, rebuilt_changes, found_stays, agreed_row}
use Rattle.mon_records.proofs.Answered.{answered_before, freed_regions}
use Rattle.hist.specs.declared.event.PageInput.{PageInput}
use Rattle.hist.specs.History.{digest_of}
use Rattle.loaded_pages.specs.Content.{Content, region_zeroed, content_put, content_by, content_after}
use Rattle.loaded_pages.specs.History.{words_read}
use Rattle.protocol.specs.Places.{Row, Dram, Memory, row_word}
use Rattle.protocol.specs.CallTree.{Issuer, onto, draft_of, unlocks, words_freed, words_in_region, zeros, late_writes, late_if, finish}
use Rattle.protocol_laws.specs.Known.{IsSound, Keeps, OwnedAreTrue, LooksSame}
use Rattle.protocol_laws.specs.Safe.{drawn_state, drawn_content, HasRead, StaysOrKept, Safe}
use Rattle.protocol_laws.proofs.Agreeing.{in_onto, onto_in, changes_sub}
use Rattle.protocol_laws.proofs.Standing.{RowsStand, IsSaid, AreLong}
use Rattle.protocol_laws.proofs.Locking.{can_read, no_lock, IsPlanned, safe_unlocks}
use Rattle.protocol_laws.proofs.Writing.{in_region, region_in, safe_rest, safe_zeros}

none_some : {r : ℕ} → None ≡ Some r → ⊥
none_some e = cc

some_same : {q r : ℕ} → Some q ≡ Some r → q ≡ r
some_same e = cc

wide_region : (r : ℕ) → 0 < width (objects.Region r)
unfolding width
wide_region r = omega arith

-- a region that is freed has zeros
freed_if : (b : Bool) (s : State) (call : Call) (words : List ℕ) (now : Content) (i r : ℕ) → cond b (freed_where_ok call) None ≡ Some r → region_of_word s.shape i ≡ r → cond b (content_by s call words now) now i ≡ 0
unfolding content_put region_zeroed
freed_if true s (calls.Free q) words now i r e f = ap (λ b. cond b 0 (now i)) (eq-eqb (region_of_word s.shape i) q (f ∙ sym (some_same e)))
freed_if true s _ words now i r e f = absurd (none_some e)
freed_if false s call words now i r e f = absurd (none_some e)

freed_zero : (s : State) (reply : Reply) (call : Call) (words : List ℕ) (now : Content) (i r : ℕ) → freed reply call ≡ Some r → region_of_word s.shape i ≡ r → content_after s reply call words now i ≡ 0
unfolding freed content_after
freed_zero s reply call words now i r e f = freed_if (is_done reply) s call words now i r e f

-- a refusal frees nothing, and changes nothing
refused_frees : (reply : Reply) (call : Call) → is_done reply ≡ false → freed reply call ≡ None
unfolding freed
refused_frees reply call d = ap (λ b. cond b (freed_where_ok call) None) d

refused_stays : (t : State) (core : ℕ) (call : Call) (digest : List ℕ) (ticket : ℕ) → is_done (reply_of t core call) ≡ false → after t core call digest ticket ≡ t
refused_stays t core call digest ticket d = ap (λ b. cond b (effect t core call digest ticket) t) d

pub shape_is : (m : Shape) (mode : Mode) (found : Found) → (state_of m mode found).shape ≡ m
unfolding state_of
shape_is m mode found = refl

-- what the words that are kept hold once the ticket is drawn: zeros that are to be stored, or what stands there
abbrev pub IsFilled : State → Reply → Call → List ℕ → List ObjectId → Content → Memory → Type 0
IsFilled t reply call words held now m =
    (i : ℕ) → i < word_total t.shape → Keeps t held i → (freed reply call ≡ Some (region_of_word t.shape i)) ⊎ (m (Dram i) ≡ content_after t reply call words now i)

-- ---- the rebuilt state

pub known_is : (by : Issuer) (found : Found) (shape : Shape) (s t : State) (held : List ObjectId) → s.shape ≡ shape → by.mode ≡ mode_of s by.core → AgreeOn s t by.core held → state_of shape by.mode found ≡ rebuilt t by.core found
known_is by found shape s t held of_shape of_mode agree =
    ap (λ z. state_of z by.mode found) (sym (agree.shape ∙ of_shape)) ∙ ap (λ z. state_of t.shape z found) (of_mode ∙ sym agree.mode)

-- all that the call tries is held, and so its rows are found
pub has_found : (by : Issuer) (call : Call) (found : Found) (s t : State) (now : Content) → AreRowsOf s found → IsPlanned by call s (objects_of found) [] → IsSound by.core t now → AgreeOn s t by.core (objects_of found) → HasFound t by.core call found
has_found by call found s t now are_rows planned sound agree =
    let plan_is : tries t by.core call ≡ onto (objects_of found) [] = planned t now sound agree in
    record {
      caller = sound.caller;
      rows = found_stays s t by.core (objects_of found) found agree (λ q c. c) are_rows;
      all = λ o c. in_contains (objects_of found) o (elim (onto_in (objects_of found) [] o (subst (In o) plan_is (contains_in (tries t by.core call) o c))) [ inl g ↦ g | inr g ↦ absurd g ]);
    }

-- with the state's reply the rebuilt state gets the state's rows
pub rows_after : (core : ℕ) (call : Call) (found : Found) (known t : State) (now : Content) (reply : Reply) (digest : List ℕ) (ticket : ℕ) (o : ObjectId) → known ≡ rebuilt t core found → reply ≡ reply_of t core call → IsSound core t now → HasFound t core call found → Contains (tries t core call) o → row_words (changed reply known core call digest ticket) o ≡ row_words (after t core call digest ticket) o
rows_after core call found known t now reply digest ticket o is reply_is sound has tried =
    ap (λ z. row_words (changed reply z core call digest ticket) o) is
    ∙ ap (λ r. row_words (changed r (rebuilt t core found) core call digest ticket) o) reply_is
    ∙ rebuilt_changes t core call found digest ticket o (can_read core t now sound) has tried

-- a call that frees a region loads none
frees_if : (b : Bool) (call : Call) (r : ℕ) → cond b (freed_where_ok call) None ≡ Some r → is_load call ≡ false
frees_if true (calls.Free q) r e = refl
frees_if true _ r e = absurd (none_some e)
frees_if false call r e = absurd (none_some e)

frees_plain : (reply : Reply) (call : Call) (r : ℕ) → freed reply call ≡ Some r → is_load call ≡ false
unfolding freed
frees_plain reply call r e = frees_if (is_done reply) call r e

module _ (by : Issuer) (call : Call) where
  safe_zeros_of : (held : List ObjectId) (u : State) (content : Content) (answers : List ℕ) (stands : Found) (new : State) (m : Memory) (named : Option ℕ) → ((o : ObjectId) → In o held → row_words new o ≡ row_words u o) → AreLong held stands → IsSaid held stands m → OwnedAreTrue u held m →
      ((o : ObjectId) (i : ℕ) → In o held → i < word_total u.shape → Answers u o (region_of_word u.shape i) → (named ≡ Some (region_of_word u.shape i)) ⊎ (m (Dram i) ≡ content i)) →
      ((i r : ℕ) → named ≡ Some r → region_of_word u.shape i ≡ r → content i ≡ 0) →
      ((r : ℕ) → named ≡ Some r → is_load call ≡ false) →
      ((r : ℕ) → named ≡ Some r → (j : ℕ) → region_of_word u.shape j ≡ r → Keeps u held j) →
      Safe by call u content answers held m (zeros (words_freed u.shape named) (late_writes (onto held []) stands new (unlocks held)))
  unfolding zeros
  safe_zeros_of held u content answers stands new m None target long said are fills zeroed plain keeps =
      safe_rest by call held u content answers stands new m target long said are
      (λ o h i b a. elim (fills o i h b a) [ inl e ↦ absurd (none_some e) | inr e ↦ e ])
  safe_zeros_of held u content answers stands new m (Some r) target long said are fills zeroed plain keeps =
      safe_zeros by call held u content answers (words_in_region u.shape r) m (late_writes (onto held []) stands new (unlocks held)) (plain r refl)
      (λ i h. let f = in_region u.shape r i h in (f.0, keeps r refl i f.1))
      (λ m1 cleared others rows. safe_rest by call held u content answers stands new m1 target long (λ o i h b. rows o i ∙ said o i h b)
      (λ q h e. rows (objects.Region q) 0 ∙ are q h (ap (λ y. y % 4) (sym (rows (objects.Region q) 0)) ∙ e))
      (λ o h i b a. elim (cases_eq (region_of_word u.shape i) r) [
        | inl e ↦ cleared i (inl (region_in u.shape r i b e)) ∙ sym (zeroed i r refl e)
        | inr ne ↦ others i (λ g. ne (in_region u.shape r i g).1) ∙ elim (fills o i h b a) [ inl e ↦ absurd (ne (sym (some_same e))) | inr e ↦ e ]
      ]))

  -- Ok has late moves, and after a refusal the rows stand as they were found
  safe_late_if : (b : Bool) (held : List ObjectId) (u : State) (content : Content) (answers : List ℕ) (stands : Found) (new : State) (m : Memory) (named : Option ℕ) → ((o : ObjectId) → In o held → row_words new o ≡ row_words u o) → AreLong held stands → IsSaid held stands m → OwnedAreTrue u held m →
      ((o : ObjectId) (i : ℕ) → In o held → i < word_total u.shape → Answers u o (region_of_word u.shape i) → (named ≡ Some (region_of_word u.shape i)) ⊎ (m (Dram i) ≡ content i)) →
      ((i r : ℕ) → named ≡ Some r → region_of_word u.shape i ≡ r → content i ≡ 0) →
      ((r : ℕ) → named ≡ Some r → is_load call ≡ false) →
      ((r : ℕ) → named ≡ Some r → (j : ℕ) → region_of_word u.shape j ≡ r → Keeps u held j) →
      (b ≡ false → named ≡ None) → (b ≡ false → RowsStand held u m) →
      Safe by call u content answers held m (late_if b (words_freed u.shape named) (onto held []) stands new (unlocks held))
  unfolding late_if
  safe_late_if true held u content answers stands new m named target long said are fills zeroed plain keeps unnamed rows =
      safe_zeros_of held u content answers stands new m named target long said are fills zeroed plain keeps
  safe_late_if false held u content answers stands new m named target long said are fills zeroed plain keeps unnamed rows =
      safe_unlocks by call held u content answers m (rows refl)
      (λ o h i b a. elim (fills o i h b a) [ inl e ↦ absurd (none_some (sym (unnamed refl) ∙ e)) | inr e ↦ e ])

  pub safe_finish : (reply : Reply) (page : Option PageInput) (found stands : Found) (shape : Shape) (s : State) (content : Content) (answers : List ℕ) (memory : Memory) → s.shape ≡ shape → by.mode ≡ mode_of s by.core → AreRowsOf s found → IsPlanned by call s (objects_of found) [] → IsSaid (objects_of found) stands memory → AreLong (objects_of found) stands →
      (is_done reply ≡ false → stands ≡ found) →
      ((t : State) (now : Content) → IsSound by.core t now → AgreeOn s t by.core (objects_of found) → reply ≡ reply_of t by.core call) →
      is_some page ≡ cond (is_load_page call) (is_done reply) false → HasRead page answers →
      ((t : State) (now : Content) (ticket r : ℕ) → IsSound by.core t now → AgreeOn s t by.core (objects_of found) → In (objects.Region r) (objects_of found) → ReadsOwned (memory (Row (objects.Region r) 0)) → memory (Row (objects.Region r) 0) ≡ own_word (region_at (after t by.core call (digest_of page) ticket) r)) →
      ((t : State) (now : Content) (m : Memory) → LooksSame by.core s content (objects_of found) memory t now m → IsSound by.core t now → StaysOrKept t (objects_of found) now (content_after t reply call (words_read page answers) now)) →
      ((t : State) (now : Content) (m : Memory) → LooksSame by.core s content (objects_of found) memory t now m → IsSound by.core t now → IsFilled t reply call (words_read page answers) (objects_of found) now m) →
      Safe by call s content answers (objects_of found) memory (finish by call reply page (objects_of found) (state_of shape by.mode found) stands)
  unfolding finish drawn_state drawn_content
  safe_finish reply page found stands shape s content answers memory of_shape of_mode are_rows planned said long same_found replies page_is read live stays fills = λ t now m ticket looks sound.
      let held : List ObjectId = objects_of found in
      let known : State = state_of shape by.mode found in
      let words : List ℕ = words_read page answers in
      let digest : List ℕ = digest_of page in
      let u : State = after t by.core call digest ticket in
      let later : Content = content_after t reply call words now in
      let plan_is : tries t by.core call ≡ onto held [] = planned t now sound looks.agree in
      let reply_is : reply ≡ reply_of t by.core call = replies t now sound looks.agree in
      let met : is_concurrent reply ≡ false = ap is_concurrent reply_is ∙ never_met t by.core call in
      let tried_in : (o : ObjectId) → In o held → In o (tries t by.core call) = λ o h. subst (In o) (sym plan_is) (in_onto held [] o (inl h)) in
      let held_in : (o : ObjectId) → In o (tries t by.core call) → In o held = λ o h. elim (onto_in held [] o (subst (In o) plan_is h)) [ inl g ↦ g | inr g ↦ absurd g ] in
      let has : HasFound t by.core call found = has_found by call found s t now are_rows planned sound looks.agree in
      let target : (o : ObjectId) → In o held → row_words (changed reply known by.core call digest ticket) o ≡ row_words u o = λ o h.
      rows_after by.core call found known t now reply digest ticket o (known_is by found shape s t held of_shape of_mode looks.agree) reply_is sound has (in_contains (tries t by.core call) o (tried_in o h)) in
      let said_now : IsSaid held stands m = λ o i h b. looks.rows o i h b ∙ said o i h b in
      let true_now : OwnedAreTrue u held m = λ r h e.
      (let w : m (Row (objects.Region r) 0) ≡ memory (Row (objects.Region r) 0) = looks.rows (objects.Region r) 0 h (wide_region r) in
      w ∙ live t now ticket r sound looks.agree h (ap (λ z. z % 4) (sym w) ∙ e)) in
      let us : u.shape ≡ t.shape = after_shape t by.core call digest ticket in
      let ks : u.shape ≡ known.shape = us ∙ looks.agree.shape ∙ of_shape ∙ sym (shape_is shape by.mode found) in
      let named : Option ℕ = freed reply call in
      let stated : (r : ℕ) → named ≡ Some r → freed (reply_of t by.core call) call ≡ Some r = λ r e. ap (λ z. freed z call) (sym reply_is) ∙ e in
      let fin : (o : ObjectId) (i : ℕ) → In o held → i < word_total u.shape → Answers u o (region_of_word u.shape i) → (named ≡ Some (region_of_word u.shape i)) ⊎ (m (Dram i) ≡ later i) = λ o i h b a.
      elim (answered_before t by.core call digest ticket o (region_of_word u.shape i) a) [
        | inl f ↦ inl (ap (λ z. freed z call) reply_is ∙ f)
        | inr before ↦
            let who_in : In before.who held = elim before.place [ inl e ↦ subst (λ z. In z held) (sym e) h | inr c ↦ held_in before.who (contains_in (tries t by.core call) before.who c) ] in
            let kept : Keeps t held i = record { who = before.who; held_is = who_in; answers = subst (λ z. Answers t before.who (region_of_word z i)) us before.answers } in
            elim (fills t now m looks sound i (subst (λ z. i < word_total z) us b) kept) [
              | inl f ↦ inl (f ∙ ap (λ z. Some (region_of_word z i)) (sym us))
              | inr f ↦ inr f
            ]
      ] in
      let keeps : (r : ℕ) → named ≡ Some r → (j : ℕ) → region_of_word u.shape j ≡ r → Keeps u held j = λ r e j f.
      (let is = freed_regions t by.core call digest ticket r sound.facts (stated r e) in
      record { who = objects.Region r; held_is = held_in (objects.Region r) (contains_in (tries t by.core call) (objects.Region r) is.tried); answers = record { is = (sym f, is.idle) } }) in
      let zeroed : (i r : ℕ) → named ≡ Some r → region_of_word u.shape i ≡ r → later i ≡ 0 = λ i r e f. freed_zero t reply call words now i r e (ap (λ z. region_of_word z i) (sym us) ∙ f) in
      let unnamed : is_done reply ≡ false → named ≡ None = λ d. refused_frees reply call d in
      let rows_stay : is_done reply ≡ false → RowsStand held u m = λ d o h i b.
      looks.rows o i h b ∙ said o i h b
      ∙ ap (λ z. get_or (words_of z o) i 0) (same_found d)
      ∙ ap (λ ws. get_or ws i 0) (words_known found s o are_rows h ∙ sym (agreed_row s t by.core held looks.agree o (in_contains held o h)))
      ∙ ap (λ z. row_word z o i) (sym (refused_stays t by.core call digest ticket (ap is_done (sym reply_is) ∙ d))) in (
        record {
          of_call = refl;
          next = refl;
          legal = record { reply = λ f. reply_is; tried = λ f. ap tried_set (sym plan_is); page = page_is };
          met = no_lock t by.core (draft_of by call reply (onto held []) page) reply met;
          read = read;
        },
        subst (λ b. ChangesOnly t (cond b t u) by.core held) (sym met) (changes_sub t u by.core (tries t by.core call) held held_in (changes t by.core call digest ticket)),
        subst (λ b. OwnedAreTrue (cond b t u) held m) (sym met) true_now,
        stays t now m looks sound,
        subst (λ b. Safe by call (cond b t u) later answers held m (late_if (is_done reply) (words_freed known.shape named) (onto held []) stands (changed reply known by.core call digest ticket) (unlocks held))) (sym met)
            (subst (λ z. Safe by call u later answers held m (late_if (is_done reply) (words_freed z named) (onto held []) stands (changed reply known by.core call digest ticket) (unlocks held))) ks
            (safe_late_if (is_done reply) held u later answers stands (changed reply known by.core call digest ticket) m named target long said_now true_now fin zeroed (λ r e. frees_plain reply call r e) keeps unnamed rows_stay)),
      )
