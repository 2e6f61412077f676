-- The first moves of a call, once for all calls: an early refusal, locks with their rows, a lock that is found held, and
-- the Unlocks at the end.
use Rattle.std.proofs.Common.{◌≡◌, inl, inr, ◌<◌, ◌+◌, ◌∙◌, ℕ, zero, suc, Bool, true, false, cond, Some, None, List, [], ◌∷◌, length, ap, sym, refl, subst, get_or, drop, arith}
use Rattle.std.specs.Prelude.{slice_get}
use Rattle.std.specs.List.{Contains}
use Rattle.std.proofs.lemmas.Bool.{cases_Bool}
use Rattle.std.proofs.lemmas.List.{drop_all}
use Rattle.mon_types.specs.Shape.{Shape}
use Rattle.mon_types.specs.Objects.{width}
use Rattle.mon_types.specs.Replies.{is_done, is_concurrent}
use Rattle.mon_types.specs.declared.call.Call.{Call}
use Rattle.mon_types.specs.declared.reply.Reply.{Reply}
use Rattle.mon_types.specs.declared.reply.Reply.TheVariants as replies
use Rattle.mon_types.specs.declared.object.ObjectId.{ObjectId}
use Rattle.mon_model.specs.State.{State, mode_of}
use Rattle.mon_model.specs.OnCore.{is_load_page}
use Rattle.mon_model.specs.EveryReply.{never_met}
use Rattle.mon_model.specs.Early.{early}
use Rattle.mon_model.specs.Step.{reply_of, held_reply, or_else, after}
use Rattle.mon_model.specs.Tries.{tries, held_tries, tried_set, unless_refused as tried_unless}
use Rattle.mon_model.specs.Laws.{AgreeOn, ChangesOnly}
use Rattle.mon_model.proofs.Carried.{carried}
use Rattle.mon_model.proofs.Changes.{changes_nothing, changes}
use Rattle.lock_plan.specs.Objects.{HasObject, AreInOrder}
use Rattle.lock_plan.proofs.Order.{tries_ascend}
use Rattle.mon_records.specs.Rows.{Found, row_words, objects_of}
use Rattle.mon_records.specs.Rebuilt.{state_of}
use Rattle.mon_records.specs.RebuiltLaws.{IsReadable, AreRowsOf}
use Rattle.mon_records.specs.Members.{In}
use Rattle.mon_records.proofs.Members.{in_contains}
use Rattle.mon_records.proofs.Readable.{readable}
use Rattle.mon_records.proofs.RebuiltStates.{nothing_found, first_found, found_stays, rows_long}
use Rattle.hist.specs.History.{digest_of}
use Rattle.loaded_pages.specs.Content.{Content, content_by, content_after}
use Rattle.loaded_pages.specs.History.{words_read}
use Rattle.protocol.specs.declared.action.Action.TheVariants as actions
use Rattle.protocol.specs.declared.action.Draft.{Draft}
use Rattle.protocol.specs.Places.{Row, Memory, row_word}
use Rattle.protocol.specs.CallTree.{Tree, Over, Issuer, then_, onto, draft_of, unlocks, reads, meets, after_try, lock, lock_all, plan_of, behind_first, lock_plan}
use Rattle.protocol_laws.specs.Known.{IsSound, RowStands}
use Rattle.protocol_laws.specs.Safe.{drawn_state, drawn_content, HasMet, Safe, Issues}
use Rattle.protocol_laws.proofs.Agreeing.{in_onto, onto_append, agree_refl, agree_trans, agree_sub}
use Rattle.protocol_laws.proofs.Standing.{RowsStand, AllWordsStand, rows_look, words_look, stand_true, rows_more, words_more}

-- ---- lists

begins_with : (xs : List ObjectId) (x : ObjectId) → slice_get xs 0 ≡ Some x → (rest : List ObjectId) × (xs ≡ x ∷ rest)
begins_with [] x e = absurd (cc)
begins_with (y ∷ ys) x e = (ys, cc)

begins_none : (xs : List ObjectId) → slice_get xs 0 ≡ None → xs ≡ []
begins_none [] e = refl
begins_none (y ∷ ys) e = absurd (cc)

drop_one : (xs : List ℕ) (i : ℕ) → i < length xs → drop i xs ≡ get_or xs i 0 ∷ drop (suc i) xs
drop_one [] i h = absurd (omega arith)
drop_one (x ∷ xs) zero h = refl
drop_one (x ∷ xs) (suc i) h = drop_one xs i (omega arith)

-- a call that reads no page
no_page : (b : Bool) → false ≡ cond b false false
no_page true = refl
no_page false = refl

pub refused_page : (b done : Bool) → done ≡ false → false ≡ cond b done false
refused_page true done e = sym e
refused_page false done e = refl

-- a reply that names no lock
pub no_lock : (s : State) (core : ℕ) (draft : Draft) (reply : Reply) → is_concurrent reply ≡ false → HasMet s core draft reply
no_lock s core draft (replies.ConcurrentCall lock holder serial) e = absurd (cc)
no_lock s core draft _ e = tt

-- a refusal changes no content
pub content_refused : (s : State) (draft : Draft) (answers : List ℕ) (now : Content) (i : ℕ) → is_done draft.reply ≡ false → drawn_content s draft answers now i ≡ now i
unfolding drawn_content content_after
content_refused s draft answers now i e = ap (λ b. cond b (content_by s draft.call (words_read draft.page answers) now) now i) e

none_some : {r : Reply} → None ≡ Some r → ⊥
none_some e = cc

-- ---- what is known of a sound state

pub can_read : (core : ℕ) (s : State) (content : Content) → IsSound core s content → IsReadable s
can_read core s content h = readable s h.tables h.facts h.ranges

in_machine : (m : Shape) (tried : List ObjectId) → AreInOrder m tried → (o : ObjectId) → Contains tried o → HasObject m o
in_machine m tried h o c = subst (HasObject m) (c.2) (h.there c.0 o c.1)

-- what is tried is there
pub tried_is_there : (core : ℕ) (s : State) (content : Content) (call : Call) (o : ObjectId) → IsSound core s content → In o (tries s core call) → HasObject s.shape o
tried_is_there core s content call o h m =
    in_machine s.shape (tries s core call) (tries_ascend s core call h.tables.machine h.caller) o (in_contains (tries s core call) o m)

-- whatever others do, the call tries those that are held, and then these
abbrev pub IsPlanned : Issuer → Call → State → List ObjectId → List ObjectId → Type 0
IsPlanned by call s held rest =
    (t : State) (content : Content) → IsSound by.core t content → AgreeOn s t by.core held → tries t by.core call ≡ onto held rest

-- what is known where all objects are held
pub record AllHeld (by : Issuer) (call : Call) (found : Found) (s : State) (content : Content) (memory : Memory) : Type 0 where
  pub sound : IsSound by.core s content
  pub are_rows : AreRowsOf s found
  pub rows : RowsStand (objects_of found) s memory
  pub words : AllWordsStand (objects_of found) s content memory
  pub planned : IsPlanned by call s (objects_of found) []

module _ (by : Issuer) (call : Call) where
  pub safe_unlocks : (held : List ObjectId) (s : State) (content : Content) (answers : List ℕ) (memory : Memory) → RowsStand held s memory → AllWordsStand held s content memory → Safe by call s content answers held memory (unlocks held)
  unfolding unlocks
  safe_unlocks [] s content answers memory rows words = refl
  safe_unlocks (o ∷ os) s content answers memory rows words =
      (os, refl, rows o (inl refl), words o (inl refl), safe_unlocks os s content answers memory (λ p h. rows p (inr h)) (λ p h. words p (inr h)))

  safe_reads : (held : List ObjectId) (s : State) (content : Content) (answers : List ℕ) (memory : Memory) (o : ObjectId) → In o held → RowStands o s memory → length (row_words s o) ≡ width o →
      (count i : ℕ) (next : List ℕ → Tree) → i + count ≡ width o → ((words : List ℕ) → words ≡ drop i (row_words s o) → Safe by call s content answers held memory (next words)) →
      Safe by call s content answers held memory (reads o count i next)
  unfolding reads
  safe_reads held s content answers memory o h stand long zero i next e cont = cont [] (sym (drop_all i (row_words s o) (omega (arith, long))))
  safe_reads held s content answers memory o h stand long (suc count) i next e cont =
      let b : i < width o = omega arith in (
        h,
        b,
        safe_reads held s content answers memory o h stand long count (suc i) (λ words. next (memory (Row o i) ∷ words)) (omega arith)
            (λ words f. cont (memory (Row o i) ∷ words) (ap (λ x. x ∷ words) (stand i b) ∙ ap (λ xs. row_word s o i ∷ xs) f ∙ sym (drop_one (row_words s o) i (omega (arith, long))))),
      )

  -- a lock that another core holds
  safe_met : (found : Found) (o : ObjectId) (holder serial : ℕ) (s : State) (content : Content) (answers : List ℕ) (memory : Memory) → RowsStand (objects_of found) s memory → AllWordsStand (objects_of found) s content memory →
      ((t : State) (now : Content) → IsSound by.core t now → AgreeOn s t by.core (objects_of found) → (rest : List ObjectId) × (tries t by.core call ≡ onto (objects_of found) (o ∷ rest))) →
      Safe by call s content answers (objects_of found) memory (meets by call found o holder serial)
  unfolding meets onto drawn_state drawn_content content_after
  safe_met found o holder serial s content answers memory rows words planned = λ t now m ticket looks sound.
      let p = planned t now sound looks.agree in
      let rows_now = rows_look by.core s content (objects_of found) memory t now m looks rows in
      let words_now = words_look by.core s content (objects_of found) memory t now m looks words in (
        record {
          of_call = refl;
          next = refl;
          legal = record { reply = λ e. absurd (cc); tried = λ e. absurd (cc); page = no_page (is_load_page call) };
          met = record {
            before = onto (objects_of found) [];
            behind = p.0;
            planned_are = p.1 ∙ onto_append (objects_of found) (o ∷ p.0);
            tried_are = ap tried_set (onto_append (objects_of found) (o ∷ []));
          };
          read = tt;
        },
        changes_nothing t by.core (objects_of found),
        stand_true (objects_of found) t m rows_now,
        (λ i. inl refl),
        safe_unlocks (objects_of found) t now answers m rows_now words_now,
      )

  -- one lock, and its row
  safe_lock : (found : Found) (o : ObjectId) (next : Found → Tree) (s : State) (content : Content) (answers : List ℕ) (memory : Memory) → RowsStand (objects_of found) s memory → AllWordsStand (objects_of found) s content memory → AreRowsOf s found →
      ((t : State) (now : Content) → IsSound by.core t now → AgreeOn s t by.core (objects_of found) → (rest : List ObjectId) × (tries t by.core call ≡ onto (objects_of found) (o ∷ rest))) →
      ((t : State) (now : Content) (m : Memory) (words : List ℕ) → IsSound by.core t now → AgreeOn s t by.core (objects_of found) → words ≡ row_words t o → AreRowsOf t found → RowsStand (o ∷ objects_of found) t m → AllWordsStand (o ∷ objects_of found) t now m → Safe by call t now answers (o ∷ objects_of found) m (next ((o, words) ∷ found))) →
      Safe by call s content answers (objects_of found) memory (lock by call found o next)
  unfolding lock after_try
  safe_lock found o next s content answers memory rows words are planned cont = (
    (λ t now m looks sound.
        let p = planned t now sound looks.agree in (
          tried_is_there by.core t now call o sound (subst (In o) (sym p.1) (in_onto (objects_of found) (o ∷ p.0) o (inr (inl refl)))),
          (λ row_stands words_stand.
              let all_rows = rows_more o (objects_of found) t m row_stands (rows_look by.core s content (objects_of found) memory t now m looks rows) in
              let all_words = words_more o (objects_of found) t now m words_stand (words_look by.core s content (objects_of found) memory t now m looks words) in
              safe_reads (o ∷ objects_of found) t now answers m o (inl refl) row_stands (rows_long t o (can_read by.core t now sound)) (width o) 0 (λ found_words. next ((o, found_words) ∷ found)) (omega arith)
              (λ found_words e. cont t now m found_words sound looks.agree e (found_stays s t by.core (objects_of found) found looks.agree (λ q c. c) are) all_rows all_words)),
        )),
    (λ holder serial. safe_met found o holder serial s content answers memory rows words planned),
  )

  safe_lock_all : (os : List ObjectId) (found : Found) (next : Found → Tree) (s : State) (content : Content) (answers : List ℕ) (memory : Memory) → IsSound by.core s content → AreRowsOf s found → RowsStand (objects_of found) s memory → AllWordsStand (objects_of found) s content memory → IsPlanned by call s (objects_of found) os →
      ((f : Found) (t : State) (now : Content) (m : Memory) → AgreeOn s t by.core (objects_of found) → AllHeld by call f t now m → Safe by call t now answers (objects_of f) m (next f)) →
      Safe by call s content answers (objects_of found) memory (lock_all by call os found next)
  unfolding lock_all onto objects_of
  safe_lock_all [] found next s content answers memory sound are rows words planned cont =
      cont found s content memory (agree_refl s by.core (objects_of found)) (record { sound = sound; are_rows = are; rows = rows; words = words; planned = planned })
  safe_lock_all (o ∷ os) found next s content answers memory sound are rows words planned cont =
      safe_lock found o (λ more. lock_all by call os more next) s content answers memory rows words are
      (λ t now sound1 agree. (os, planned t now sound1 agree))
      (λ t now m found_words sound1 agree e are1 rows1 words1. safe_lock_all os ((o, found_words) ∷ found) next t now answers m sound1 (e, are1) rows1 words1
      (λ u later sound2 b. planned u later sound2 (agree_trans s t u by.core (objects_of found) agree (agree_sub t u by.core (objects_of found) (o ∷ objects_of found) (λ p h. inr h) b)))
      (λ f u later m2 b all. cont f u later m2 (agree_trans s t u by.core (objects_of found) agree (agree_sub t u by.core (objects_of found) (o ∷ objects_of found) (λ p h. inr h) b)) all))

  -- ---- the plan

  safe_plan_at : (s : State) (content : Content) (answers : List ℕ) (memory : Memory) (next : Found → Tree) → IsSound by.core s content → Issues by s answers → (os : List ObjectId) →
      ((t : State) (now : Content) → IsSound by.core t now → AgreeOn s t by.core [] → slice_get (tries t by.core call) 0 ≡ slice_get os 0) →
      ((f : Found) (t : State) (now : Content) (m : Memory) → AgreeOn s t by.core [] → AllHeld by call f t now m → Safe by call t now answers (objects_of f) m (next f)) →
      Safe by call s content answers [] memory (lock_plan s.shape by call os next)
  unfolding lock_plan onto objects_of
  safe_plan_at s content answers memory next sound issues [] first cont = cont [] s content memory (agree_refl s by.core []) (record {
    sound = sound;
    are_rows = tt;
    rows = λ o h. absurd h;
    words = λ o h. absurd h;
    planned = λ t now sound1 agree. begins_none (tries t by.core call) (first t now sound1 agree);
  })
  safe_plan_at s content answers memory next sound issues (x ∷ xs) first cont =
      safe_lock [] x (λ found. lock_all by call (behind_first (plan_of s.shape by call found)) found next) s content answers memory (λ o h. absurd h) (λ o h. absurd h) tt
      (λ t now sound1 agree. begins_with (tries t by.core call) x (first t now sound1 agree))
      (λ t now m found_words sound1 agree e are1 rows1 words1.
      let found : Found = (x, found_words) ∷ [] in
      let rest : List ObjectId = behind_first (plan_of s.shape by call found) in
      let planned1 : IsPlanned by call t (x ∷ []) rest = λ u later sound2 b.
      (let whole = agree_trans s t u by.core [] agree (agree_sub t u by.core [] (x ∷ []) (λ o h. absurd h) b) in
      let begins = begins_with (tries u by.core call) x (first u later sound2 whole) in
      let settled = first_found u by.core call found x begins.0 (can_read by.core u later sound2) sound2.caller begins.1 (found_stays t u by.core (x ∷ []) found b (λ q c. c) (e, tt)) (in_contains (objects_of found) x (inl refl)) in
      let same : plan_of s.shape by call found ≡ tries u by.core call =
      ap (λ z. tries (state_of z by.mode found) by.core call) (sym whole.shape) ∙ ap (λ z. tries (state_of u.shape z found) by.core call) (issues.mode ∙ sym whole.mode) ∙ settled in
      begins.1 ∙ ap (λ ys. x ∷ ys) (sym (ap behind_first (same ∙ begins.1)))) in
      safe_lock_all rest found next t now answers m sound1 (e, tt) rows1 words1 planned1
      (λ f u later m2 b all. cont f u later m2 (agree_trans s t u by.core [] agree (agree_sub t u by.core [] (x ∷ []) (λ o h. absurd h) b)) all))

  pub safe_plan : (s : State) (content : Content) (answers : List ℕ) (memory : Memory) (next : Found → Tree) → IsSound by.core s content → Issues by s answers →
      ((f : Found) (t : State) (now : Content) (m : Memory) → AgreeOn s t by.core [] → AllHeld by call f t now m → Safe by call t now answers (objects_of f) m (next f)) →
      Safe by call s content answers [] memory (lock_plan s.shape by call (plan_of s.shape by call []) next)
  safe_plan s content answers memory next sound issues cont = safe_plan_at s content answers memory next sound issues (plan_of s.shape by call [])
      (λ t now sound1 agree. sym (nothing_found t by.core call sound1.caller)
      ∙ ap (λ z. slice_get (tries (state_of z (mode_of t by.core) []) by.core call) 0) agree.shape
      ∙ ap (λ z. slice_get (tries (state_of s.shape z []) by.core call) 0) (agree.mode ∙ sym issues.mode)) cont

  -- ---- a refusal before any lock

  not_done : (t : State) (refusal : Reply) → early t.shape (mode_of t by.core) call ≡ Some refusal → is_done refusal ≡ false
  not_done t refusal now = elim (cases_Bool (is_done refusal)) [
    | inl e ↦ absurd (none_some (sym (carried t by.core call (ap (λ o. is_done (or_else o (held_reply t by.core call))) now ∙ e)).none ∙ now))
    | inr e ↦ e
  ]

  pub safe_refused : (refusal : Reply) (s : State) (content : Content) (answers : List ℕ) (memory : Memory) → Issues by s answers → early s.shape by.mode call ≡ Some refusal → Safe by call s content answers [] memory (then_ (actions.Draw (draft_of by call refusal [] None)) Over)
  unfolding drawn_state drawn_content content_after
  safe_refused refusal s content answers memory issues e = λ t now m ticket looks sound.
      let early_now : early t.shape (mode_of t by.core) call ≡ Some refusal =
      ap (λ z. early z (mode_of t by.core) call) looks.agree.shape ∙ ap (λ z. early s.shape z call) (looks.agree.mode ∙ sym issues.mode) ∙ e in
      let reply : refusal ≡ reply_of t by.core call = sym (ap (λ o. or_else o (held_reply t by.core call)) early_now) in
      let none : tries t by.core call ≡ [] = ap (λ o. tried_unless o (held_tries t by.core call)) early_now in
      let met : is_concurrent refusal ≡ false = ap is_concurrent reply ∙ never_met t by.core call in
      let refused : is_done refusal ≡ false = not_done t refusal early_now in
      let u : State = after t by.core call (digest_of None) ticket in (
        record {
          of_call = refl;
          next = refl;
          legal = record { reply = λ f. reply; tried = λ f. ap tried_set (sym none); page = refused_page (is_load_page call) (is_done refusal) refused };
          met = no_lock t by.core (draft_of by call refusal [] None) refusal met;
          read = tt;
        },
        subst (λ b. ChangesOnly t (cond b t u) by.core []) (sym met) (subst (ChangesOnly t u by.core) none (changes t by.core call (digest_of None) ticket)),
        (λ r h. absurd h),
        (λ i. inl (content_refused t (draft_of by call refusal [] None) answers now i refused)),
        refl,
      )
