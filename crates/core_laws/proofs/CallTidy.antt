-- The tree of every call is tidy: combinator by combinator.
use Rattle.std.proofs.Common.{◌≡◌, ◌∙◌, ◌+◌, ◌-◌, ◌<◌, ◌^◌, ℕ, zero, suc, Bool, true, false, cond, Option, Some, None, List, [], ◌∷◌, ◌++◌, length, ap, sym, refl, subst, append_assoc, append-nil, length-append, arith, ◌==◌}
use Rattle.std.specs.Prelude.{slice_index}
use Rattle.std.specs.List.{AllByRecursion}
use Rattle.mon_types.specs.Shape.{Shape, is_shape}
use Rattle.mon_types.specs.Objects.{width}
use Rattle.mon_types.specs.Replies.{is_done}
use Rattle.mon_types.specs.Words.{AreWords}
use Rattle.mon_types.specs.declared.call.Call.{Call}
use Rattle.mon_types.specs.declared.call.Call.TheVariants as calls
use Rattle.mon_types.specs.declared.reply.Reply.{Reply}
use Rattle.mon_types.specs.declared.reply.Reply.TheVariants as replies
use Rattle.mon_types.specs.declared.object.ObjectId.{ObjectId}
use Rattle.mon_types.proofs.Rows.{all_at}
use Rattle.mon_types.specs.Modes.{own_slot}
use Rattle.mon_model.specs.State.{State}
use Rattle.mon_model.specs.Early.{early}
use Rattle.mon_model.specs.InRange.{IsInRange}
use Rattle.mon_model.proofs.InRange.{not_refused}
use Rattle.mon_model.specs.Step.{reply_of, changed}
use Rattle.lock_plan.specs.Objects.{HasObject, IsCaller}
use Rattle.sv39_pte.specs.Tables.{pte_place, leads_to_table, page_led_to, last_place}
use Rattle.mon_enclaves.specs.LoadReply.{is_load, va_of, path_length, words_reply}
use Rattle.mon_records.specs.Ranges.{AreInRange, IsCall}
use Rattle.mon_records.specs.Rows.{Found, row_words, objects_of, words_of}
use Rattle.mon_records.specs.Rebuilt.{state_of}
use Rattle.mon_records.specs.Answers.{freed_where_ok, freed}
use Rattle.hist.specs.declared.event.PageInput.{PageInput}
use Rattle.hist.specs.History.{digest_of}
use Rattle.mon_records.proofs.RebuiltStates.{known_mode, known_shape}
use Rattle.protocol.specs.declared.action.Action.TheVariants as actions
use Rattle.protocol.specs.declared.action.Draft.{Draft}
use Rattle.protocol.specs.declared.action.Outcome.{Outcome}
use Rattle.protocol.specs.declared.action.Outcome.TheVariants as outcomes
use Rattle.protocol.specs.CallTree.{Tree, Over, Makes, Issuer, number_in, onto, draft_of, unlocks, zeros, words_freed, write_unless, row_writes, late_writes, late_if, finish, early_writes, copy_words, page_read, copy_page, put_pte, go_on, walk, walk_below, places_of, ptes_of, load_if, loaded, loads_if, early_if, decided_by, decided, reads, meets, after_try, lock, lock_all, plan_of, behind_first, lock_plan, unless_refused, call_tree}
use Rattle.protocol.specs.Views.{held_by, is_last}
use Rattle.core_behaviour.specs.Called.{found_by}
use Rattle.core_laws.specs.Outcomes.{IsWord, IsTried, IsTicket}
use Rattle.core_laws.proofs.Tidy.{IsReply, AreRows, IsDraft, IsTidy, clash, goes, ends, word_less, ticket_less}
use Rattle.core_laws.proofs.CallWords.{all_append, early_reply, reply_fits, words_reply_fits, met_reply, pte_fits, early_fits, rows_fit, effect_fits, found_fits, all_planned, behind_there, frees_tried}

-- where nothing is held a call is over, and else it goes on
abbrev Rests : Shape → Call → List ObjectId → Found → Reply → Tree → Type 0
Rests shape call [] found reply rest = rest ≡ Over
Rests shape call (o ∷ os) found reply rest = IsTidy shape call (o ∷ os) found (Some reply) rest

-- a call that has found nothing frees nothing
abbrev FreesNone : Call → List ObjectId → Type 0
FreesNone call held = held ≡ [] → freed_where_ok call ≡ None

module _ (shape : Shape) (is : is_shape shape ≡ true) (by : Issuer) (caller : IsCaller shape by.core by.mode) (call : Call) (is_call : IsCall call) where
  -- ---- behind the Draw

  tidy_unlocks : (o : ObjectId) (os : List ObjectId) (found : Found) (r : Reply) → AreRows found → IsReply r → IsTidy shape call (o ∷ os) found (Some r) (unlocks (o ∷ os))
  unfolding unlocks held_by is_last
  tidy_unlocks o [] found r rows fit = (tt, λ out m. ends true refl (record { over = refl; rows = rows; replied = fit }))
  tidy_unlocks o (p ∷ os) found r rows fit = (tt, λ out m. goes false refl (tidy_unlocks p os found r rows fit))

  rest_unlocks : (held : List ObjectId) (found : Found) (r : Reply) → AreRows found → IsReply r → Rests shape call held found r (unlocks held)
  unfolding unlocks
  rest_unlocks [] found r rows fit = refl
  rest_unlocks (o ∷ os) found r rows fit = tidy_unlocks o os found r rows fit

  tidy_zeros : (words : List ℕ) (held : List ObjectId) (found : Found) (reply : Option Reply) (next : Tree) → IsTidy shape call held found reply next → IsTidy shape call held found reply (zeros words next)
  unfolding zeros held_by is_last
  tidy_zeros [] held found reply next g = g
  tidy_zeros (i ∷ more) held found reply next g = (omega arith, λ out m. goes false refl (tidy_zeros more held found reply next g))

  tidy_write : (b : Bool) (o : ObjectId) (i word : ℕ) (held : List ObjectId) (found : Found) (reply : Option Reply) (next : Tree) → IsWord word → IsTidy shape call held found reply next → IsTidy shape call held found reply (write_unless b o i word next)
  unfolding write_unless held_by is_last
  tidy_write true o i word held found reply next fit g = g
  tidy_write false o i word held found reply next fit g = (fit, λ out m. goes false refl g)

  tidy_row : (o : ObjectId) (i : ℕ) (words wanted : List ℕ) (held : List ObjectId) (found : Found) (reply : Option Reply) (next : Tree) → AllByRecursion IsWord wanted → IsTidy shape call held found reply next → IsTidy shape call held found reply (row_writes o i words wanted next)
  unfolding row_writes
  tidy_row o i [] wanted held found reply next fit g = g
  tidy_row o i (word ∷ words) wanted held found reply next fit g =
      tidy_write (word == slice_index wanted i) o i (slice_index wanted i) held found reply (row_writes o (suc i) words wanted next)
      (all_at IsWord wanted i (omega arith) fit) (tidy_row o (suc i) words wanted held found reply next fit g)

  tidy_late : (os : List ObjectId) (stands : Found) (s : State) (held : List ObjectId) (found : Found) (reply : Option Reply) (next : Tree) → AreInRange s → IsTidy shape call held found reply next → IsTidy shape call held found reply (late_writes os stands s next)
  unfolding late_writes
  tidy_late [] stands s held found reply next range g = g
  tidy_late (o ∷ os) stands s held found reply next range g =
      tidy_row o 0 (words_of stands o) (row_words s o) held found reply (late_writes os stands s next) (rows_fit s o range) (tidy_late os stands s held found reply next range g)

  late_over : (words : List ℕ) (stands : Found) (s : State) → words ≡ [] → zeros words (late_writes (onto [] []) stands s (unlocks [])) ≡ Over
  unfolding zeros late_writes onto unlocks
  late_over [] stands s e = refl
  late_over (i ∷ more) stands s e = absurd (cc)

  rest_late : (b : Bool) (words : List ℕ) (held : List ObjectId) (found : Found) (r : Reply) (stands : Found) (s : State) → (held ≡ [] → words ≡ []) → (b ≡ true → AreInRange s) → AreRows found → IsReply r → Rests shape call held found r (late_if b words (onto held []) stands s (unlocks held))
  unfolding late_if
  rest_late false words held found r stands s none range rows fit = rest_unlocks held found r rows fit
  rest_late true words [] found r stands s none range rows fit = late_over words stands s (none refl)
  rest_late true words (o ∷ os) found r stands s none range rows fit =
      tidy_zeros words (o ∷ os) found (Some r) (late_writes (onto (o ∷ os) []) stands s (unlocks (o ∷ os)))
      (tidy_late (onto (o ∷ os) []) stands s (o ∷ os) found (Some r) (unlocks (o ∷ os)) (range refl) (tidy_unlocks o os found r rows fit))

  -- ---- the Draw

  -- its end, or what follows
  draw_tidy : (draft : Draft) (held : List ObjectId) (found : Found) (next : Outcome → Tree) → IsDraft shape call None draft.call draft.reply → AreRows found → ((out : Outcome) → IsTicket out → Rests shape call held found draft.reply (next out)) → IsTidy shape call held found None (Makes (actions.Draw draft) next)
  unfolding held_by is_last
  draw_tidy draft [] found next d rows g = (d, λ out m. ends true refl (record { over = g out m; rows = rows; replied = d.reply }))
  draw_tidy draft (o ∷ os) found next d rows g = (d, λ out m. goes false refl (g out m))

  frees_no_word : (m : Shape) (reply : Reply) → freed_where_ok call ≡ None → words_freed m (freed reply call) ≡ []
  unfolding freed
  frees_no_word m reply none = of (is_done reply)
    where
      of : (b : Bool) → words_freed m (cond b (freed_where_ok call) None) ≡ []
      of true = ap (words_freed m) none
      of false = refl

  tidy_finish : (reply : Reply) (page : Option PageInput) (held : List ObjectId) (known : State) (stands found : Found) → AreRows found → IsReply reply → IsInRange shape call → FreesNone call held → ((digest : List ℕ) (k : ℕ) → k < 2 ^ 32 → AreInRange (changed reply known by.core call digest k)) → IsTidy shape call held found None (finish by call reply page held known stands)
  unfolding finish
  tidy_finish reply page held known stands found rows fit range frees changes =
      draw_tidy (draft_of by call reply (onto held []) page) held found _ (record { first = refl; of_call = refl; reply = fit; range = λ d. range }) rows
      (λ out m. rest_late (is_done reply) (words_freed known.shape (freed reply call)) held found reply stands (changed reply known by.core call (digest_of page) (number_in out))
      (λ e. frees_no_word known.shape reply (frees e)) (λ d. changes (digest_of page) (number_in out) (ticket_less out m)) rows fit)

  -- ---- before the Draw

  tidy_early : (ps : List (ℕ × ℕ)) (stands : Found) (held : List ObjectId) (found : Found) (next : Found → Tree) → AllByRecursion (λ p. IsWord p.1) ps → ((stands : Found) → IsTidy shape call held found None (next stands)) → IsTidy shape call held found None (early_writes ps stands next)
  unfolding early_writes held_by is_last
  tidy_early [] stands held found next fit g = g stands
  tidy_early (p ∷ ps) stands held found next fit g = (fit.0, λ out m. goes false refl (tidy_early ps _ held found next fit.1 g))

  tidy_copy : (count i src page : ℕ) (held : List ObjectId) (found : Found) (next : List ℕ → Tree) → ((words : List ℕ) → IsTidy shape call held found None (next words)) → IsTidy shape call held found None (copy_words count i src page next)
  unfolding copy_words held_by is_last
  tidy_copy zero i src page held found next g = g []
  tidy_copy (suc count) i src page held found next g =
      (tt, λ out m. goes false refl (word_less out m, λ other n. goes false refl (tidy_copy count (suc i) src page held found (λ words. next (number_in out ∷ words)) (λ words. g (number_in out ∷ words)))))

  tidy_page : (c : Call) (at : ℕ) (held : List ObjectId) (found : Found) (next : Option PageInput → Tree) → ((page : Option PageInput) → IsTidy shape call held found None (next page)) → IsTidy shape call held found None (copy_page c at next)
  unfolding copy_page
  tidy_page (calls.LoadPage e va page src perms) at held found next g = tidy_copy _ 0 src page held found (λ words. next (Some (page_read at words))) (λ words. g (Some (page_read at words)))
  tidy_page _ at held found next g = g None

  tidy_put : (place : Option ℕ) (held : List ObjectId) (found : Found) (next : Tree) → IsInRange shape call → IsTidy shape call held found None next → IsTidy shape call held found None (put_pte place call next)
  unfolding put_pte held_by is_last
  tidy_put None held found next range g = g
  tidy_put (Some place) held found next range g = (pte_fits shape call is range, λ out m. goes false refl g)

  tidy_on : (b : Bool) (held : List ObjectId) (found : Found) (further end : Tree) → IsTidy shape call held found None further → IsTidy shape call held found None end → IsTidy shape call held found None (go_on b further end)
  unfolding go_on
  tidy_on true held found further end g h = g
  tidy_on false held found further end g h = h

  tidy_walk : (m : Shape) (va level count page : ℕ) (held : List ObjectId) (found : Found) (next : List (ℕ × ℕ) → Tree) → ((ptes : List (ℕ × ℕ)) → IsTidy shape call held found None (next ptes)) → IsTidy shape call held found None (walk m va level count page next)
  unfolding walk held_by is_last
  tidy_walk m va level zero page held found next g = g []
  tidy_walk m va level (suc count) page held found next g =
      let place : ℕ = pte_place page level va in (
        tt,
        λ out n. goes false refl (tidy_on (leads_to_table m (number_in out)) held found _ (next ((place, number_in out) ∷ []))
            (tidy_walk m va (level - 1) count (page_led_to (number_in out)) held found (λ rest. next ((place, number_in out) ∷ rest)) (λ rest. g ((place, number_in out) ∷ rest))) (g ((place, number_in out) ∷ []))),
      )

  tidy_below : (m : Shape) (va count : ℕ) (root : Option ℕ) (held : List ObjectId) (found : Found) (next : List (ℕ × ℕ) → Tree) → ((ptes : List (ℕ × ℕ)) → IsTidy shape call held found None (next ptes)) → IsTidy shape call held found None (walk_below m va count root next)
  unfolding walk_below
  tidy_below m va count None held found next g = g []
  tidy_below m va count (Some root) held found next g = tidy_walk m va 2 count root held found next g

  -- ---- once all objects are held

  module _ (ok : early shape by.mode call ≡ None) (found : Found) (rows : AreRows found) (frees : FreesNone call (objects_of found)) where
    range : IsInRange shape call
    range = not_refused shape by.mode call ok

    changes : (reply : Reply) (digest : List ℕ) (k : ℕ) → k < 2 ^ 32 → AreInRange (changed reply (state_of shape by.mode found) by.core call digest k)
    unfolding state_of
    changes reply digest k less = effect_fits (state_of shape by.mode found) by.core call reply digest k is (subst (λ z. own_slot z < 8) (sym (known_mode shape by.core by.mode found caller.there)) caller.slot) range is_call less (found_fits shape by.mode found rows)

    tidy_load_if : (b : Bool) (reply : Reply) (ptes : List (ℕ × ℕ)) → IsReply reply → IsTidy shape call (objects_of found) found None (load_if b by call reply ptes (state_of shape by.mode found) found)
    unfolding load_if
    tidy_load_if false reply ptes fit = tidy_finish reply None (objects_of found) (state_of shape by.mode found) found found rows fit range frees (changes reply)
    tidy_load_if true reply ptes fit =
        tidy_page call (by.answers + length ptes) (objects_of found) found _ (λ page. tidy_put (last_place (places_of ptes)) (objects_of found) found _ range
        (tidy_finish reply page (objects_of found) (state_of shape by.mode found) found found rows fit range frees (changes reply)))

    tidy_loaded : (ptes : List (ℕ × ℕ)) → IsTidy shape call (objects_of found) found None (loaded by call (state_of shape by.mode found) found ptes)
    unfolding loaded
    tidy_loaded ptes = tidy_load_if _ (words_reply (state_of shape by.mode found) call (ptes_of ptes)) ptes (words_reply_fits (state_of shape by.mode found) call (ptes_of ptes))

    tidy_loads_if : (b : Bool) → IsTidy shape call (objects_of found) found None (loads_if b by call (state_of shape by.mode found) found)
    unfolding loads_if
    tidy_loads_if false = tidy_loaded []
    tidy_loads_if true = tidy_below _ (va_of call) (path_length call) _ (objects_of found) found _ tidy_loaded

    tidy_decided_by : (b : Bool) → IsTidy shape call (objects_of found) found None (decided_by b by call (state_of shape by.mode found) found)
    unfolding decided_by
    tidy_decided_by true = tidy_loads_if _
    tidy_decided_by false =
        let s : State = state_of shape by.mode found in
        let fits : AreInRange s = found_fits shape by.mode found rows in
        let reply : Reply = reply_of s by.core call in
        tidy_early (early_if (is_done reply) s call) found (objects_of found) found (finish by call reply None (objects_of found) s) (early_fits (is_done reply) s call fits)
        (λ stands. tidy_finish reply None (objects_of found) s stands found rows (reply_fits s by.core call fits) range frees (changes reply))

    tidy_decided : IsTidy shape call (objects_of found) found None (decided shape by call found)
    unfolding decided
    tidy_decided = tidy_decided_by (is_load call)

  -- ---- locks

  tidy_reads : (o : ObjectId) (count i : ℕ) (ws : List ℕ) (rest : Found) (held : List ObjectId) (next : List ℕ → Tree) → length ws + count ≡ width o → AllByRecursion IsWord ws
      → ((words : List ℕ) → AreWords (width o) (ws ++ words) → IsTidy shape call held ((o, ws ++ words) ∷ rest) None (next words)) → IsTidy shape call held ((o, ws) ∷ rest) None (reads o count i next)
  unfolding reads held_by is_last
  tidy_reads o zero i ws rest held next many fit g =
      let e : ws ++ [] ≡ ws = append-nil ws in
      let whole : AreWords (width o) ws = record { many = omega arith; fit = fit } in
      subst (λ z. IsTidy shape call held ((o, z) ∷ rest) None (next [])) e (g [] (subst (AreWords (width o)) (sym e) whole))
  tidy_reads o (suc count) i ws rest held next many fit g = (
    tt,
    λ out m. (let n : ℕ = number_in out in goes false refl
        (tidy_reads o count (suc i) (ws ++ n ∷ []) rest held (λ words. next (n ∷ words)) (simp length-append (omega arith)) (all_append IsWord ws (n ∷ []) fit (word_less out m, tt))
        (λ words whole. (let e : (ws ++ n ∷ []) ++ words ≡ ws ++ (n ∷ words) = append_assoc ws (n ∷ []) words in
        subst (λ z. IsTidy shape call held ((o, z) ∷ rest) None (next (n ∷ words))) (sym e) (g (n ∷ words) (subst (AreWords (width o)) e whole)))))),
  )

  tidy_met : (found : Found) (o : ObjectId) (holder serial : ℕ) → IsWord holder → IsWord serial → HasObject shape o → AreRows found → IsTidy shape call (objects_of found) found None (meets by call found o holder serial)
  unfolding meets
  tidy_met found o holder serial a b there rows =
      let fit = met_reply shape o holder serial is there a b in
      draw_tidy (draft_of by call (replies.ConcurrentCall o holder serial) (onto (o ∷ objects_of found) []) None) (objects_of found) found _ (record { first = refl; of_call = refl; reply = fit; range = λ d. clash (sym d) }) rows
      (λ out m. rest_unlocks (objects_of found) found (replies.ConcurrentCall o holder serial) rows fit)

  tidy_tried : (found : Found) (o : ObjectId) (next : Found → Tree) → HasObject shape o → AreRows found
      → ((words : List ℕ) → AreWords (width o) words → IsTidy shape call (o ∷ objects_of found) ((o, words) ∷ found) None (next ((o, words) ∷ found)))
      → (out : Outcome) → IsTried out → IsTidy shape call (held_by (actions.TryLock o) out (objects_of found)) (found_by (actions.TryLock o) out found) None (after_try by call found o next out)
  unfolding after_try held_by
  tidy_tried found o next there rows g outcomes.Taken m = tidy_reads o (width o) 0 [] found (o ∷ objects_of found) (λ words. next ((o, words) ∷ found)) (omega arith) tt g
  tidy_tried found o next there rows g (outcomes.HeldBy holder serial) m = tidy_met found o holder serial m.0 m.1 there rows
  tidy_tried found o next there rows g (outcomes.Word word) m = absurd m
  tidy_tried found o next there rows g (outcomes.Ticket ticket) m = absurd m
  tidy_tried found o next there rows g outcomes.Done m = absurd m
  tidy_tried found o next there rows g (outcomes.Again old word) m = absurd m

  tidy_lock : (found : Found) (o : ObjectId) (next : Found → Tree) → HasObject shape o → AreRows found
      → ((words : List ℕ) → AreWords (width o) words → IsTidy shape call (o ∷ objects_of found) ((o, words) ∷ found) None (next ((o, words) ∷ found)))
      → IsTidy shape call (objects_of found) found None (lock by call found o next)
  unfolding lock is_last
  tidy_lock found o next there rows g = (tt, λ out m. goes false refl (tidy_tried found o next there rows g out m))

  -- what follows, once these were found
  abbrev Follow : (Found → Tree) → Type 0
  Follow next = (found : Found) → AreRows found → FreesNone call (objects_of found) → IsTidy shape call (objects_of found) found None (next found)

  taken_some : (o : ObjectId) (words : List ℕ) (found : Found) → FreesNone call (objects_of ((o, words) ∷ found))
  unfolding objects_of
  taken_some o words found e = absurd (cc)

  tidy_locks : (os : List ObjectId) (found : Found) (next : Found → Tree) → AllByRecursion (HasObject shape) os → AreRows found → FreesNone call (objects_of found) → Follow next → IsTidy shape call (objects_of found) found None (lock_all by call os found next)
  unfolding lock_all objects_of
  tidy_locks [] found next there rows frees g = g found rows frees
  tidy_locks (o ∷ os) found next there rows frees g =
      tidy_lock found o (λ more. lock_all by call os more next) there.0 rows
      (λ words w. tidy_locks os ((o, words) ∷ found) next there.1 (record { rows = (w, rows.rows) }) (taken_some o words found) g)

  tidy_plan : (os : List ObjectId) (next : Found → Tree) → AllByRecursion (HasObject shape) os → (os ≡ [] → freed_where_ok call ≡ None) → Follow next → IsTidy shape call [] [] None (lock_plan shape by call os next)
  unfolding lock_plan objects_of
  tidy_plan [] next there none g = g [] (record { rows = tt }) none
  tidy_plan (o ∷ os) next there none g =
      tidy_lock [] o (λ found. lock_all by call (behind_first (plan_of shape by call found)) found next) there.0 (record { rows = tt })
      (λ words w. tidy_locks (behind_first (plan_of shape by call ((o, words) ∷ []))) ((o, words) ∷ []) next
      (behind_there shape (plan_of shape by call ((o, words) ∷ [])) (all_planned shape by call ((o, words) ∷ []) is caller)) (record { rows = (w, tt) }) (taken_some o words []) g)

  -- ---- the call

  tidy_refused : (refusal : Option Reply) (next : Tree) → early shape by.mode call ≡ refusal → (early shape by.mode call ≡ None → IsTidy shape call [] [] None next) → IsTidy shape call [] [] None (unless_refused refusal by call next)
  unfolding unless_refused
  tidy_refused None next e g = g e
  tidy_refused (Some refusal) next e g =
      let refused = early_reply shape by.mode call refusal e in
      draw_tidy (draft_of by call refusal [] None) [] [] (λ out. Over) (record { first = refl; of_call = refl; reply = refused.fits; range = λ d. clash (sym d ∙ refused.refuses) }) (record { rows = tt }) (λ out m. refl)

  pub tidy_call : IsTidy shape call [] [] None (call_tree shape by call)
  unfolding call_tree
  tidy_call = tidy_refused (early shape by.mode call) (lock_plan shape by call (plan_of shape by call []) (decided shape by call)) refl
      (λ ok. tidy_plan (plan_of shape by call []) (decided shape by call) (all_planned shape by call [] is caller) (frees ok) (λ found rows frees. tidy_decided ok found rows frees))
    where
      frees : early shape by.mode call ≡ None → plan_of shape by call [] ≡ [] → freed_where_ok call ≡ None
      frees ok none = frees_tried (state_of shape by.mode []) by.core call (subst (λ m. early (state_of shape by.mode []).shape m call ≡ None) (sym (known_mode shape by.core by.mode [] caller.there)) (subst (λ m. early m by.mode call ≡ None) (sym (known_shape shape by.mode [])) ok)) none
