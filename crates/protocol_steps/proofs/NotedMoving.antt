-- Each permitted move keeps what is noted of refusals at held locks.
use Rattle.std.proofs.Common.{◌≡◌, ◌≢◌, inl, inr, ◌+◌, ◌/◌, ◌%◌, ◌<◌, ◌≤◌, ◌∙◌, ◌==◌, ◌&&◌, if◌then◌else◌, ℕ, suc, true, false, Option, Some, None, List, [], ◌∷◌, ◌++◌, length, ap, sym, refl, subst, arith}
use Rattle.std.specs.Prelude.{IsSomeAnd, Contains}
use Rattle.std.proofs.lemmas.Bool.{cases_eq, cases_Bool, eq-eqb, ne_eqb}
use Rattle.mon_types.specs.Shape.{Shape, is_shape}
use Rattle.mon_types.specs.LimitLaws.{few_cores}
use Rattle.mon_types.specs.Locks.{lock_word}
use Rattle.mon_types.specs.Replies.{is_concurrent}
use Rattle.mon_types.specs.declared.call.Call.{Call}
use Rattle.mon_types.specs.declared.reply.Reply.{Reply}
use Rattle.mon_types.specs.declared.reply.Reply.TheVariants as replies
use Rattle.mon_types.specs.declared.object.ObjectId.{ObjectId}
use Rattle.mon_model.specs.State.{State}
use Rattle.mon_model.specs.Tries.{tries, tried_set}
use Rattle.lock_plan.proofs.Order.{tries_ascend}
use Rattle.mon_records.specs.Members.{In}
use Rattle.mon_records.proofs.Members.{contains_in, in_contains}
use Rattle.hist.specs.declared.event.Entry.{Entry}
use Rattle.hist.specs.declared.event.Why.{Why}
use Rattle.hist.specs.Busy.{own, call_with_serial, UnderWay, Nothing, Taking, Refused, taken_by, TriedUpTo, HasTaken, CallHasTaken, has_tried}
use Rattle.hist_stands.specs.Found.{IsCallNoted, Notes, with_call, Finds, IsOfRefused, Draws}
use Rattle.hist_stands.proofs.Alike.{alike_noted}
use Rattle.hist_stands.proofs.Noting.{notes_taken, notes_refused}
use Rattle.hist_stands.proofs.Drawing.{some_or, find_more, drawn_held, notes_drawn}
use Rattle.loaded_pages.specs.Content.{Content}
use Rattle.protocol.specs.declared.action.Action.{Action}
use Rattle.protocol.specs.declared.action.Action.TheVariants as actions
use Rattle.protocol.specs.declared.action.Draft.{Draft}
use Rattle.protocol.specs.declared.action.Move.{Move}
use Rattle.protocol.specs.declared.action.Move.TheVariants as moves
use Rattle.protocol.specs.declared.action.Outcome.{Outcome}
use Rattle.protocol.specs.declared.action.Outcome.TheVariants as outcomes
use Rattle.protocol.specs.Places.{Counter, Lock, Memory}
use Rattle.protocol.specs.CallTree.{Tree, Over, Makes, Issuer, onto, behind_first}
use Rattle.protocol.specs.Views.{Moves, entry_of, held_by, held_after, held_of, core_log, entries_in, next_serial, answers_of, is_last, call_with, call_moves, is_calling, issuer_of, has_drawn}
use Rattle.protocol.specs.Permitted.{MayGoOn}
use Rattle.protocol.specs.Runs.{Made, moves_with}
use Rattle.protocol_laws.specs.Known.{IsSound}
use Rattle.protocol_laws.specs.Safe.{HasMet, IsRightDraft}
use Rattle.protocol_laws.proofs.Agreeing.{in_onto, onto_in, onto_append}
use Rattle.protocol_laws.proofs.Steps.{IsAtTree, at_met, at_draw}
use Rattle.protocol_steps.specs.Stages.{Stage, Locking, Met, Drawn, Astray, stage_tried, stage_locking, stage_met, stage_by, stage_of, MayMake, Goes}
use Rattle.protocol_steps.proofs.Views.{IsOver, undrawn, each_moves, call_more, issuer_more, call_over, are_none, in_rest}
use Rattle.protocol_steps.proofs.Kept.{AreOnce, Kept}
use Rattle.protocol_steps.proofs.Moving.{at_move, stage_goes, none_drawn}
use Rattle.protocol_steps.proofs.Next.{serial_next}
use Rattle.protocol_steps.proofs.Outside.{issuer_stop}
use Rattle.protocol_steps.proofs.Past.{stage_drawn}
use Rattle.protocol_steps.proofs.CallKept.{AtStage}
use Rattle.protocol_steps.proofs.Together.{Together}
use Rattle.protocol_steps.proofs.Sets.{taken_tried, met_fresh}
use Rattle.protocol_steps.proofs.Noted.{way, ways, FreshAt, EntryAt, Noted, way_like, same_taken, notes_after, IsPlain, plain_noted}

clash : {X : Type 0} → false ≡ true → X
clash e = absurd (cc)

-- stages are apart
pub locking_met : (os ps : List ObjectId) (o : ObjectId) (q n : ℕ) → Locking os ≡ Met o q n ps → ⊥
locking_met os ps o q n e = cc

pub locking_drawn : (os : List ObjectId) (draft : Draft) → Locking os ≡ Drawn draft → ⊥
locking_drawn os draft e = cc

met_drawn : (os : List ObjectId) (o : ObjectId) (q n : ℕ) (draft : Draft) → Met o q n os ≡ Drawn draft → ⊥
met_drawn os o q n draft e = cc

met_same : {os ps : List ObjectId} {o p : ObjectId} {q n a b : ℕ} → Met o q n os ≡ Met p a b ps → (o ≡ p) × (os ≡ ps)
met_same e = (cc, cc)

-- where a lock was met the Draw comes at once, and has tried the first objects of the plan up to it
pub met_right : (shape : Shape) (call : Call) (o : ObjectId) (q n : ℕ) (os : List ObjectId) (by : Issuer) (s : State) (content : Content) (answers : List ℕ) (held : List ObjectId) (m : Memory) (rest : Tree) → Goes shape call (Met o q n os) rest → IsAtTree by call s content answers held m rest → IsSound by.core s content → TriedUpTo o (tries s by.core call) (tried_set (onto (o ∷ os) []))
met_right shape call o q n os by s content answers held m Over goes at sound = absurd goes
met_right shape call o q n os by s content answers held m (Makes (actions.Draw draft) next) goes at sound =
    let right = (at_draw by call answers s content held m draft 0 next at sound).0 in
    let met : TriedUpTo o (tries s by.core draft.call) draft.tried = subst (λ r. HasMet s by.core draft r) goes.0.2 right.met in
    subst (λ c. TriedUpTo o (tries s by.core c) (tried_set (onto (o ∷ os) []))) goes.0.0 (subst (λ t. TriedUpTo o (tries s by.core draft.call) t) goes.0.1 met)
met_right shape call o q n os by s content answers held m (Makes (actions.TryLock p) next) goes at sound = absurd goes.0
met_right shape call o q n os by s content answers held m (Makes (actions.Read p i) next) goes at sound = absurd goes.0
met_right shape call o q n os by s content answers held m (Makes (actions.Write p i word) next) goes at sound = absurd goes.0
met_right shape call o q n os by s content answers held m (Makes (actions.Unlock p) next) goes at sound = absurd goes.0
met_right shape call o q n os by s content answers held m (Makes (actions.Load i) next) goes at sound = absurd goes.0
met_right shape call o q n os by s content answers held m (Makes (actions.Store i word) next) goes at sound = absurd goes.0

-- what a lock word says of its holder
holder_is : (q n : ℕ) → q < 16 → lock_word q n / 2 % 16 ≡ q
holder_is q n lt = omega arith

serial_is : (q n : ℕ) → q < 16 → lock_word q n / 32 ≡ n
serial_is q n lt = omega arith

-- a move that takes nothing, finds nothing and draws nothing leaves the stage
abbrev pub IsSilent : Action → Type 0
IsSilent (actions.TryLock o) = ⊥
IsSilent (actions.Read o i) = Unit {0}
IsSilent (actions.Write o i word) = Unit {0}
IsSilent (actions.Draw draft) = ⊥
IsSilent (actions.Unlock o) = Unit {0}
IsSilent (actions.Load i) = Unit {0}
IsSilent (actions.Store i word) = Unit {0}

silent_locking : (shape : Shape) (call : Call) (os : List ObjectId) (a : Action) (out : Outcome) → IsSilent a → MayMake shape call (Locking os) a → stage_locking os a out ≡ Locking os
unfolding stage_locking
silent_locking shape call os (actions.TryLock o) out silent may = absurd silent
silent_locking shape call os (actions.Read o i) out silent may = refl
silent_locking shape call os (actions.Write o i word) out silent may = refl
silent_locking shape call os (actions.Draw draft) out silent may = absurd silent
silent_locking shape call os (actions.Unlock o) out silent may = absurd may
silent_locking shape call os (actions.Load i) out silent may = refl
silent_locking shape call os (actions.Store i word) out silent may = refl

silent_met : (shape : Shape) (call : Call) (lock : ObjectId) (q n : ℕ) (os : List ObjectId) (a : Action) → IsSilent a → MayMake shape call (Met lock q n os) a → ⊥
silent_met shape call lock q n os (actions.TryLock o) silent may = silent
silent_met shape call lock q n os (actions.Read o i) silent may = may
silent_met shape call lock q n os (actions.Write o i word) silent may = may
silent_met shape call lock q n os (actions.Draw draft) silent may = silent
silent_met shape call lock q n os (actions.Unlock o) silent may = may
silent_met shape call lock q n os (actions.Load i) silent may = may
silent_met shape call lock q n os (actions.Store i word) silent may = may

silent_stage : (shape : Shape) (call : Call) (stage : Stage) (a : Action) (out : Outcome) → IsSilent a → MayMake shape call stage a → stage_by stage a out ≡ stage
unfolding stage_by
silent_stage shape call (Locking os) a out silent may = silent_locking shape call os a out silent may
silent_stage shape call (Met lock q n os) a out silent may = absurd (silent_met shape call lock q n os a silent may)
silent_stage shape call (Drawn draft) a out silent may = refl
silent_stage shape call Astray a out silent may = refl

module _ (shape : Shape) (is : is_shape shape ≡ true) (memory : Memory) (moved : ℕ → Moves) (h : List Entry) (s : State) (content : Content) (all : Together shape memory moved h s content) (noted : Noted shape moved h) (core : ℕ) (lt : core < shape.cores) where
  kept : Kept shape memory moved h s content
  kept = all.kept

  -- ---- without a ticket

  -- the notes of all, and what is known of this core, are enough
  still : (move : Move) (out : Outcome) → ((doing : ℕ → Call) → Notes shape h (ways doing (λ q. moves_with q (record { core = core; move = move; outcome = out }) (moved q)))) → FreshAt ((move, out) ∷ moved core) → EntryAt h core ((move, out) ∷ moved core) → Noted shape (λ q. moves_with q (record { core = core; move = move; outcome = out }) (moved q)) h
  still move out notes fresh entry = record {
    notes = notes;
    fresh = λ q lq. each_moves (λ q ms. q < shape.cores → FreshAt ms) moved (record { core = core; move = move; outcome = out }) (λ l. fresh) (λ q ne l. noted.fresh q l) q lq;
    entry = λ q lq. each_moves (λ q ms. q < shape.cores → EntryAt h q ms) moved (record { core = core; move = move; outcome = out }) (λ l. entry) (λ q ne l. noted.entry q l) q lq;
  }

  -- the stage stays
  same_stage : (move : Move) (out : Outcome) → stage_of (call_moves ((move, out) ∷ moved core)) ≡ stage_of (call_moves (moved core)) → ((o : ObjectId) → In o (held_of ((move, out) ∷ moved core)) → In o (held_of (moved core))) →
      ((draft : Draft) → stage_of (call_moves (moved core)) ≡ Drawn draft → (issuer_of core ((move, out) ∷ moved core)).serial ≡ (issuer_of core (moved core)).serial) → Noted shape (λ q. moves_with q (record { core = core; move = move; outcome = out }) (moved q)) h
  same_stage move out same held serial =
      let made : Made = record { core = core; move = move; outcome = out } in
      still move out
      (λ doing. alike_noted shape h (ways doing moved) (ways doing (λ q. moves_with q made (moved q)))
      (λ q. each_moves (λ q ms. ways doing moved q ≡ way (doing q) (stage_of (call_moves ms))) moved made (ap (way (doing core)) (sym same)) (λ q ne. refl) q) (noted.notes doing))
      (λ o q n os e. noted.fresh core lt o q n os (sym same ∙ e))
      (λ draft e o k. subst (λ z. IsSomeAnd (call_with_serial h core z) (HasTaken o)) (sym (serial draft (sym same ∙ e))) (noted.entry core lt draft (sym same ∙ e) o (held o k)))

  stage_on : (a : Action) (out : Outcome) → is_last a (held_by a out (held_of (moved core))) ≡ false → stage_of (call_moves ((moves.InCall a, out) ∷ moved core)) ≡ stage_by (stage_of (call_moves (moved core))) a out
  unfolding stage_of
  stage_on a out on = ap stage_of (call_more core a out (moved core) on)

  pub note_silent : (a : Action) (out : Outcome) → MayGoOn shape core (moved core) a → IsSilent a → is_last a (held_by a out (held_of (moved core))) ≡ false → ((o : ObjectId) → In o (held_of ((moves.InCall a, out) ∷ moved core)) → In o (held_of (moved core))) → Noted shape (λ q. moves_with q (record { core = core; move = moves.InCall a; outcome = out }) (moved q)) h
  note_silent a out p silent on held = same_stage (moves.InCall a) out
      (stage_on a out on ∙ silent_stage shape p.call (stage_of (call_moves (moved core))) a out silent (stage_goes shape is memory moved h s content kept core lt a p).0)
      held (λ draft e. ap (λ z. z.serial) (issuer_more core a out (moved core) on))

  -- no call is under way before and after
  pub note_outside : (move : Move) (out : Outcome) → call_moves (moved core) ≡ [] → call_moves ((move, out) ∷ moved core) ≡ [] → ((o : ObjectId) → In o (held_of ((move, out) ∷ moved core)) → In o (held_of (moved core))) → Noted shape (λ q. moves_with q (record { core = core; move = move; outcome = out }) (moved q)) h
  unfolding stage_of
  note_outside move out before after held = same_stage move out (ap stage_of (after ∙ sym before)) held
      (λ draft e. absurd (locking_drawn [] draft (sym (ap stage_of before) ∙ e)))

  pub note_stop : (line : ℕ) (why : Why) → Noted shape (λ q. moves_with q (record { core = core; move = moves.Stop line why; outcome = outcomes.Done }) (moved q)) h
  unfolding stage_of held_of held_after call_moves call_with
  note_stop line why = same_stage (moves.Stop line why) outcomes.Done refl (λ o k. k)
      (λ draft e. elim (cases_Bool (is_calling (moved core))) [
        | inl t ↦ ap (λ z. z.serial) (issuer_stop shape is memory moved h s content kept core lt line why outcomes.Done t)
        | inr f ↦ absurd (locking_drawn [] draft (sym (ap stage_of (are_none (call_moves (moved core)) f)) ∙ e))
      ])

  -- it leads to no call under way, or to a Draw
  plain_after : (move : Move) (out : Outcome) (h1 : List Entry) (before : ℕ → Call) (stage : Stage) → stage_of (call_moves ((move, out) ∷ moved core)) ≡ stage → IsPlain stage → taken_by (way (before core) stage) ≡ [] → Notes shape h1 (with_call (ways before moved) core Nothing) → (doing : ℕ → Call) → Notes shape h1 (ways doing (λ q. moves_with q (record { core = core; move = move; outcome = out }) (moved q)))
  plain_after move out h1 before stage e plain none notes doing =
      let made : Made = record { core = core; move = move; outcome = out } in
      notes_after shape moved made h1 before doing Nothing notes
      (taken (before core) (doing core) stage none ∙ ap (λ z. taken_by (way (doing core) z)) (sym e))
      (λ l. subst (λ z. IsCallNoted shape h1 (ways doing (λ q. moves_with q made (moved q))) core (way (doing core) z)) (sym e) (plain_noted shape h1 (ways doing (λ q. moves_with q made (moved q))) core (doing core) stage plain))
    where
      taken : (a b : Call) (stage : Stage) → taken_by (way a stage) ≡ [] → [] ≡ taken_by (way b stage)
      taken a b (Locking os) n = sym n
      taken a b (Met o q n os) none = sym none
      taken a b (Drawn draft) n = refl
      taken a b Astray n = refl

  -- what the core has, where it has its ticket
  nothing_now : (doing : ℕ → Call) (draft : Draft) → stage_of (call_moves (moved core)) ≡ Drawn draft → Notes shape h (with_call (ways doing moved) core Nothing)
  nothing_now doing draft e = alike_noted shape h (ways doing moved) (with_call (ways doing moved) core Nothing)
      (λ q. elim (cases_eq core q) [
        | inl same ↦ ap (λ z. ways doing moved z) (sym same) ∙ ap (way (doing core)) e ∙ sym (ap (λ b. if b then Nothing else ways doing moved q) (eq-eqb core q same))
        | inr ne ↦ sym (ap (λ b. if b then Nothing else ways doing moved q) (ne_eqb core q ne))
      ]) (noted.notes doing)

  unlock_over : (o : ObjectId) → is_last (actions.Unlock o) (behind_first (held_of (moved core))) ≡ true → (call : Call) (stage : Stage) → stage_of (call_moves (moved core)) ≡ stage → MayMake shape call stage (actions.Unlock o) → Noted shape (λ q. moves_with q (record { core = core; move = moves.InCall (actions.Unlock o); outcome = outcomes.Done }) (moved q)) h
  unfolding stage_of held_by onto
  unlock_over o last call (Locking os) e may = absurd may
  unlock_over o last call (Met lock q n os) e may = absurd may
  unlock_over o last call (Drawn draft) e may =
      let none : stage_of (call_moves ((moves.InCall (actions.Unlock o), outcomes.Done) ∷ moved core)) ≡ Locking [] = ap stage_of (call_over core (actions.Unlock o) outcomes.Done (moved core) last) in
      still (moves.InCall (actions.Unlock o)) outcomes.Done
      (λ doing. plain_after (moves.InCall (actions.Unlock o)) outcomes.Done h doing (Locking []) none tt refl (nothing_now doing draft e) doing)
      (λ p q n os f. absurd (locking_met [] os p q n (sym none ∙ f)))
      (λ other f p k. absurd (locking_drawn [] other (sym none ∙ f)))
  unlock_over o last call Astray e may = absurd may

  pub note_unlock : (o : ObjectId) → MayGoOn shape core (moved core) (actions.Unlock o) → Noted shape (λ q. moves_with q (record { core = core; move = moves.InCall (actions.Unlock o); outcome = outcomes.Done }) (moved q)) h
  unfolding held_of held_after held_by
  note_unlock o p = elim (cases_Bool (is_last (actions.Unlock o) (behind_first (held_of (moved core))))) [
    | inl last ↦ unlock_over o last p.call (stage_of (call_moves (moved core))) refl (stage_goes shape is memory moved h s content kept core lt (actions.Unlock o) p).0
    | inr on ↦ note_silent (actions.Unlock o) outcomes.Done p tt on (in_rest (held_of (moved core)))
  ]

  -- ---- a lock is taken

  taken_by_stage : (o : ObjectId) (call : Call) (stage : Stage) → stage_of (call_moves (moved core)) ≡ stage → stage_of (call_moves ((moves.InCall (actions.TryLock o), outcomes.Taken) ∷ moved core)) ≡ stage_by stage (actions.TryLock o) outcomes.Taken → MayMake shape call stage (actions.TryLock o) → Noted shape (λ q. moves_with q (record { core = core; move = moves.InCall (actions.TryLock o); outcome = outcomes.Taken }) (moved q)) h
  unfolding stage_by stage_locking stage_tried onto
  taken_by_stage o call (Locking os) e f may =
      let made : Made = record { core = core; move = moves.InCall (actions.TryLock o); outcome = outcomes.Taken } in
      still (moves.InCall (actions.TryLock o)) outcomes.Taken
      (λ doing. notes_after shape moved made h doing doing (Taking (taken_by (ways doing moved core) ++ o ∷ [])) (notes_taken shape h (ways doing moved) (noted.notes doing) core o)
      (ap (λ z. taken_by (way (doing core) z) ++ o ∷ []) e ∙ sym (onto_append os (o ∷ [])) ∙ ap (λ z. taken_by (way (doing core) z)) (sym f))
      (λ l. subst (λ z. IsCallNoted shape h (ways doing (λ q. moves_with q made (moved q))) core (way (doing core) z)) (sym f) tt))
      (λ p q n ps g. absurd (locking_met (o ∷ os) ps p q n (sym f ∙ g)))
      (λ draft g p k. absurd (locking_drawn (o ∷ os) draft (sym f ∙ g)))
  taken_by_stage o call (Met lock q n os) e f may = absurd may
  taken_by_stage o call (Drawn draft) e f may = absurd may
  taken_by_stage o call Astray e f may = absurd may

  pub note_taken : (o : ObjectId) → MayGoOn shape core (moved core) (actions.TryLock o) → Noted shape (λ q. moves_with q (record { core = core; move = moves.InCall (actions.TryLock o); outcome = outcomes.Taken }) (moved q)) h
  unfolding is_last
  note_taken o p = taken_by_stage o p.call (stage_of (call_moves (moved core))) refl (stage_on (actions.TryLock o) outcomes.Taken refl) (stage_goes shape is memory moved h s content kept core lt (actions.TryLock o) p).0

  -- ---- a lock is found held

  -- the entries of a core, as its moves and the history have them
  own_count : (q : ℕ) → q < shape.cores → next_serial q (moved q) ≡ length (own q h)
  own_count q lq = ap length (kept.stands.mine q lq)

  -- what is known of the holder's call
  record HolderKnown (doing : ℕ → Call) (q : ℕ) (o : ObjectId) : Type 0 where
    begun : (issuer_of q (moved q)).serial ≤ length (own q h)
    under_way : length (own q h) ≤ (issuer_of q (moved q)).serial + 1
    held : CallHasTaken h (ways doing moved) q (issuer_of q (moved q)).serial o

  undrawn_at : (q : ℕ) (stage : Stage) → stage_of (call_moves (moved q)) ≡ stage → (IsOver stage → ⊥) → has_drawn (call_moves (moved q)) ≡ false
  undrawn_at q stage e n = undrawn (call_moves (moved q)) (λ over. n (subst IsOver e over))

  alive : (doing : ℕ → Call) (q : ℕ) (lq : q < shape.cores) (o : ObjectId) (os : List ObjectId) → has_drawn (call_moves (moved q)) ≡ false → os ≡ held_of (moved q) → taken_by (ways doing moved q) ≡ onto os [] → In o (held_of (moved q)) → HolderKnown doing q o
  alive doing q lq o os none has taken k =
      let count = serial_next q (moved q) none in
      let long = own_count q lq in
      record {
        begun = omega (arith, count, long);
        under_way = omega (arith, count, long);
        held = inr (count ∙ long, subst (λ (z : List ObjectId). Contains z o) (sym taken) (in_contains (onto os []) o (in_onto os [] o (inl (subst (In o) (sym has) k)))));
      }

  holder_by : (doing : ℕ → Call) (q : ℕ) (lq : q < shape.cores) (o : ObjectId) → In o (held_of (moved q)) → (stage : Stage) → stage_of (call_moves (moved q)) ≡ stage → AtStage shape s content memory (held_of (moved q)) (call_moves (moved q)) (entries_in q (moved q)) stage → HolderKnown doing q o
  holder_by doing q lq o k (Locking os) e at = alive doing q lq o os (undrawn_at q (Locking os) e (λ x. x)) at.taken_is (ap (λ z. taken_by (way (doing q) z)) e) k
  holder_by doing q lq o k (Met lock r n os) e at = alive doing q lq o os (undrawn_at q (Met lock r n os) e (λ x. x)) at.taken_is (ap (λ z. taken_by (way (doing q) z)) e) k
  holder_by doing q lq o k (Drawn draft) e at =
      let count : suc (issuer_of q (moved q)).serial ≡ next_serial q (moved q) = (kept.cores q lq).counted (stage_drawn (call_moves (moved q)) draft e) in
      let long = own_count q lq in
      record {
        begun = omega (arith, count, long);
        under_way = omega (arith, count, long);
        held = inl (noted.entry q lq draft e o k);
      }
  holder_by doing q lq o k Astray e at = absurd at

  found_at : (doing : ℕ → Call) (o : ObjectId) (word : ℕ) → memory (Lock o) ≡ suc word → (In o (held_of (moved core)) → ⊥) → Finds shape h (ways doing moved) core o (suc word / 2 % 16) (suc word / 32)
  found_at doing o word e fresh = elim (kept.locked o) [
    | inl free ↦ absurd (omega (arith, e, free))
    | inr x ↦
        let q : ℕ = x.0 in
        let few : q < 16 = (let most = few_cores shape is in let small = x.1 in omega (arith, most, small)) in
        let n : ℕ = (issuer_of q (moved q)).serial in
        let is_word : suc word ≡ lock_word q n = sym e ∙ (kept.cores q x.1).mine o x.2 in
        let known = holder_by doing q x.1 o x.2 (stage_of (call_moves (moved q))) refl (all.more q x.1).at_stage in
        subst (λ z. Finds shape h (ways doing moved) core o (z / 2 % 16) (z / 32)) (sym is_word)
        (subst (λ z. Finds shape h (ways doing moved) core o z (lock_word q n / 32)) (sym (holder_is q n few))
        (subst (λ z. Finds shape h (ways doing moved) core o q z) (sym (serial_is q n few))
        (record {
          is_core = x.1;
          other = λ same. fresh (subst (λ z. In o (held_of (moved z))) same x.2);
          begun = known.begun;
          under_way = known.under_way;
          held = known.held;
        })))
  ]

  -- the lock is none that the call has taken
  fresh_lock : (o : ObjectId) (holder serial : ℕ) (p : MayGoOn shape core (moved core) (actions.TryLock o)) (os : List ObjectId) → os ≡ held_of (moved core) → Goes shape p.call (Met o holder serial os) (p.next (outcomes.HeldBy holder serial)) → In o os → ⊥
  unfolding issuer_of onto
  fresh_lock o holder serial p os has goes k =
      let by : Issuer = issuer_of core (moved core) in
      let at = at_met by p.call (answers_of (moved core)) s content (held_of (moved core)) memory o p.next holder serial (at_move shape is memory moved h s content kept core lt (actions.TryLock o) p) in
      let up = met_right shape p.call o holder serial os by s content (answers_of (moved core)) (held_of (moved core)) memory (p.next (outcomes.HeldBy holder serial)) goes at (kept.sound core lt) in
      met_fresh os (tries s core p.call) up.before up.behind o (subst AreOnce (sym has) (kept.cores core lt).once) (tries_ascend s core p.call (kept.sound core lt).tables.machine (kept.sound core lt).caller).ascending up.planned_are
      (ap tried_set (sym (onto_append os (o ∷ []))) ∙ up.tried_are) k

  met_by_stage : (o : ObjectId) (word : ℕ) (p : MayGoOn shape core (moved core) (actions.TryLock o)) → memory (Lock o) ≡ suc word → (stage : Stage) → stage_of (call_moves (moved core)) ≡ stage → stage_of (call_moves ((moves.InCall (actions.TryLock o), outcomes.HeldBy (suc word / 2 % 16) (suc word / 32)) ∷ moved core)) ≡ stage_by stage (actions.TryLock o) (outcomes.HeldBy (suc word / 2 % 16) (suc word / 32)) →
      MayMake shape p.call stage (actions.TryLock o) → Goes shape p.call (stage_by stage (actions.TryLock o) (outcomes.HeldBy (suc word / 2 % 16) (suc word / 32))) (p.next (outcomes.HeldBy (suc word / 2 % 16) (suc word / 32))) → AtStage shape s content memory (held_of (moved core)) (call_moves (moved core)) (entries_in core (moved core)) stage →
      Noted shape (λ q. moves_with q (record { core = core; move = moves.InCall (actions.TryLock o); outcome = outcomes.HeldBy (suc word / 2 % 16) (suc word / 32) }) (moved q)) h
  unfolding stage_by stage_locking stage_tried
  met_by_stage o word p is_word (Locking os) e f may goes at =
      let holder : ℕ = suc word / 2 % 16 in
      let serial : ℕ = suc word / 32 in
      let out : Outcome = outcomes.HeldBy holder serial in
      let made : Made = record { core = core; move = moves.InCall (actions.TryLock o); outcome = out } in
      let fresh : In o os → ⊥ = fresh_lock o holder serial p os at.taken_is goes in
      let fresh_held : In o (held_of (moved core)) → ⊥ = λ k. fresh (subst (In o) (sym at.taken_is) k) in
      still (moves.InCall (actions.TryLock o)) out
      (λ doing.
      let now : ℕ → UnderWay = ways doing moved in
      let way1 : UnderWay = Refused (doing core) (taken_by (now core)) o holder serial in
      let src : Notes shape h (with_call now core way1) = notes_refused shape h (λ core. core_log core (moved core)) kept.stands now (noted.notes doing) core lt (doing core) o holder serial (found_at doing o word is_word fresh_held) in
      let is_way : way1 ≡ way (doing core) (Met o holder serial os) = ap (λ z. Refused (doing core) (taken_by (way (doing core) z)) o holder serial) e in
      let taken : taken_by way1 ≡ taken_by (way (doing core) (stage_of (call_moves ((moves.InCall (actions.TryLock o), out) ∷ moved core)))) = ap taken_by is_way ∙ ap (λ z. taken_by (way (doing core) z)) (sym f) in
      notes_after shape moved made h doing doing way1 src taken
      (λ l. subst (λ z. IsCallNoted shape h (ways doing (λ q. moves_with q made (moved q))) core (way (doing core) z)) (sym f)
      (way_like shape h (with_call now core way1) (ways doing (λ q. moves_with q made (moved q))) (same_taken shape moved made h doing doing way1 taken) core (doing core) (doing core) (Met o holder serial os)
      (subst (IsCallNoted shape h (with_call now core way1) core) (ap (λ b. if b then way1 else now core) (eq-eqb core core refl) ∙ is_way) (src.calls core lt)))))
      (λ x q n ps g. λ k. let same = met_same (sym f ∙ g) in fresh (subst (λ z. In z os) (sym same.0) (subst (In x) (sym same.1) k)))
      (λ draft g x k. absurd (met_drawn os o holder serial draft (sym f ∙ g)))
  met_by_stage o word p is_word (Met lock q n os) e f may goes at = absurd may
  met_by_stage o word p is_word (Drawn draft) e f may goes at = absurd may
  met_by_stage o word p is_word Astray e f may goes at = absurd may

  pub note_met : (o : ObjectId) (word : ℕ) → memory (Lock o) ≡ suc word → MayGoOn shape core (moved core) (actions.TryLock o) → Noted shape (λ q. moves_with q (record { core = core; move = moves.InCall (actions.TryLock o); outcome = outcomes.HeldBy (suc word / 2 % 16) (suc word / 32) }) (moved q)) h
  unfolding is_last
  note_met o word e p =
      let goes = stage_goes shape is memory moved h s content kept core lt (actions.TryLock o) p in
      met_by_stage o word p e (stage_of (call_moves (moved core))) refl (stage_on (actions.TryLock o) (outcomes.HeldBy (suc word / 2 % 16) (suc word / 32)) refl) goes.0 (goes.2 (outcomes.HeldBy (suc word / 2 % 16) (suc word / 32))) (all.more core lt).at_stage

  -- ---- a ticket

  module _ (draft : Draft) (p : MayGoOn shape core (moved core) (actions.Draw draft)) where
    right : IsRightDraft (issuer_of core (moved core)) p.call s (answers_of (moved core)) draft (suc (memory Counter))
    unfolding issuer_of
    right = (at_draw (issuer_of core (moved core)) p.call (answers_of (moved core)) s content (held_of (moved core)) memory draft (suc (memory Counter)) p.next (at_move shape is memory moved h s content kept core lt (actions.Draw draft) p) (kept.sound core lt)).0

    serial_own : (issuer_of core (moved core)).serial ≡ length (own core h)
    serial_own = serial_next core (moved core) (none_drawn shape is memory moved h s content kept core lt draft p) ∙ own_count core lt

    not_met : (reply : Reply) (lock : ObjectId) (q n : ℕ) → is_concurrent reply ≡ false → reply ≢ replies.ConcurrentCall lock q n
    not_met reply lock q n plain e = clash (sym plain ∙ ap is_concurrent e)

    lock_same : {a b : ObjectId} {i j k l : ℕ} → replies.ConcurrentCall a i j ≡ replies.ConcurrentCall b k l → a ≡ b
    lock_same f = cc

    in_taken : (os : List ObjectId) (lock : ObjectId) → Contains (onto os []) lock → In lock os
    in_taken os lock c = elim (onto_in os [] lock (contains_in (onto os []) lock c)) [ inl k ↦ k | inr k ↦ absurd k ]

    -- each object that it has taken
    took_by : (stage : Stage) → stage_of (call_moves (moved core)) ≡ stage → MayMake shape p.call stage (actions.Draw draft) → AtStage shape s content memory (held_of (moved core)) (call_moves (moved core)) (entries_in core (moved core)) stage → (lock : ObjectId) → Contains (taken_by (way p.call stage)) lock → HasTaken lock (entry_of core draft (suc (memory Counter)))
    took_by (Locking os) f may at lock c = record {
      tried = ap (λ t. has_tried t lock) may.1 ∙ taken_tried os lock (subst AreOnce (sym at.taken_is) (kept.cores core lt).once) (in_taken os lock c);
      another = λ q n. not_met draft.reply lock q n may.2;
    }
    took_by (Met o holder serial os) f may at lock c =
        let fresh : In o os → ⊥ = noted.fresh core lt o holder serial os f in
        record {
          tried = ap (λ t. has_tried t lock) may.1 ∙ taken_tried (o ∷ os) lock (fresh, subst AreOnce (sym at.taken_is) (kept.cores core lt).once) (inr (in_taken os lock c));
          another = λ q n g. fresh (subst (λ z. In z os) (lock_same (sym g ∙ may.2)) (in_taken os lock c));
        }
    took_by (Drawn other) f may at lock c = absurd may
    took_by Astray f may at lock c = absurd may

    plain_refused : (reply : Reply) (under : UnderWay) → is_concurrent reply ≡ false → IsOfRefused shape h under (entry_of core draft (suc (memory Counter))) reply
    plain_refused (replies.ConcurrentCall lock q n) under plain = absurd (cc)
    plain_refused _ under plain = tt

    -- a refusal is of the lock that it has met
    refused_by : (stage : Stage) → MayMake shape p.call stage (actions.Draw draft) → IsOfRefused shape h (way p.call stage) (entry_of core draft (suc (memory Counter))) draft.reply
    unfolding issuer_of
    refused_by (Locking os) may = plain_refused draft.reply (Taking (onto os [])) may.2
    refused_by (Met o holder serial os) may =
        subst (λ r. IsOfRefused shape h (Refused p.call (onto os []) o holder serial) (entry_of core draft (suc (memory Counter))) r) (sym may.2) (
          onto os [],
          ap (λ c. Refused c (onto os []) o holder serial) (sym may.0),
          subst (λ z. TriedUpTo o (tries z core draft.call) draft.tried) (sym kept.now) (subst (λ r. HasMet s core draft r) may.2 right.met),
        )
    refused_by (Drawn other) may = absurd may
    refused_by Astray may = absurd may

    may_draw : MayMake shape p.call (stage_of (call_moves (moved core))) (actions.Draw draft)
    may_draw = (stage_goes shape is memory moved h s content kept core lt (actions.Draw draft) p).0

    draws : Draws shape h (ways (λ c. p.call) moved) (entry_of core draft (suc (memory Counter)))
    draws = record {
      of_core = lt;
      ticket = (let count = kept.counter in omega (arith, count));
      serial = right.next ∙ serial_own;
      took = took_by (stage_of (call_moves (moved core))) refl may_draw (all.more core lt).at_stage;
      refused = refused_by (stage_of (call_moves (moved core))) may_draw;
    }

    notes1 : Notes shape (h ++ entry_of core draft (suc (memory Counter)) ∷ []) (with_call (ways (λ c. p.call) moved) core Nothing)
    notes1 = notes_drawn shape h (λ core. core_log core (moved core)) kept.stands (ways (λ c. p.call) moved) (entry_of core draft (suc (memory Counter))) draws (noted.notes (λ c. p.call))

    -- the other cores' entries
    entry_other : (q : ℕ) → EntryAt h q (moved q) → EntryAt (h ++ entry_of core draft (suc (memory Counter)) ∷ []) q (moved q)
    entry_other q before other f o k =
        let serial : ℕ = (issuer_of q (moved q)).serial in
        let x : Entry = entry_of core draft (suc (memory Counter)) in
        subst (λ (y : Option Entry). IsSomeAnd y (HasTaken o)) (sym (find_more shape h (λ core. core_log core (moved core)) kept.stands (ways (λ c. p.call) moved) x draws q serial))
        (some_or (call_with_serial h q serial) (if x.core == q && x.serial == serial then Some x else None) (HasTaken o) (before other f o k))

    -- what it has taken is what it holds
    taken_held : (stage : Stage) → MayMake shape p.call stage (actions.Draw draft) → AtStage shape s content memory (held_of (moved core)) (call_moves (moved core)) (entries_in core (moved core)) stage → (o : ObjectId) → In o (held_of (moved core)) → Contains (taken_by (way p.call stage)) o
    taken_held (Locking os) may at o k = in_contains (onto os []) o (in_onto os [] o (inl (subst (In o) (sym at.taken_is) k)))
    taken_held (Met lock holder serial os) may at o k = in_contains (onto os []) o (in_onto os [] o (inl (subst (In o) (sym at.taken_is) k)))
    taken_held (Drawn other) may at o k = absurd may
    taken_held Astray may at o k = absurd may

    entry_own : (o : ObjectId) → In o (held_of (moved core)) → IsSomeAnd (call_with_serial (h ++ entry_of core draft (suc (memory Counter)) ∷ []) core (issuer_of core (moved core)).serial) (HasTaken o)
    entry_own o k = subst (λ z. IsSomeAnd (call_with_serial (h ++ entry_of core draft (suc (memory Counter)) ∷ []) core z) (HasTaken o)) (sym serial_own)
        (drawn_held shape h (λ core. core_log core (moved core)) kept.stands (ways (λ c. p.call) moved) (entry_of core draft (suc (memory Counter))) draws core o lt refl
        (taken_held (stage_of (call_moves (moved core))) may_draw (all.more core lt).at_stage o k))

    drawn_stage : (stage : Stage) → MayMake shape p.call stage (actions.Draw draft) → stage_by stage (actions.Draw draft) (outcomes.Ticket (suc (memory Counter))) ≡ Drawn draft
    unfolding stage_by stage_locking stage_met
    drawn_stage (Locking os) may = refl
    drawn_stage (Met lock holder serial os) may = refl
    drawn_stage (Drawn other) may = absurd may
    drawn_stage Astray may = absurd may

    noted_with : (stage : Stage) → stage_of (call_moves ((moves.InCall (actions.Draw draft), outcomes.Ticket (suc (memory Counter))) ∷ moved core)) ≡ stage → IsPlain stage → ((call : Call) → taken_by (way call stage) ≡ []) → EntryAt (h ++ entry_of core draft (suc (memory Counter)) ∷ []) core ((moves.InCall (actions.Draw draft), outcomes.Ticket (suc (memory Counter))) ∷ moved core) →
        Noted shape (λ q. moves_with q (record { core = core; move = moves.InCall (actions.Draw draft); outcome = outcomes.Ticket (suc (memory Counter)) }) (moved q)) (h ++ entry_of core draft (suc (memory Counter)) ∷ [])
    noted_with stage f plain none entry =
        let ticket : Outcome = outcomes.Ticket (suc (memory Counter)) in
        let made : Made = record { core = core; move = moves.InCall (actions.Draw draft); outcome = ticket } in
        record {
          notes = plain_after (moves.InCall (actions.Draw draft)) ticket (h ++ entry_of core draft (suc (memory Counter)) ∷ []) (λ c. p.call) stage f plain (none p.call) notes1;
          fresh = λ q lq. each_moves (λ q ms. q < shape.cores → FreshAt ms) moved made (λ l o holder serial os g k. not_plain stage plain o holder serial os (sym f ∙ g)) (λ q ne l. noted.fresh q l) q lq;
          entry = λ q lq. each_moves (λ q ms. q < shape.cores → EntryAt (h ++ entry_of core draft (suc (memory Counter)) ∷ []) q ms) moved made (λ l. entry) (λ q ne l. entry_other q (noted.entry q l)) q lq;
        }
      where
        not_plain : (stage : Stage) → IsPlain stage → (o : ObjectId) (q n : ℕ) (os : List ObjectId) → stage ≡ Met o q n os → ⊥
        not_plain stage plain o q n os g = subst IsPlain g plain

    pub note_draw : Noted shape (λ q. moves_with q (record { core = core; move = moves.InCall (actions.Draw draft); outcome = outcomes.Ticket (suc (memory Counter)) }) (moved q)) (h ++ entry_of core draft (suc (memory Counter)) ∷ [])
    unfolding held_of held_after held_by stage_of onto
    note_draw = elim (cases_Bool (is_last (actions.Draw draft) (held_of (moved core)))) [
      | inl last ↦
          let none = ap stage_of (call_over core (actions.Draw draft) (outcomes.Ticket (suc (memory Counter))) (moved core) last) in
          noted_with (Locking []) none tt (λ call. refl) (λ other f o k. absurd (locking_drawn [] other (sym none ∙ f)))
      | inr on ↦
          let there = stage_on (actions.Draw draft) (outcomes.Ticket (suc (memory Counter))) on ∙ drawn_stage (stage_of (call_moves (moved core))) may_draw in
          noted_with (Drawn draft) there tt (λ call. refl)
          (λ other f o k. subst (λ z. IsSomeAnd (call_with_serial (h ++ entry_of core draft (suc (memory Counter)) ∷ []) core z) (HasTaken o)) (sym (ap (λ z. z.serial) (issuer_more core (actions.Draw draft) (outcomes.Ticket (suc (memory Counter))) (moved core) on))) (entry_own o k))
    ]
