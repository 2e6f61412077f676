-- What holds of the words, of each core's moves and of the history so far, as one record that each permitted move keeps.
use Rattle.std.proofs.Common.{◌≡◌, ◌⊎◌, ◌*◌, ◌<◌, ◌≤◌, ◌^◌, ◌∙◌, ℕ, suc, Bool, true, false, cond, List, [], ◌∷◌, ◌++◌, length, ap, sym, refl, subst, append-nil, arith}
use Rattle.std.proofs.lemmas.Bool.{eq-eqb, ne_eqb}
use Rattle.mon_types.specs.Shape.{Shape, is_shape}
use Rattle.mon_types.specs.LimitLaws.{few_cores}
use Rattle.mon_types.specs.Locks.{lock_word}
use Rattle.mon_types.specs.Replies.{is_done, is_concurrent}
use Rattle.mon_types.specs.declared.call.Call.{Call}
use Rattle.mon_types.specs.declared.reply.Reply.{Reply}
use Rattle.mon_types.specs.declared.reply.Reply.TheVariants as replies
use Rattle.mon_types.specs.declared.object.ObjectId.{ObjectId}
use Rattle.mon_model.specs.State.{State, mode_of}
use Rattle.mon_model.specs.Step.{reply_of, after}
use Rattle.lock_plan.specs.Objects.{HasObject}
use Rattle.mon_records.specs.Ranges.{IsCall}
use Rattle.mon_records.specs.Members.{In}
use Rattle.hist.specs.declared.event.Entry.{Entry}
use Rattle.hist.specs.declared.event.Event.{Event}
use Rattle.hist.specs.History.{entries_of, digest_of, after_entry, after_entries}
use Rattle.hist.specs.SafeLog.{mode_after}
use Rattle.hist_stands.specs.States.{state_now}
use Rattle.hist_stands.specs.Stands.{Stands, with_event}
use Rattle.hist_stands.proofs.Alike.{alike_stands}
use Rattle.hist_stands.proofs.Counts.{few_tickets}
use Rattle.hist_stands.proofs.Knowing.{known_now}
use Rattle.loaded_pages.specs.Content.{Content, content_by, content_after}
use Rattle.loaded_pages.specs.History.{words_read}
use Rattle.protocol.specs.declared.action.Action.{Action}
use Rattle.protocol.specs.declared.action.Draft.{Draft}
use Rattle.protocol.specs.declared.action.Outcome.{Outcome}
use Rattle.protocol.specs.Places.{Counter, Lock, Memory}
use Rattle.protocol.specs.CallTree.{Tree, Issuer, call_tree}
use Rattle.protocol.specs.Views.{Moves, held_of, logged, core_log, entries_in, next_serial, mode_in, answers_of, call_moves, issuer_of, has_drawn, own_lock_word}
use Rattle.protocol.specs.Permitted.{Follows, most_entries}
use Rattle.protocol.specs.Runs.{Made, moves_with}
use Rattle.protocol_laws.specs.Known.{IsSound, RowStands, WordsStand, OwnedAreTrue, LooksSame}
use Rattle.protocol_laws.specs.Safe.{drawn_state, drawn_content, IsRightDraft, Issues, Safe}
use Rattle.protocol_laws.proofs.Sounds.{stays_sound}
use Rattle.protocol_laws.proofs.Calls.{calls_safe}
use Rattle.protocol_laws.proofs.Frame.{AreApart}
use Rattle.protocol_laws.proofs.Steps.{IsAtTree, true_agree, at_now, at_others}
use Rattle.protocol_steps.proofs.Views.{none_held, before_none, each_moves}

-- no object stands twice
abbrev pub AreOnce : List ObjectId → Type 0
AreOnce [] = Unit {0}
AreOnce (o ∷ os) = (In o os → ⊥) × AreOnce os

-- One core: the objects that it holds are of the machine, none stands twice, and their lock words name its call under
-- way; own-words of theirs that read Owned are true; a call that has its ticket has one entry; and whatever call its moves
-- follow, that call may go on.
pub record CoreKept (shape : Shape) (s : State) (content : Content) (memory : Memory) (core : ℕ) (ms : Moves) : Type 0 where
  pub mine : (o : ObjectId) → In o (held_of ms) → memory (Lock o) ≡ own_lock_word core ms
  pub once : AreOnce (held_of ms)
  pub there : (o : ObjectId) → In o (held_of ms) → HasObject shape o
  pub true_words : OwnedAreTrue s (held_of ms) memory
  pub counted : has_drawn (call_moves ms) ≡ true → suc (issuer_of core ms).serial ≡ next_serial core ms
  pub at_tree : (call : Call) (rest : Tree) → Follows (call_tree shape (issuer_of core ms) call) (call_moves ms) rest
      → IsAtTree (issuer_of core ms) call s content (answers_of ms) (held_of ms) memory rest

-- All: s is the state after the history h, and content what the monitor answers for; the counter has the tickets drawn;
-- the logs stand; rows and words of objects with no lock word are those of s and of the content; a lock word has a holder.
pub record Kept (shape : Shape) (memory : Memory) (moved : ℕ → Moves) (h : List Entry) (s : State) (content : Content) : Type 0 where
  pub now : state_now shape h ≡ s
  pub shaped : s.shape ≡ shape
  pub counter : memory Counter ≡ length h
  pub stands : Stands shape h (λ core. core_log core (moved core))
  pub few : (core : ℕ) → core < shape.cores → length (entries_in core (moved core)) ≤ most_entries
  pub sound : (core : ℕ) → core < shape.cores → IsSound core s content
  pub locked : (o : ObjectId) → (memory (Lock o) ≡ 0) ⊎ ((core : ℕ) × (core < shape.cores) × In o (held_of (moved core)))
  pub rows : (o : ObjectId) → memory (Lock o) ≡ 0 → RowStands o s memory
  pub words : (o : ObjectId) → memory (Lock o) ≡ 0 → WordsStand o s content memory
  pub cores : (core : ℕ) → core < shape.cores → CoreKept shape s content memory core (moved core)

-- ---- one core

-- another core moves
pub core_frame : (shape : Shape) (core : ℕ) (ms : Moves) (s t : State) (f g : Content) (l m : Memory) → CoreKept shape s f l core ms → LooksSame core s f (held_of ms) l t g m → ((o : ObjectId) → In o (held_of ms) → m (Lock o) ≡ l (Lock o)) → CoreKept shape t g m core ms
unfolding issuer_of
core_frame shape core ms s t f g l m kept looks locks = record {
  mine = λ o h. locks o h ∙ kept.mine o h;
  once = kept.once;
  there = kept.there;
  true_words = true_agree core s t f g (held_of ms) l m looks kept.true_words;
  counted = kept.counted;
  at_tree = λ call rest follows. at_others (issuer_of core ms) call (answers_of ms) s t f g (held_of ms) l m rest (kept.at_tree call rest follows) looks;
}

undrawn_none : (ms : List (Action × Outcome)) → ms ≡ [] → has_drawn ms ≡ true → ⊥
unfolding has_drawn
undrawn_none ms e d = clash (sym (ap has_drawn e) ∙ d)
  where
    clash : false ≡ true → ⊥
    clash f = cc

-- no call is under way: each call may begin
pub core_idle : (shape : Shape) (core : ℕ) (ms : Moves) (s : State) (content : Content) (memory : Memory) → call_moves ms ≡ [] → IsSound core s content → s.shape ≡ shape → mode_in core ms ≡ mode_of s core → CoreKept shape s content memory core ms
unfolding issuer_of
core_idle shape core ms s content memory none sound shaped mode =
    let held : held_of ms ≡ [] = none_held ms none in
    let by : Issuer = issuer_of core ms in
    record {
      mine = λ o h. absurd (subst (In o) held h);
      once = subst AreOnce (sym held) tt;
      there = λ o h. absurd (subst (In o) held h);
      true_words = λ r h e. absurd (subst (In _) held h);
      counted = λ d. absurd (undrawn_none (call_moves ms) none d);
      at_tree = λ call rest follows.
          (let begun : call_tree shape (issuer_of core ms) call ≡ rest = subst (λ z. Follows (call_tree shape (issuer_of core ms) call) z rest) none follows in
          let issues : Issues (issuer_of core ms) s (answers_of ms) = record { mode = ap (λ z. mode_in core z) (before_none ms none) ∙ mode; heard = ap (λ z. length (answers_of z)) (before_none ms none) } in
          let safe : Safe (issuer_of core ms) call s content (answers_of ms) [] memory (call_tree shape (issuer_of core ms) call) = subst (λ z. Safe (issuer_of core ms) call s content (answers_of ms) [] memory (call_tree z (issuer_of core ms) call)) shaped (calls_safe (issuer_of core ms) call s content (answers_of ms) memory sound issues) in
          subst (λ z. IsAtTree (issuer_of core ms) call s content (answers_of ms) z memory rest) (sym held)
          (at_now (issuer_of core ms) call (answers_of ms) s content [] memory rest (subst (λ z. Safe (issuer_of core ms) call s content (answers_of ms) [] memory z) begun safe)));
    }

-- ---- states and logs

pub after_more : (s : State) (h : List Entry) (e : Entry) → after_entries s (h ++ e ∷ []) ≡ after_entry (after_entries s h) e
after_more s [] e = refl
after_more s (x ∷ h) e = after_more (after_entry s x) h e

-- for whom a core runs by its log is its mode in the state
pub mode_told : (shape : Shape) (h : List Entry) (log : ℕ → List Event) (core : ℕ) → Stands shape h log → core < shape.cores → mode_after (entries_of (log core)) ≡ mode_of (state_now shape h) core
mode_told shape h log core stands lt =
    ap mode_after (stands.mine core lt) ∙ sym ((known_now shape h stands.legal).modes core lt)

module _ (moved : ℕ → Moves) (made : Made) where
  -- a move that logs nothing
  pub logs_still : logged made.core (core_log made.core (moved made.core)) made.move made.outcome ≡ [] → (q : ℕ) → core_log q (moved q) ≡ core_log q (moves_with q made (moved q))
  unfolding core_log
  logs_still none q = each_moves (λ q ms. core_log q (moved q) ≡ core_log q ms) moved made
      (sym (ap (λ (es : List Event). core_log made.core (moved made.core) ++ es) none ∙ append-nil (core_log made.core (moved made.core))))
      (λ q ne. refl) q

  -- one that logs an event
  pub logs_more : (event : Event) → logged made.core (core_log made.core (moved made.core)) made.move made.outcome ≡ event ∷ [] → (q : ℕ) → with_event (λ core. core_log core (moved core)) made.core event q ≡ core_log q (moves_with q made (moved q))
  unfolding core_log
  logs_more event one q = each_moves (λ q ms. with_event (λ core. core_log core (moved core)) made.core event q ≡ core_log q ms) moved made
      (ap (λ b. cond b (core_log made.core (moved made.core) ++ event ∷ []) (core_log made.core (moved made.core))) (eq-eqb made.core made.core refl)
      ∙ ap (λ (es : List Event). core_log made.core (moved made.core) ++ es) (sym one))
      (λ q ne. ap (λ b. cond b (core_log q (moved q) ++ event ∷ []) (core_log q (moved q))) (ne_eqb made.core q ne)) q

-- ---- a sound state after a Draw

pub concurrent_not_done : (reply : Reply) → is_concurrent reply ≡ true → is_done reply ≡ false
concurrent_not_done (replies.ConcurrentCall lock holder serial) e = refl
concurrent_not_done _ e = absurd (cc)

pub drawn_sound : (q core : ℕ) (s : State) (content : Content) (by : Issuer) (call : Call) (answers : List ℕ) (draft : Draft) (ticket : ℕ) → by.core ≡ core → IsSound q s content → IsSound core s content → IsRightDraft by call s answers draft ticket → IsCall call → ticket < 2 ^ 32 → IsSound q (drawn_state core s draft ticket) (drawn_content s draft answers content)
unfolding drawn_state drawn_content content_after
drawn_sound q core s content by call answers draft ticket is sound issuer right is_call small = with_reply (is_concurrent draft.reply) refl
  where
    words : List ℕ
    words = words_read draft.page answers

    with_reply : (b : Bool) → is_concurrent draft.reply ≡ b → IsSound q (cond b s (after s core draft.call (digest_of draft.page) ticket)) (cond (is_done draft.reply) (content_by s draft.call words content) content)
    with_reply true e = subst (λ b. IsSound q s (cond b (content_by s draft.call words content) content)) (sym (concurrent_not_done draft.reply e)) sound
    with_reply false e =
        let reply : draft.reply ≡ reply_of s core draft.call = right.legal.reply e ∙ ap (λ z. reply_of s z draft.call) is in
        subst (λ b. IsSound q (after s core draft.call (digest_of draft.page) ticket) (cond b (content_by s draft.call words content) content)) (sym (ap is_done reply))
        (stays_sound q core s content draft.call words (digest_of draft.page) ticket sound issuer (subst IsCall (sym right.of_call) is_call) small)

-- ---- all cores

module _ (shape : Shape) (is : is_shape shape ≡ true) (memory : Memory) (moved : ℕ → Moves) (h : List Entry) (s : State) (content : Content) (kept : Kept shape memory moved h s content) where
  -- no two cores hold one object
  pub held_apart : (c q : ℕ) → c < shape.cores → q < shape.cores → (c ≡ q → ⊥) → AreApart (held_of (moved c)) (held_of (moved q))
  held_apart c q lc lq ne o hc hq =
      let few = few_cores shape is in
      ne (same c q (issuer_of c (moved c)).serial (issuer_of q (moved q)).serial (omega (arith, few)) (omega (arith, few)) (sym ((kept.cores c lc).mine o hc) ∙ (kept.cores q lq).mine o hq))
    where
      same : (c q a b : ℕ) → c < 16 → q < 16 → lock_word c a ≡ lock_word q b → c ≡ q
      same c q a b l k e = omega arith

  -- what is held has its lock word
  pub not_free : (c : ℕ) → c < shape.cores → (o : ObjectId) → memory (Lock o) ≡ 0 → In o (held_of (moved c)) → ⊥
  not_free c lt o e hc = positive c (issuer_of c (moved c)).serial (sym ((kept.cores c lt).mine o hc) ∙ e)
    where
      positive : (c a : ℕ) → lock_word c a ≡ 0 → ⊥
      positive c a f = omega arith

  -- tickets are far below 2 ^ 32
  pub low_ticket : suc (length h) < 2 ^ 32
  low_ticket = low shape.cores (length h) (few_cores shape is) (few_tickets shape h (λ core. core_log core (moved core)) kept.stands 16384 kept.few)
    where
      low : (n k : ℕ) → n ≤ 16 → k ≤ n * 16384 → suc k < 2 ^ 32
      low n k l f = omega arith

  pub log_mode : (core : ℕ) → core < shape.cores → mode_in core (moved core) ≡ mode_of s core
  log_mode core lt = mode_told shape h (λ core. core_log core (moved core)) core kept.stands lt ∙ ap (λ z. mode_of z core) kept.now

  -- logs that say the same
  pub stands_still : (made : Made) → logged made.core (core_log made.core (moved made.core)) made.move made.outcome ≡ [] → Stands shape h (λ q. core_log q (moves_with q made (moved q)))
  stands_still made none = alike_stands shape h (λ core. core_log core (moved core)) (λ q. core_log q (moves_with q made (moved q))) (λ q lt. logs_still moved made none q) kept.stands
