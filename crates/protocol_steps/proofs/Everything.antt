-- All that is kept, with what is noted: of whatever a list of permitted moves leads to. The logs are busy as they should be.
use Rattle.std.proofs.Common.{◌≡◌, ◌⊎◌, inl, inr, ◌<◌, ◌≤◌, ◌∙◌, ℕ, zero, suc, Bool, true, false, cond, List, [], ◌∷◌, ◌++◌, ap, sym, refl, subst}
use Rattle.std.proofs.lemmas.Bool.{cases_lt, cases_Bool}
use Rattle.mon_types.specs.Shape.{Shape, is_shape}
use Rattle.mon_types.specs.declared.call.Call.{Call}
use Rattle.mon_types.specs.declared.object.ObjectId.{ObjectId}
use Rattle.mon_model.specs.State.{State, start}
use Rattle.mon_model.specs.Tries.{tries, tried_set}
use Rattle.hist.specs.declared.event.Entry.{Entry}
use Rattle.hist.specs.Busy.{UnderWay, Nothing, Taking, Refused, taken_by, TriedUpTo, Busy}
use Rattle.hist_stands.specs.Found.{IsCallNoted, Notes, IsPlanned}
use Rattle.hist_stands.proofs.Busied.{all_busy}
use Rattle.loaded_pages.specs.Content.{Content, zero_content}
use Rattle.protocol.specs.declared.action.Action.{Action}
use Rattle.protocol.specs.declared.action.Action.TheVariants as actions
use Rattle.protocol.specs.declared.action.Move.{Move}
use Rattle.protocol.specs.declared.action.Move.TheVariants as moves
use Rattle.protocol.specs.declared.action.Outcome.{Outcome}
use Rattle.protocol.specs.declared.action.Outcome.TheVariants as outcomes
use Rattle.protocol.specs.Places.{Lock, Row, Dram, Memory, Place, HasWord}
use Rattle.protocol.specs.CallTree.{onto}
use Rattle.protocol.specs.Moves.{action_place, place_of, word_found, try_outcome, action_outcome, outcome_of, memory_after_move}
use Rattle.protocol.specs.Views.{Moves, held_by, held_after, held_of, core_log, entries_in, answers_of, is_last, call_moves, call_with, is_calling, issuer_of, has_drawn, own_lock_word}
use Rattle.protocol.specs.Permitted.{Permitted, MayGoOn}
use Rattle.protocol.specs.Runs.{Made, moves_with, moves_of, memory_after, IsRun}
use Rattle.protocol.specs.Worlds.{logs}
use Rattle.protocol.specs.Logs.{under_way_after, under_way_by, under_way, AreDoing, LogsAreSafe}
use Rattle.protocol_laws.proofs.Agreeing.{onto_append}
use Rattle.protocol_steps.specs.Stages.{Stage, Locking, Met, Drawn, Astray, stage_tried, stage_locking, stage_met, stage_by, stage_of, Goes}
use Rattle.protocol_steps.proofs.Views.{are_none, IsOver, drawn_over}
use Rattle.protocol_steps.proofs.Moving.{draft_in, history_by, state_by, content_drawn}
use Rattle.protocol_steps.proofs.Goes.{goes_now}
use Rattle.protocol_steps.proofs.Past.{IsUndrawn, stage_undrawn}
use Rattle.protocol_steps.proofs.CallKept.{AtStage}
use Rattle.protocol_steps.proofs.Items.{logs_safe}
use Rattle.protocol_steps.proofs.Together.{Together, keep_together, together_start}
use Rattle.protocol_steps.proofs.Noted.{way, ways, Noted, way_like, notes_like}
use Rattle.protocol_steps.proofs.NotedMoving.{locking_met, locking_drawn, met_right, note_silent, note_outside, note_stop, note_unlock, note_taken, note_met, note_draw}

-- all that is kept, and the notes
pub record Everything (shape : Shape) (memory : Memory) (moved : ℕ → Moves) (h : List Entry) (s : State) (content : Content) : Type 0 where
  pub all : Together shape memory moved h s content
  pub noted : Noted shape moved h

-- ---- one move

module _ (shape : Shape) (is : is_shape shape ≡ true) (memory : Memory) (moved : ℕ → Moves) (h : List Entry) (s : State) (content : Content) (all : Together shape memory moved h s content) (noted : Noted shape moved h) (core : ℕ) (lt : core < shape.cores) where
  note_try : (o : ObjectId) → MayGoOn shape core (moved core) (actions.TryLock o) → (word : ℕ) → memory (Lock o) ≡ word → Noted shape (λ q. moves_with q (record { core = core; move = moves.InCall (actions.TryLock o); outcome = try_outcome word }) (moved q)) h
  unfolding try_outcome
  note_try o p zero e = note_taken shape is memory moved h s content all noted core lt o p
  note_try o p (suc word) e = note_met shape is memory moved h s content all noted core lt o word e p

  note_move : (move : Move) → Permitted shape core (moved core) move → Noted shape (λ q. moves_with q (record { core = core; move = move; outcome = outcome_of move (word_found memory (place_of move)) }) (moved q)) (history_by core (draft_in move) (outcome_of move (word_found memory (place_of move))) h)
  unfolding outcome_of action_outcome place_of action_place word_found draft_in history_by held_of held_after held_by is_last call_moves call_with
  note_move (moves.InCall (actions.TryLock o)) p = note_try o p (memory (Lock o)) refl
  note_move (moves.InCall (actions.Read o i)) p = note_silent shape is memory moved h s content all noted core lt (actions.Read o i) (outcomes.Word (memory (Row o i))) p tt refl (λ q k. k)
  note_move (moves.InCall (actions.Write o i word)) p = note_silent shape is memory moved h s content all noted core lt (actions.Write o i word) outcomes.Done p tt refl (λ q k. k)
  note_move (moves.InCall (actions.Draw draft)) p = note_draw shape is memory moved h s content all noted core lt draft p
  note_move (moves.InCall (actions.Unlock o)) p = note_unlock shape is memory moved h s content all noted core lt o p
  note_move (moves.InCall (actions.Load i)) p = note_silent shape is memory moved h s content all noted core lt (actions.Load i) (outcomes.Word (memory (Dram i))) p tt refl (λ q k. k)
  note_move (moves.InCall (actions.Store i word)) p = note_silent shape is memory moved h s content all noted core lt (actions.Store i word) outcomes.Done p tt refl (λ q k. k)
  note_move (moves.Look r owner) p = note_outside shape is memory moved h s content all noted core lt (moves.Look r owner) _ p.outside p.outside (λ q k. k)
  note_move (moves.Load i) p = note_outside shape is memory moved h s content all noted core lt (moves.Load i) _ p.outside p.outside (λ q k. k)
  note_move (moves.Store i word) p = note_outside shape is memory moved h s content all noted core lt (moves.Store i word) _ p.outside p.outside (λ q k. k)
  note_move (moves.Swap i old word) p = note_outside shape is memory moved h s content all noted core lt (moves.Swap i old word) _ p.outside p.outside (λ q k. k)
  note_move (moves.Stop line why) p = note_stop shape is memory moved h s content all noted core lt line why

pub keep_everything : (shape : Shape) → is_shape shape ≡ true → (memory : Memory) (moved : ℕ → Moves) (h : List Entry) (s : State) (content : Content) → Everything shape memory moved h s content → (core : ℕ) → core < shape.cores → (move : Move) → Permitted shape core (moved core) move → (out : Outcome) → out ≡ outcome_of move (word_found memory (place_of move)) →
    Everything shape (memory_after_move (own_lock_word core (moved core)) memory move) (λ q. moves_with q (record { core = core; move = move; outcome = out }) (moved q)) (history_by core (draft_in move) out h) (state_by core (draft_in move) out s) (content_drawn (draft_in move) (answers_of (moved core)) s content)
keep_everything shape is memory moved h s content every core lt move p out e = record {
  all = keep_together shape is memory moved h s content every.all core lt move p out e;
  noted = subst (λ z. Noted shape (λ q. moves_with q (record { core = core; move = move; outcome = z }) (moved q)) (history_by core (draft_in move) z h)) (sym e)
      (note_move shape is memory moved h s content every.all every.noted core lt move p);
}

-- ---- every list of moves

noted_start : (shape : Shape) → Noted shape (λ core. []) []
unfolding call_moves stage_of
noted_start shape = record {
  notes = λ doing. record { entries = tt; calls = λ core lt. tt };
  fresh = λ core lt o q n os e. absurd (locking_met [] os o q n e);
  entry = λ core lt draft e. absurd (locking_drawn [] draft e);
}

pub record Reached (shape : Shape) (dram : List ℕ) (run : List Made) : Type 0 where
  pub h : List Entry
  pub state : State
  pub content : Content
  pub every : Everything shape (memory_after shape dram run) (λ core. moves_of core run) h state content

pub reached : (shape : Shape) → is_shape shape ≡ true → (dram : List ℕ) (run : List Made) → IsRun shape dram run → Reached shape dram run
unfolding memory_after moves_of
reached shape is dram [] runs = record { h = []; state = start shape; content = zero_content; every = record { all = together_start shape is dram; noted = noted_start shape } }
reached shape is dram (made ∷ run) runs =
    let before = reached shape is dram run runs.1 in
    record {
      h = history_by made.core (draft_in made.move) made.outcome before.h;
      state = state_by made.core (draft_in made.move) made.outcome before.state;
      content = content_drawn (draft_in made.move) (answers_of (moves_of made.core run)) before.state before.content;
      every = keep_everything shape is (memory_after shape dram run) (λ core. moves_of core run) before.h before.state before.content before.every made.core runs.0.core made.move runs.0.permitted made.outcome runs.0.outcome;
    }

-- ---- what each core has under way

-- after one more move, by its stage
abbrev UnderFor : Call → List ObjectId → Stage → UnderWay → Type 0
UnderFor call taken (Locking os) u = u ≡ Taking taken
UnderFor call taken (Met lock holder serial os) u = u ≡ Refused call taken lock holder serial
UnderFor call taken (Drawn draft) u = Unit {0}
UnderFor call taken Astray u = Unit {0}

under_tried : (call : Call) (taken os : List ObjectId) (o : ObjectId) (out : Outcome) → UnderFor call taken (stage_tried os o out) (under_way_after call taken (actions.TryLock o) out)
unfolding stage_tried under_way_after
under_tried call taken os o outcomes.Taken = refl
under_tried call taken os o (outcomes.HeldBy holder serial) = refl
under_tried call taken os o (outcomes.Word word) = tt
under_tried call taken os o (outcomes.Ticket ticket) = tt
under_tried call taken os o outcomes.Done = tt
under_tried call taken os o (outcomes.Again old found) = tt

under_locking : (call : Call) (taken os : List ObjectId) (a : Action) (out : Outcome) → UnderFor call taken (stage_locking os a out) (under_way_after call taken a out)
unfolding stage_locking under_way_after
under_locking call taken os (actions.TryLock o) out = under_tried call taken os o out
under_locking call taken os (actions.Read o i) out = refl
under_locking call taken os (actions.Write o i word) out = refl
under_locking call taken os (actions.Draw draft) out = tt
under_locking call taken os (actions.Unlock o) out = tt
under_locking call taken os (actions.Load i) out = refl
under_locking call taken os (actions.Store i word) out = refl

under_met : (call : Call) (taken : List ObjectId) (a : Action) (u : UnderWay) → UnderFor call taken (stage_met a) u
unfolding stage_met
under_met call taken (actions.TryLock o) u = tt
under_met call taken (actions.Read o i) u = tt
under_met call taken (actions.Write o i word) u = tt
under_met call taken (actions.Draw draft) u = tt
under_met call taken (actions.Unlock o) u = tt
under_met call taken (actions.Load i) u = tt
under_met call taken (actions.Store i word) u = tt

under_after : (call : Call) (taken : List ObjectId) (stage : Stage) (a : Action) (out : Outcome) → UnderFor call taken (stage_by stage a out) (under_way_after call taken a out)
unfolding stage_by
under_after call taken (Locking os) a out = under_locking call taken os a out
under_after call taken (Met lock holder serial os) a out = under_met call taken a (under_way_after call taken a out)
under_after call taken (Drawn draft) a out = tt
under_after call taken Astray a out = tt

-- it is what the stage says, or there is nothing to say
data UnderIs (call : Call) (stage : Stage) (u : UnderWay) : Type 0 where
  Same : u ≡ way call stage → UnderIs call stage u
  Idle : u ≡ Nothing → taken_by (way call stage) ≡ [] → UnderIs call stage u

under_way_is : (call : Call) (held : List ObjectId) (stage : Stage) (u : UnderWay) → ((os : List ObjectId) → stage ≡ Locking os → os ≡ held) → ((o : ObjectId) (q n : ℕ) (os : List ObjectId) → stage ≡ Met o q n os → os ≡ held) → IsUndrawn stage → (stage ≡ Astray → ⊥) → UnderFor call (onto held []) stage u → UnderIs call stage u
under_way_is call held (Locking os) u has met undrawn there for_stage = Same (for_stage ∙ ap (λ z. Taking (onto z [])) (sym (has os refl)))
under_way_is call held (Met lock holder serial os) u has met undrawn there for_stage = Same (for_stage ∙ ap (λ z. Refused call (onto z []) lock holder serial) (sym (met lock holder serial os refl)))
under_way_is call held (Drawn draft) u has met undrawn there for_stage = absurd undrawn
under_way_is call held Astray u has met undrawn there for_stage = absurd (there refl)

taken_locking : (shape : Shape) (s : State) (content : Content) (memory : Memory) (held : List ObjectId) (done : List (Action × Outcome)) (entries : List Entry) (stage : Stage) → AtStage shape s content memory held done entries stage → (os : List ObjectId) → stage ≡ Locking os → os ≡ held
taken_locking shape s content memory held done entries (Locking ps) at os e = sym (same e) ∙ at.taken_is
  where
    same : Locking ps ≡ Locking os → ps ≡ os
    same f = cc
taken_locking shape s content memory held done entries (Met lock holder serial ps) at os e = absurd (cc)
taken_locking shape s content memory held done entries (Drawn draft) at os e = absurd (cc)
taken_locking shape s content memory held done entries Astray at os e = absurd at

taken_met : (shape : Shape) (s : State) (content : Content) (memory : Memory) (held : List ObjectId) (done : List (Action × Outcome)) (entries : List Entry) (stage : Stage) → AtStage shape s content memory held done entries stage → (o : ObjectId) (q n : ℕ) (os : List ObjectId) → stage ≡ Met o q n os → os ≡ held
taken_met shape s content memory held done entries (Locking ps) at o q n os e = absurd (cc)
taken_met shape s content memory held done entries (Met lock holder serial ps) at o q n os e = sym (same e) ∙ at.taken_is
  where
    same : Met lock holder serial ps ≡ Met o q n os → ps ≡ os
    same f = cc
taken_met shape s content memory held done entries (Drawn draft) at o q n os e = absurd (cc)
taken_met shape s content memory held done entries Astray at o q n os e = absurd at

never_astray : (shape : Shape) (s : State) (content : Content) (memory : Memory) (held : List ObjectId) (done : List (Action × Outcome)) (entries : List Entry) (stage : Stage) → AtStage shape s content memory held done entries stage → stage ≡ Astray → ⊥
never_astray shape s content memory held done entries (Locking ps) at e = cc
never_astray shape s content memory held done entries (Met lock holder serial ps) at e = cc
never_astray shape s content memory held done entries (Drawn draft) at e = cc
never_astray shape s content memory held done entries Astray at e = at

drawn_nothing : (shape : Shape) (s : State) (content : Content) (memory : Memory) (held : List ObjectId) (done : List (Action × Outcome)) (entries : List Entry) (call : Call) (stage : Stage) → AtStage shape s content memory held done entries stage → IsOver stage → Nothing ≡ way call stage
drawn_nothing shape s content memory held done entries call (Locking ps) at over = absurd over
drawn_nothing shape s content memory held done entries call (Met lock holder serial ps) at over = absurd over
drawn_nothing shape s content memory held done entries call (Drawn draft) at over = refl
drawn_nothing shape s content memory held done entries call Astray at over = refl

under_moves : (call : Call) (held : List ObjectId) (ms : List (Action × Outcome)) → (ms ≡ []) ⊎ UnderFor call (onto held []) (stage_of ms) (under_way_by call (onto held []) ms)
unfolding stage_of under_way_by
under_moves call held [] = inl refl
under_moves call held (m ∷ ms) = inr (under_after call (onto held []) (stage_of ms) m.0 m.1)

-- a call that has met a lock is under way
met_calling : (ms : Moves) (o : ObjectId) (q n : ℕ) (os : List ObjectId) → stage_of (call_moves ms) ≡ Met o q n os → is_calling ms ≡ true
unfolding stage_of
met_calling ms o q n os e = elim (cases_Bool (is_calling ms)) [
  | inl t ↦ t
  | inr f ↦ absurd (locking_met [] os o q n (sym (ap stage_of (are_none (call_moves ms) f)) ∙ e))
]

-- ---- the logs

module _ (shape : Shape) (is : is_shape shape ≡ true) (memory : Memory) (moved : ℕ → Moves) (h : List Entry) (s : State) (content : Content) (every : Everything shape memory moved h s content) (outside : (core : ℕ) → shape.cores ≤ core → moved core ≡ []) where
  all : Together shape memory moved h s content
  all = every.all

  under_none : (call : Call) (ms : Moves) → call_moves ms ≡ [] → UnderIs call (stage_of (call_moves ms)) (under_way call ms)
  unfolding under_way under_way_by has_drawn stage_of onto
  under_none call ms none = Idle
      (ap (λ (z : List (Action × Outcome)). cond (has_drawn z) Nothing (under_way_by call (onto (held_of ms) []) z)) none)
      (ap (λ (z : List (Action × Outcome)). taken_by (way call (stage_of z))) none)

  under_by : (core : ℕ) → core < shape.cores → (call : Call) (b : Bool) → has_drawn (call_moves (moved core)) ≡ b → UnderIs call (stage_of (call_moves (moved core))) (under_way call (moved core))
  unfolding under_way
  under_by core lt call true d =
      Same (ap (λ b. cond b Nothing (under_way_by call (onto (held_of (moved core)) []) (call_moves (moved core)))) d
      ∙ drawn_nothing shape s content memory (held_of (moved core)) (call_moves (moved core)) (entries_in core (moved core)) call (stage_of (call_moves (moved core))) (all.more core lt).at_stage (drawn_over (call_moves (moved core)) d))
  under_by core lt call false d =
      let at = (all.more core lt).at_stage in
      elim (under_moves call (held_of (moved core)) (call_moves (moved core))) [
        | inl none ↦ under_none call (moved core) none
        | inr for_stage ↦ under_way_is call (held_of (moved core)) (stage_of (call_moves (moved core))) (under_way call (moved core))
            (taken_locking shape s content memory (held_of (moved core)) (call_moves (moved core)) (entries_in core (moved core)) (stage_of (call_moves (moved core))) at)
            (taken_met shape s content memory (held_of (moved core)) (call_moves (moved core)) (entries_in core (moved core)) (stage_of (call_moves (moved core))) at)
            (stage_undrawn (call_moves (moved core)) d)
            (never_astray shape s content memory (held_of (moved core)) (call_moves (moved core)) (entries_in core (moved core)) (stage_of (call_moves (moved core))) at)
            (subst (λ b. UnderFor call (onto (held_of (moved core)) []) (stage_of (call_moves (moved core))) (cond b Nothing (under_way_by call (onto (held_of (moved core)) []) (call_moves (moved core))))) (sym d) for_stage)
      ]

  under_all : (core : ℕ) (call : Call) → UnderIs call (stage_of (call_moves (moved core))) (under_way call (moved core))
  unfolding call_moves
  under_all core call = elim (cases_lt core shape.cores) [
    | inl lt ↦ under_by core lt call (has_drawn (call_moves (moved core))) refl
    | inr le ↦ under_none call (moved core) (ap call_moves (outside core le))
  ]

  under_taken : (call : Call) (stage : Stage) (u : UnderWay) → UnderIs call stage u → taken_by (way call stage) ≡ taken_by u
  under_taken call stage u (Same e) = ap taken_by (sym e)
  under_taken call stage u (Idle e none) = none ∙ ap taken_by (sym e)

  module _ (doing : ℕ → Call) where
    now : ℕ → UnderWay
    now core = under_way (doing core) (moved core)

    same : (core : ℕ) → taken_by (ways doing moved core) ≡ taken_by (now core)
    unfolding now
    same core = under_taken (doing core) (stage_of (call_moves (moved core))) (under_way (doing core) (moved core)) (under_all core (doing core))

    call_noted : (core : ℕ) (call : Call) (stage : Stage) (u : UnderWay) → UnderIs call stage u → IsCallNoted shape h (ways doing moved) core (way call stage) → IsCallNoted shape h now core u
    call_noted core call stage u (Same e) noted = subst (IsCallNoted shape h now core) (sym e) (way_like shape h (ways doing moved) now same core call call stage noted)
    call_noted core call stage u (Idle e none) noted = subst (IsCallNoted shape h now core) (sym e) tt

    notes_now : Notes shape h now
    unfolding now
    notes_now = notes_like shape h (ways doing moved) now same (every.noted.notes doing)
        (λ core lt. call_noted core (doing core) (stage_of (call_moves (moved core))) (under_way (doing core) (moved core)) (under_all core (doing core)) ((every.noted.notes doing).calls core lt))

    -- a call that has met a lock has tried the first objects of the plan
    module _ (m : Memory) (are : AreDoing shape (record { memory = m; moves = moved }) doing) (core : ℕ) (lt : core < shape.cores) where
      met_up : (lock : ObjectId) (holder serial : ℕ) (os : List ObjectId) → stage_of (call_moves (moved core)) ≡ Met lock holder serial os → TriedUpTo lock (tries s core (doing core)) (tried_set (onto (lock ∷ os) []))
      unfolding issuer_of
      met_up lock holder serial os e =
          let doing_is = are core lt (met_calling (moved core) lock holder serial os e) in
          met_right shape (doing core) lock holder serial os (issuer_of core (moved core)) s content (answers_of (moved core)) (held_of (moved core)) memory doing_is.0
          (subst (λ z. Goes shape (doing core) z doing_is.0) e (goes_now shape (issuer_of core (moved core)) (doing core) (call_moves (moved core)) doing_is.0 doing_is.1.follows))
          ((all.kept.cores core lt).at_tree (doing core) doing_is.0 doing_is.1.follows) (all.kept.sound core lt)

      planned_way : (stage : Stage) → stage_of (call_moves (moved core)) ≡ stage → IsPlanned shape h core (way (doing core) stage)
      unfolding onto
      planned_way (Locking os) e = tt
      planned_way (Met lock holder serial os) e =
          subst (λ z. TriedUpTo lock (tries z core (doing core)) (tried_set (onto os [] ++ lock ∷ []))) (sym all.kept.now)
          (subst (λ (z : List ObjectId). TriedUpTo lock (tries s core (doing core)) (tried_set z)) (onto_append os (lock ∷ [])) (met_up lock holder serial os e))
      planned_way (Drawn draft) e = tt
      planned_way Astray e = tt

      planned : (u : UnderWay) → UnderIs (doing core) (stage_of (call_moves (moved core))) u → IsPlanned shape h core u
      planned u (Same e) = subst (IsPlanned shape h core) (sym e) (planned_way (stage_of (call_moves (moved core))) refl)
      planned u (Idle e none) = subst (IsPlanned shape h core) (sym e) tt

    logs_busy : (m : Memory) → AreDoing shape (record { memory = m; moves = moved }) doing → Busy shape (logs shape (record { memory = m; moves = moved })) (λ core. under_way (doing core) (moved core))
    unfolding now
    logs_busy m are = all_busy shape h (λ core. core_log core (moved core)) all.kept.stands (λ core. under_way (doing core) (moved core)) notes_now
        (λ core lt. planned m are core lt (under_way (doing core) (moved core)) (under_all core (doing core)))

  pub item_10 : (m : Memory) → ((p : Place) → HasWord shape p → m p ≡ memory p) → LogsAreSafe shape (record { memory = m; moves = moved })
  item_10 m same_at = record {
    safe = logs_safe shape is memory moved h s content all.kept m same_at;
    busy = λ doing are. logs_busy doing m are;
  }
