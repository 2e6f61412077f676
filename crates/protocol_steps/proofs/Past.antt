-- What a call that has its ticket has still to do: each word that it holds is as it is to be, or will be written or stored
-- so; and what a call's moves tell of the call.
use Rattle.std.proofs.Common.{◌≡◌, ◌⊎◌, inl, inr, ◌<◌, ◌∙◌, ℕ, true, false, Some, List, [], ◌∷◌, ap, sym, refl, subst}
use Rattle.std.proofs.lemmas.Bool.{cases_eq, cases_Bool}
use Rattle.mon_types.specs.Shape.{Shape}
use Rattle.mon_types.specs.Objects.{width}
use Rattle.mon_types.specs.declared.call.Call.{Call}
use Rattle.mon_types.specs.declared.object.ObjectId.{ObjectId}
use Rattle.mon_model.specs.State.{State}
use Rattle.dram_map.specs.Addresses.{word_total, region_of_word}
use Rattle.mon_records.specs.Answers.{freed, Answers}
use Rattle.mon_records.specs.Members.{In}
use Rattle.loaded_pages.specs.Content.{Content}
use Rattle.protocol.specs.declared.action.Action.{Action}
use Rattle.protocol.specs.declared.action.Action.TheVariants as actions
use Rattle.protocol.specs.declared.action.Draft.{Draft}
use Rattle.protocol.specs.declared.action.Outcome.{Outcome}
use Rattle.protocol.specs.declared.action.Outcome.TheVariants as outcomes
use Rattle.protocol.specs.Places.{Row, Dram, Memory, with_word, row_word}
use Rattle.protocol.specs.CallTree.{Tree, Over, Makes, Issuer, call_tree}
use Rattle.protocol.specs.Views.{is_draw, has_drawn}
use Rattle.protocol.specs.Permitted.{Follows}
use Rattle.protocol.specs.Worlds.{WillDo}
use Rattle.protocol.specs.Records.{withdraws_any, IsOwnWord, ReadsBlocked}
use Rattle.protocol_laws.specs.Known.{Keeps}
use Rattle.protocol_laws.specs.Safe.{Safe}
use Rattle.protocol_laws.proofs.Places.{at_place, row_object, row_index, row_dram, dram_row, dram_index}
use Rattle.protocol_laws.proofs.Agreeing.{agree_sym, answers_agree}
use Rattle.protocol_laws.proofs.Steps.{IsAtTree, word_agree}
use Rattle.protocol_steps.specs.Stages.{Stage, Locking, Met, Drawn, Astray, stage_tried, stage_locking, stage_met, stage_by, stage_of, MayMake, Goes}
use Rattle.protocol_steps.proofs.Views.{head_drawn}
use Rattle.protocol_steps.proofs.Goes.{goes_now}

module _ (shape : Shape) (by : Issuer) (call : Call) (draft : Draft) where
  write_same : {p o : ObjectId} {j i word wanted : ℕ} → Row p j ≡ Row o i → word ≡ wanted → actions.Write p j word ≡ actions.Write o i wanted
  write_same {p} {o} {j} {i} {word} {wanted} e f = ap (λ z. actions.Write z j word) (row_object e) ∙ ap (λ z. actions.Write o z word) (row_index e) ∙ ap (λ z. actions.Write o i z) f

  store_same : {j i word wanted : ℕ} → j ≡ i → word ≡ wanted → actions.Store j word ≡ actions.Store i wanted
  store_same {j} {i} {word} {wanted} e f = ap (λ z. actions.Store z word) e ∙ ap (λ z. actions.Store i z) f

  -- ---- rows

  module _ (s : State) (content : Content) (o : ObjectId) (i : ℕ) (b : i < width o) where
    abbrev RowWill : Memory → Tree → Type 0
    RowWill m tree = (m (Row o i) ≡ row_word s o i) ⊎ WillDo (actions.Write o i (row_word s o i)) tree

    row_later : (a : Action) (next : Outcome → Tree) (m later : Memory) → ((out : Outcome) → next out ≡ next outcomes.Done) → later (Row o i) ≡ m (Row o i) → RowWill later (next outcomes.Done) → RowWill m (Makes a next)
    row_later a next m later settled same rest = elim rest [
      | inl e ↦ inl (sym same ∙ e)
      | inr w ↦ inr (inr (λ out. subst (WillDo (actions.Write o i (row_word s o i))) (sym (settled out)) w))
    ]

    row_written : (p : ObjectId) (j word : ℕ) (next : Outcome → Tree) (m : Memory) → ((out : Outcome) → next out ≡ next outcomes.Done) → RowWill (with_word m (Row p j) word) (next outcomes.Done) → RowWill m (Makes (actions.Write p j word) next)
    row_written p j word next m settled rest = elim (at_place m (Row p j) word (Row o i)) [
      | inr f ↦ row_later (actions.Write p j word) next m (with_word m (Row p j) word) settled f.1 rest
      | inl f ↦ elim (cases_eq word (row_word s o i)) [
        | inl e ↦ inr (inl (write_same f.0 e))
        | inr ne ↦ elim rest [
          | inl e ↦ absurd (ne (sym f.1 ∙ e))
          | inr w ↦ inr (inr (λ out. subst (WillDo (actions.Write o i (row_word s o i))) (sym (settled out)) w))
        ]
      ]
    ]

    past_row : (tree : Tree) (answers : List ℕ) (held : List ObjectId) (m : Memory) → Goes shape call (Drawn draft) tree → Safe by call s content answers held m tree → In o held → RowWill m tree
    unfolding stage_by
    past_row Over answers held m goes safe h = absurd (subst (In o) safe h)
    past_row (Makes (actions.Write p j word) next) answers held m goes safe h =
        row_written p j word next m goes.1 (past_row (next outcomes.Done) answers held (with_word m (Row p j) word) (goes.2 outcomes.Done) safe.4 h)
    past_row (Makes (actions.Store j word) next) answers held m goes safe h =
        row_later (actions.Store j word) next m (with_word m (Dram j) word) goes.1 (dram_row m j word o i) (past_row (next outcomes.Done) answers held (with_word m (Dram j) word) (goes.2 outcomes.Done) safe.2 h)
    past_row (Makes (actions.Unlock p) next) answers held m goes safe h = elim (subst (In o) safe.1 h) [
      | inl e ↦ inl (subst (λ z. (k : ℕ) → k < width z → m (Row z k) ≡ row_word s z k) (sym e) safe.2 i b)
      | inr g ↦ row_later (actions.Unlock p) next m m goes.1 refl (past_row (next outcomes.Done) answers safe.0 m (goes.2 outcomes.Done) safe.4 g)
    ]
    past_row (Makes (actions.TryLock p) next) answers held m goes safe h = absurd goes.0
    past_row (Makes (actions.Read p j) next) answers held m goes safe h = absurd goes.0
    past_row (Makes (actions.Draw other) next) answers held m goes safe h = absurd goes.0
    past_row (Makes (actions.Load j) next) answers held m goes safe h = absurd goes.0

  -- ---- words of DRAM

  module _ (s : State) (content : Content) (o : ObjectId) (i : ℕ) (b : i < word_total s.shape) (ans : Answers s o (region_of_word s.shape i)) where
    abbrev WordWill : Memory → Tree → Type 0
    WordWill m tree = (m (Dram i) ≡ content i) ⊎ WillDo (actions.Store i (content i)) tree

    word_later : (a : Action) (next : Outcome → Tree) (m later : Memory) → ((out : Outcome) → next out ≡ next outcomes.Done) → later (Dram i) ≡ m (Dram i) → WordWill later (next outcomes.Done) → WordWill m (Makes a next)
    word_later a next m later settled same rest = elim rest [
      | inl e ↦ inl (sym same ∙ e)
      | inr w ↦ inr (inr (λ out. subst (WillDo (actions.Store i (content i))) (sym (settled out)) w))
    ]

    word_stored : (j word : ℕ) (next : Outcome → Tree) (m : Memory) → ((out : Outcome) → next out ≡ next outcomes.Done) → WordWill (with_word m (Dram j) word) (next outcomes.Done) → WordWill m (Makes (actions.Store j word) next)
    word_stored j word next m settled rest = elim (at_place m (Dram j) word (Dram i)) [
      | inr f ↦ word_later (actions.Store j word) next m (with_word m (Dram j) word) settled f.1 rest
      | inl f ↦ elim (cases_eq word (content i)) [
        | inl e ↦ inr (inl (store_same (dram_index f.0) e))
        | inr ne ↦ elim rest [
          | inl e ↦ absurd (ne (sym f.1 ∙ e))
          | inr w ↦ inr (inr (λ out. subst (WillDo (actions.Store i (content i))) (sym (settled out)) w))
        ]
      ]
    ]

    past_word : (tree : Tree) (answers : List ℕ) (held : List ObjectId) (m : Memory) → Goes shape call (Drawn draft) tree → Safe by call s content answers held m tree → In o held → WordWill m tree
    unfolding stage_by
    past_word Over answers held m goes safe h = absurd (subst (In o) safe h)
    past_word (Makes (actions.Write p j word) next) answers held m goes safe h =
        word_later (actions.Write p j word) next m (with_word m (Row p j) word) goes.1 (row_dram m p j word i) (past_word (next outcomes.Done) answers held (with_word m (Row p j) word) (goes.2 outcomes.Done) safe.4 h)
    past_word (Makes (actions.Store j word) next) answers held m goes safe h =
        word_stored j word next m goes.1 (past_word (next outcomes.Done) answers held (with_word m (Dram j) word) (goes.2 outcomes.Done) safe.2 h)
    past_word (Makes (actions.Unlock p) next) answers held m goes safe h = elim (subst (In o) safe.1 h) [
      | inl e ↦ inl (safe.3 i b (subst (λ z. Answers s z (region_of_word s.shape i)) e ans))
      | inr g ↦ word_later (actions.Unlock p) next m m goes.1 refl (past_word (next outcomes.Done) answers safe.0 m (goes.2 outcomes.Done) safe.4 g)
    ]
    past_word (Makes (actions.TryLock p) next) answers held m goes safe h = absurd goes.0
    past_word (Makes (actions.Read p j) next) answers held m goes safe h = absurd goes.0
    past_word (Makes (actions.Draw other) next) answers held m goes safe h = absurd goes.0
    past_word (Makes (actions.Load j) next) answers held m goes safe h = absurd goes.0

  -- a Store that is to come is of a 0 in the region that was freed
  pub will_store : (i word : ℕ) (tree : Tree) → Goes shape call (Drawn draft) tree → WillDo (actions.Store i word) tree → freed draft.reply draft.call ≡ Some (region_of_word shape i)
  unfolding stage_by
  will_store i word Over goes will = absurd will
  will_store i word (Makes a next) goes will = elim will [
    | inl e ↦ (subst (λ z. MayMake shape call (Drawn draft) z) e goes.0).1
    | inr f ↦ will_store i word (next outcomes.Done) (goes.2 outcomes.Done) (f outcomes.Done)
  ]

  -- ---- the same of what is now

  pub at_past_row : (s : State) (content : Content) (answers : List ℕ) (held : List ObjectId) (m : Memory) (tree : Tree) (o : ObjectId) (i : ℕ) → i < width o → Goes shape call (Drawn draft) tree → IsAtTree by call s content answers held m tree → In o held → (m (Row o i) ≡ row_word s o i) ⊎ WillDo (actions.Write o i (row_word s o i)) tree
  at_past_row s content answers held m tree o i b goes at h =
      let same : row_word at.was o i ≡ row_word s o i = word_agree at.was s by.core held at.looks.agree o h i in
      elim (past_row at.was at.knew o i b tree answers held at.words goes at.safe h) [
        | inl e ↦ inl (at.looks.rows o i h b ∙ e ∙ same)
        | inr w ↦ inr (subst (λ z. WillDo (actions.Write o i z) tree) same w)
      ]

  pub at_past_word : (s : State) (content : Content) (answers : List ℕ) (held : List ObjectId) (m : Memory) (tree : Tree) (o : ObjectId) (i : ℕ) → i < word_total s.shape → Answers s o (region_of_word s.shape i) → Goes shape call (Drawn draft) tree → IsAtTree by call s content answers held m tree → In o held → (m (Dram i) ≡ content i) ⊎ WillDo (actions.Store i (content i)) tree
  at_past_word s content answers held m tree o i b ans goes at h =
      let before : Answers at.was o (region_of_word at.was.shape i) = answers_agree s at.was by.core held (agree_sym at.was s by.core held at.looks.agree) o h i ans in
      let kept : Keeps at.was held i = record { who = o; held_is = h; answers = before } in
      elim (past_word at.was at.knew o i (subst (λ z. i < word_total z) at.looks.agree.shape b) before tree answers held at.words goes at.safe h) [
        | inl e ↦ inl (at.looks.words i kept ∙ e ∙ sym (at.looks.kept i kept))
        | inr w ↦ inr (subst (λ z. WillDo (actions.Store i z) tree) (sym (at.looks.kept i kept)) w)
      ]

-- ---- what the moves of a call tell of it

-- the draft is one of this call
abbrev pub IsOf : Call → Stage → Type 0
IsOf call (Locking os) = Unit {0}
IsOf call (Met lock holder serial os) = Unit {0}
IsOf call (Drawn draft) = draft.call ≡ call
IsOf call Astray = Unit {0}

of_tried : (call : Call) (os : List ObjectId) (o : ObjectId) (out : Outcome) → IsOf call (stage_tried os o out)
unfolding stage_tried
of_tried call os o outcomes.Taken = tt
of_tried call os o (outcomes.HeldBy holder serial) = tt
of_tried call os o (outcomes.Word word) = tt
of_tried call os o (outcomes.Ticket ticket) = tt
of_tried call os o outcomes.Done = tt
of_tried call os o (outcomes.Again old found) = tt

of_locking : (shape : Shape) (call : Call) (os : List ObjectId) (a : Action) (out : Outcome) → MayMake shape call (Locking os) a → IsOf call (stage_locking os a out)
unfolding stage_locking
of_locking shape call os (actions.TryLock o) out may = of_tried call os o out
of_locking shape call os (actions.Read o i) out may = tt
of_locking shape call os (actions.Write o i word) out may = tt
of_locking shape call os (actions.Draw draft) out may = may.0
of_locking shape call os (actions.Unlock o) out may = tt
of_locking shape call os (actions.Load i) out may = tt
of_locking shape call os (actions.Store i word) out may = tt

of_met : (call : Call) (lock : ObjectId) (holder serial : ℕ) (os : List ObjectId) (shape : Shape) (a : Action) → MayMake shape call (Met lock holder serial os) a → IsOf call (stage_met a)
unfolding stage_met
of_met call lock holder serial os shape (actions.TryLock o) may = tt
of_met call lock holder serial os shape (actions.Read o i) may = tt
of_met call lock holder serial os shape (actions.Write o i word) may = tt
of_met call lock holder serial os shape (actions.Draw draft) may = may.0
of_met call lock holder serial os shape (actions.Unlock o) may = tt
of_met call lock holder serial os shape (actions.Load i) may = tt
of_met call lock holder serial os shape (actions.Store i word) may = tt

of_by : (shape : Shape) (call : Call) (stage : Stage) (a : Action) (out : Outcome) → MayMake shape call stage a → IsOf call stage → IsOf call (stage_by stage a out)
unfolding stage_by
of_by shape call (Locking os) a out may of = of_locking shape call os a out may
of_by shape call (Met lock holder serial os) a out may of = of_met call lock holder serial os shape a may
of_by shape call (Drawn draft) a out may of = of
of_by shape call Astray a out may of = tt

pub is_of : (shape : Shape) (by : Issuer) (call : Call) (ms : List (Action × Outcome)) (rest : Tree) → Follows (call_tree shape by call) ms rest → IsOf call (stage_of ms)
unfolding stage_of
is_of shape by call [] rest h = tt
is_of shape by call (m ∷ ms) rest h = of_by shape call (stage_of ms) m.0 m.1 (goes_now shape by call ms (Makes m.0 h.0) h.1).0 (is_of shape by call ms (Makes m.0 h.0) h.1)

-- ---- where it has no ticket

abbrev pub IsUndrawn : Stage → Type 0
IsUndrawn (Locking os) = Unit {0}
IsUndrawn (Met lock holder serial os) = Unit {0}
IsUndrawn (Drawn draft) = ⊥
IsUndrawn Astray = Unit {0}

undrawn_tried : (os : List ObjectId) (o : ObjectId) (out : Outcome) → IsUndrawn (stage_tried os o out)
unfolding stage_tried
undrawn_tried os o outcomes.Taken = tt
undrawn_tried os o (outcomes.HeldBy holder serial) = tt
undrawn_tried os o (outcomes.Word word) = tt
undrawn_tried os o (outcomes.Ticket ticket) = tt
undrawn_tried os o outcomes.Done = tt
undrawn_tried os o (outcomes.Again old found) = tt

undrawn_locking : (os : List ObjectId) (a : Action) (out : Outcome) → is_draw a ≡ false → IsUndrawn (stage_locking os a out)
unfolding stage_locking
undrawn_locking os (actions.TryLock o) out e = undrawn_tried os o out
undrawn_locking os (actions.Read o i) out e = tt
undrawn_locking os (actions.Write o i word) out e = tt
undrawn_locking os (actions.Draw draft) out e = absurd (cc)
undrawn_locking os (actions.Unlock o) out e = tt
undrawn_locking os (actions.Load i) out e = tt
undrawn_locking os (actions.Store i word) out e = tt

undrawn_met : (a : Action) → is_draw a ≡ false → IsUndrawn (stage_met a)
unfolding stage_met
undrawn_met (actions.TryLock o) e = tt
undrawn_met (actions.Read o i) e = tt
undrawn_met (actions.Write o i word) e = tt
undrawn_met (actions.Draw draft) e = absurd (cc)
undrawn_met (actions.Unlock o) e = tt
undrawn_met (actions.Load i) e = tt
undrawn_met (actions.Store i word) e = tt

undrawn_by_one : (stage : Stage) (a : Action) (out : Outcome) → is_draw a ≡ false → IsUndrawn stage → IsUndrawn (stage_by stage a out)
unfolding stage_by
undrawn_by_one (Locking os) a out e h = undrawn_locking os a out e
undrawn_by_one (Met lock holder serial os) a out e h = undrawn_met a e
undrawn_by_one (Drawn draft) a out e h = h
undrawn_by_one Astray a out e h = tt

pub stage_undrawn : (ms : List (Action × Outcome)) → has_drawn ms ≡ false → IsUndrawn (stage_of ms)
unfolding stage_of
stage_undrawn [] e = tt
stage_undrawn (m ∷ ms) e = let h = head_drawn m.0 m.1 ms e in undrawn_by_one (stage_of ms) m.0 m.1 h.0 (stage_undrawn ms h.1)

pub stage_drawn : (ms : List (Action × Outcome)) (draft : Draft) → stage_of ms ≡ Drawn draft → has_drawn ms ≡ true
stage_drawn ms draft e = elim (cases_Bool (has_drawn ms)) [ inl t ↦ t | inr f ↦ absurd (subst IsUndrawn e (stage_undrawn ms f)) ]

-- the early words of a call
pub record IsEarlyWrite (call : Call) (o : ObjectId) (i word : ℕ) : Type 0 where
  pub own : IsOwnWord o i
  pub blocked : ReadsBlocked word
  pub withdraws : withdraws_any call ≡ true

early_at : (shape : Shape) (call : Call) (stage : Stage) (o : ObjectId) (i word : ℕ) → IsUndrawn stage → MayMake shape call stage (actions.Write o i word) → IsEarlyWrite call o i word
early_at shape call (Locking os) o i word u may = record { own = may.0; blocked = may.1; withdraws = may.2 }
early_at shape call (Met lock holder serial os) o i word u may = absurd may
early_at shape call (Drawn draft) o i word u may = absurd u
early_at shape call Astray o i word u may = absurd may

pub early_write : (shape : Shape) (by : Issuer) (call : Call) (ms : List (Action × Outcome)) (rest : Tree) (o : ObjectId) (i word : ℕ) → Follows (call_tree shape by call) ms rest → has_drawn ms ≡ false → In (actions.Write o i word, outcomes.Done) ms → IsEarlyWrite call o i word
early_write shape by call [] rest o i word h e m = absurd m
early_write shape by call (m ∷ ms) rest o i word h e is = elim is [
  | inl f ↦
      let u = stage_undrawn ms (head_drawn m.0 m.1 ms e).1 in
      early_at shape call (stage_of ms) o i word u (subst (λ z. MayMake shape call (stage_of ms) z) (sym (ap (λ z. z.0) f)) (goes_now shape by call ms (Makes m.0 h.0) h.1).0)
  | inr g ↦ early_write shape by call ms (Makes m.0 h.0) o i word h.1 (head_drawn m.0 m.1 ms e).1 g
]
