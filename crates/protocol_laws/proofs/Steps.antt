-- A core in the middle of its call: what it knew when it moved last, and that each of its own moves and each of the
-- others' keeps this. The words, the state and the content are those of now.
use Rattle.std.proofs.Common.{◌≡◌, ◌⊎◌, inl, inr, ◌<◌, ◌%◌, ◌∙◌, ℕ, List, [], ◌∷◌, ◌++◌, ap, sym, refl, subst, get_or, arith}
use Rattle.mon_types.specs.Objects.{width}
use Rattle.mon_types.specs.Owns.{own_word}
use Rattle.mon_types.specs.declared.call.Call.{Call}
use Rattle.mon_types.specs.declared.object.ObjectId.{ObjectId}
use Rattle.mon_types.specs.declared.object.ObjectId.TheVariants as objects
use Rattle.mon_types.specs.declared.region.Owner.TheVariants as owners
use Rattle.mon_types.specs.declared.region.Region.TheVariants as regions
use Rattle.mon_model.specs.State.{State, region_at}
use Rattle.mon_model.specs.Laws.{AgreeOn, ChangesOnly}
use Rattle.dram_map.specs.Addresses.{word_total, region_of_word}
use Rattle.mon_records.specs.Members.{In}
use Rattle.mon_records.proofs.Members.{in_contains}
use Rattle.mon_records.proofs.RebuiltStates.{agreed_row}
use Rattle.loaded_pages.specs.Content.{Content}
use Rattle.protocol.specs.declared.action.Action.TheVariants as actions
use Rattle.protocol.specs.declared.action.Draft.{Draft}
use Rattle.protocol.specs.declared.action.Outcome.{Outcome}
use Rattle.protocol.specs.declared.action.Outcome.TheVariants as outcomes
use Rattle.protocol.specs.Places.{Row, Dram, Memory, with_word, row_word}
use Rattle.protocol.specs.CallTree.{Tree, Makes, Issuer}
use Rattle.protocol_laws.specs.Known.{IsSound, Keeps, KeepsLoading, RowStands, WordsStand, OwnedAreTrue, LooksSame}
use Rattle.protocol_laws.specs.Safe.{drawn_state, drawn_content, IsRightDraft, StaysOrKept, WritesWord, MayStore, Safe}
use Rattle.protocol_laws.proofs.Places.{at_place, row_dram, dram_row, here}
use Rattle.protocol_laws.proofs.Agreeing.{agree_sub, keeps_agree, loading_agree, loading_kept, looks_refl}
use Rattle.protocol_laws.proofs.Standing.{rows_look, words_look, rows_more, words_more}
use Rattle.protocol_laws.proofs.Frame.{looks_trans}

-- the call may go on by this tree: it was safe when the core moved last, and what the core holds looks the same since
pub record IsAtTree (by : Issuer) (call : Call) (s : State) (content : Content) (answers : List ℕ) (held : List ObjectId) (memory : Memory) (tree : Tree) : Type 0 where
  pub was : State
  pub knew : Content
  pub words : Memory
  pub looks : LooksSame by.core was knew held words s content memory
  pub safe : Safe by call was knew answers held words tree

-- of fewer objects the same
pub looks_sub : (core : ℕ) (s t : State) (f g : Content) (few many : List ObjectId) (l m : Memory) → ((o : ObjectId) → In o few → In o many) → LooksSame core s f many l t g m → LooksSame core s f few l t g m
looks_sub core s t f g few many l m sub looks = record {
  agree = agree_sub s t core few many sub looks.agree;
  rows = λ o i h b. looks.rows o i (sub o h) b;
  words = λ i k. looks.words i (record { who = k.who; held_is = sub k.who k.held_is; answers = k.answers });
  kept = λ i k. looks.kept i (record { who = k.who; held_is = sub k.who k.held_is; answers = k.answers });
}

-- why a call may load a word in this state: its region is held and the OS's, or it is kept
abbrev pub MayLoad : State → List ObjectId → ℕ → Type 0
MayLoad s held i =
    (In (objects.Region (region_of_word s.shape i)) held × ((a : ℕ) × (region_at s (region_of_word s.shape i) ≡ regions.Owned owners.Os a))) ⊎ KeepsLoading s held i

store_agree : (call : Call) (s t : State) (core : ℕ) (held : List ObjectId) → AgreeOn s t core held → (i word : ℕ) → MayStore call s held i word → MayStore call t held i word
store_agree call s t core held agree i word may = elim may [
  | inl k ↦ inl (loading_agree s t core held agree i k)
  | inr k ↦ inr (k.0, k.1, keeps_agree s t core held agree i k.2)
]

-- a word that may be stored is kept
pub stored_kept : (call : Call) (s : State) (held : List ObjectId) (i word : ℕ) → MayStore call s held i word → Keeps s held i
stored_kept call s held i word may = elim may [ inl k ↦ loading_kept s held i k | inr k ↦ k.2 ]

-- what a row is to hold is the same
pub word_agree : (s t : State) (core : ℕ) (held : List ObjectId) → AgreeOn s t core held → (o : ObjectId) → In o held → (i : ℕ) → row_word s o i ≡ row_word t o i
word_agree s t core held agree o h i = ap (λ z. get_or z i 0) (sym (agreed_row s t core held agree o (in_contains held o h)))

-- own-words that are true stay so
pub true_agree : (core : ℕ) (s t : State) (f g : Content) (held : List ObjectId) (l m : Memory) → LooksSame core s f held l t g m → OwnedAreTrue s held l → OwnedAreTrue t held m
unfolding width
true_agree core s t f g held l m looks are r h e =
    let w : m (Row (objects.Region r) 0) ≡ l (Row (objects.Region r) 0) = looks.rows (objects.Region r) 0 h (omega arith) in
    w ∙ are r h (ap (λ z. z % 4) (sym w) ∙ e) ∙ ap own_word (sym (looks.agree.region r (in_contains held (objects.Region r) h)))

module _ (by : Issuer) (call : Call) (answers : List ℕ) where
  -- where it has just moved, it knows what is now
  pub at_now : (s : State) (content : Content) (held : List ObjectId) (memory : Memory) (tree : Tree) → Safe by call s content answers held memory tree → IsAtTree by call s content answers held memory tree
  at_now s content held memory tree safe = record { was = s; knew = content; words = memory; looks = looks_refl by.core s content held memory; safe = safe }

  -- another core moves
  pub at_others : (s t : State) (content now : Content) (held : List ObjectId) (memory m : Memory) (tree : Tree) → IsAtTree by call s content answers held memory tree → LooksSame by.core s content held memory t now m → IsAtTree by call t now answers held m tree
  at_others s t content now held memory m tree at looks = record {
    was = at.was;
    knew = at.knew;
    words = at.words;
    looks = looks_trans by.core at.was s t at.knew content now held at.words memory m at.looks looks;
    safe = at.safe;
  }

  -- it takes a free lock: the row and the words of the object stand
  pub at_taken : (s : State) (content : Content) (held : List ObjectId) (memory : Memory) (o : ObjectId) (next : Outcome → Tree) → IsAtTree by call s content answers held memory (Makes (actions.TryLock o) next) → IsSound by.core s content → RowStands o s memory → WordsStand o s content memory → IsAtTree by call s content answers (o ∷ held) memory (next outcomes.Taken)
  at_taken s content held memory o next at sound row words = at_now s content (o ∷ held) memory (next outcomes.Taken) ((at.safe.0 s content memory at.looks sound).1 row words)

  -- or meets one that is held
  pub at_met : (s : State) (content : Content) (held : List ObjectId) (memory : Memory) (o : ObjectId) (next : Outcome → Tree) (holder serial : ℕ) → IsAtTree by call s content answers held memory (Makes (actions.TryLock o) next) → IsAtTree by call s content answers held memory (next (outcomes.HeldBy holder serial))
  at_met s content held memory o next holder serial at = record { was = at.was; knew = at.knew; words = at.words; looks = at.looks; safe = at.safe.1 holder serial }

  -- it reads what stands there now
  pub at_read : (s : State) (content : Content) (held : List ObjectId) (memory : Memory) (o : ObjectId) (i : ℕ) (next : Outcome → Tree) → IsAtTree by call s content answers held memory (Makes (actions.Read o i) next) → In o held × (i < width o) × IsAtTree by call s content answers held memory (next (outcomes.Word (memory (Row o i))))
  at_read s content held memory o i next at = (
    at.safe.0,
    at.safe.1,
    record {
      was = at.was;
      knew = at.knew;
      words = at.words;
      looks = at.looks;
      safe = subst (λ z. Safe by call at.was at.knew answers held at.words (next (outcomes.Word z))) (sym (at.looks.rows o i at.safe.0 at.safe.1)) at.safe.2;
    },
  )

  -- the same word is written in what it knew and in what is now
  looks_row : (was s : State) (knew content : Content) (held : List ObjectId) (l memory : Memory) (o : ObjectId) (i word : ℕ) → LooksSame by.core was knew held l s content memory → LooksSame by.core was knew held (with_word l (Row o i) word) s content (with_word memory (Row o i) word)
  looks_row was s knew content held l memory o i word looks = record {
    agree = looks.agree;
    rows = λ p j h b. elim (at_place memory (Row o i) word (Row p j)) [
      | inl f ↦ f.1 ∙ sym (ap (λ z. with_word l (Row o i) word z) (sym f.0) ∙ here l (Row o i) word)
      | inr f ↦ f.1 ∙ looks.rows p j h b ∙ sym (elim (at_place l (Row o i) word (Row p j)) [ inl g ↦ absurd (f.0 g.0) | inr g ↦ g.1 ])
    ];
    words = λ j k. row_dram memory o i word j ∙ looks.words j k ∙ sym (row_dram l o i word j);
    kept = looks.kept;
  }

  looks_dram : (was s : State) (knew content : Content) (held : List ObjectId) (l memory : Memory) (i word : ℕ) → LooksSame by.core was knew held l s content memory → LooksSame by.core was knew held (with_word l (Dram i) word) s content (with_word memory (Dram i) word)
  looks_dram was s knew content held l memory i word looks = record {
    agree = looks.agree;
    rows = λ p j h b. dram_row memory i word p j ∙ looks.rows p j h b ∙ sym (dram_row l i word p j);
    words = λ j k. elim (at_place memory (Dram i) word (Dram j)) [
      | inl f ↦ f.1 ∙ sym (ap (λ z. with_word l (Dram i) word z) (sym f.0) ∙ here l (Dram i) word)
      | inr f ↦ f.1 ∙ looks.words j k ∙ sym (elim (at_place l (Dram i) word (Dram j)) [ inl g ↦ absurd (f.0 g.0) | inr g ↦ g.1 ])
    ];
    kept = looks.kept;
  }

  pub at_write : (s : State) (content : Content) (held : List ObjectId) (memory : Memory) (o : ObjectId) (i word : ℕ) (next : Outcome → Tree) → IsAtTree by call s content answers held memory (Makes (actions.Write o i word) next) → In o held × (i < width o) × WritesWord call s o i word × OwnedAreTrue s held (with_word memory (Row o i) word) × IsAtTree by call s content answers held (with_word memory (Row o i) word) (next outcomes.Done)
  at_write s content held memory o i word next at = (
    at.safe.0,
    at.safe.1,
    elim at.safe.2 [
      | inl e ↦ inl (e ∙ word_agree at.was s by.core held at.looks.agree o at.safe.0 i)
      | inr w ↦ inr w
    ],
    true_agree by.core at.was s at.knew content held (with_word at.words (Row o i) word) (with_word memory (Row o i) word)
        (looks_row at.was s at.knew content held at.words memory o i word at.looks) at.safe.3,
    record {
      was = at.was;
      knew = at.knew;
      words = with_word at.words (Row o i) word;
      looks = looks_row at.was s at.knew content held at.words memory o i word at.looks;
      safe = at.safe.4;
    },
  )

  -- it stores a word that it keeps now as it did
  pub at_store : (s : State) (content : Content) (held : List ObjectId) (memory : Memory) (i word : ℕ) (next : Outcome → Tree) → IsAtTree by call s content answers held memory (Makes (actions.Store i word) next) → (i < word_total s.shape) × MayStore call s held i word × IsAtTree by call s content answers held (with_word memory (Dram i) word) (next outcomes.Done)
  at_store s content held memory i word next at = (
    subst (λ z. i < word_total z) (sym at.looks.agree.shape) at.safe.0,
    store_agree call at.was s by.core held at.looks.agree i word at.safe.1,
    record {
      was = at.was;
      knew = at.knew;
      words = with_word at.words (Dram i) word;
      looks = looks_dram at.was s at.knew content held at.words memory i word at.looks;
      safe = at.safe.2;
    },
  )

  -- it draws a ticket: what the draft owes in the state of now
  pub at_draw : (s : State) (content : Content) (held : List ObjectId) (memory : Memory) (draft : Draft) (ticket : ℕ) (next : Outcome → Tree) → IsAtTree by call s content answers held memory (Makes (actions.Draw draft) next) → IsSound by.core s content →
      IsRightDraft by call s answers draft ticket × ChangesOnly s (drawn_state by.core s draft ticket) by.core held × OwnedAreTrue (drawn_state by.core s draft ticket) held memory × StaysOrKept s held content (drawn_content s draft answers content)
      × IsAtTree by call (drawn_state by.core s draft ticket) (drawn_content s draft answers content) answers held memory (next (outcomes.Ticket ticket))
  at_draw s content held memory draft ticket next at sound =
      let owes = at.safe s content memory ticket at.looks sound in
      (owes.0, owes.1, owes.2, owes.3, at_now (drawn_state by.core s draft ticket) (drawn_content s draft answers content) held memory (next (outcomes.Ticket ticket)) owes.4)

  -- it gives back the object that it took last, whose row and words stand now
  pub at_unlock : (s : State) (content : Content) (held : List ObjectId) (memory : Memory) (o : ObjectId) (next : Outcome → Tree) → IsAtTree by call s content answers held memory (Makes (actions.Unlock o) next) →
      (others : List ObjectId) × (held ≡ o ∷ others) × RowStands o s memory × WordsStand o s content memory × IsAtTree by call s content answers others memory (next outcomes.Done)
  at_unlock s content held memory o next at =
      let others : List ObjectId = at.safe.0 in
      let first : (p : ObjectId) → In p (o ∷ []) → In p held = λ p h. subst (In p) (sym at.safe.1) (elim h [ inl e ↦ inl e | inr g ↦ absurd g ]) in
      let rest : (p : ObjectId) → In p others → In p held = λ p h. subst (In p) (sym at.safe.1) (inr h) in
      let one = looks_sub by.core at.was s at.knew content (o ∷ []) held at.words memory first at.looks in (
        others,
        at.safe.1,
        rows_look by.core at.was at.knew (o ∷ []) at.words s content memory one (rows_more o [] at.was at.words at.safe.2 (λ p h. absurd h)) o (inl refl),
        words_look by.core at.was at.knew (o ∷ []) at.words s content memory one (words_more o [] at.was at.knew at.words at.safe.3 (λ p h. absurd h)) o (inl refl),
        record {
          was = at.was;
          knew = at.knew;
          words = at.words;
          looks = looks_sub by.core at.was s at.knew content others held at.words memory rest at.looks;
          safe = at.safe.4;
        },
      )

  -- it loads a word that it may load now, and hears what stands there
  pub at_load : (s : State) (content : Content) (held : List ObjectId) (memory : Memory) (i : ℕ) (next : Outcome → Tree) → IsAtTree by call s content answers held memory (Makes (actions.Load i) next) →
      (i < word_total s.shape) × MayLoad s held i × IsAtTree by call s content (answers ++ memory (Dram i) ∷ []) held memory (next (outcomes.Word (memory (Dram i))))
  at_load s content held memory i next at = elim at.safe.1 [
    | inl source ↦ (
      subst (λ z. i < word_total z) (sym at.looks.agree.shape) at.safe.0,
      inl (subst (λ z. In (objects.Region (region_of_word z i)) held × ((a : ℕ) × (region_at s (region_of_word z i) ≡ regions.Owned owners.Os a))) (sym at.looks.agree.shape)
          (source.0, (source.1.0, at.looks.agree.region (region_of_word at.was.shape i) (in_contains held (objects.Region (region_of_word at.was.shape i)) source.0) ∙ source.1.1))),
      record { was = at.was; knew = at.knew; words = at.words; looks = at.looks; safe = source.2 (memory (Dram i)) },
    )
    | inr kept ↦ (
      subst (λ z. i < word_total z) (sym at.looks.agree.shape) at.safe.0,
      inr (loading_agree at.was s by.core held at.looks.agree i kept.0),
      record {
        was = at.was;
        knew = at.knew;
        words = at.words;
        looks = at.looks;
        safe = subst (λ z. Safe by call at.was at.knew (answers ++ z ∷ []) held at.words (next (outcomes.Word z))) (sym (at.looks.words i (loading_kept at.was held i kept.0))) kept.1;
      },
    )
  ]
