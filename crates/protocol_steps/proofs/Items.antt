-- What is read off what is kept: legal entries, lock words and their holders, rows that nobody holds, own-words, touches
-- and safe logs.
use Rattle.protocol_steps.proofs.Moving.{wide_region}
use Rattle.std.proofs.Common.{◌≡◌, ◌⊎◌, inl, inr, ◌<◌, ◌%◌, ◌∙◌, ℕ, true, Option, Some, None, List, length, ap, sym, refl, subst, arith}
use Rattle.std.proofs.lemmas.Bool.{cases_Bool}
use Rattle.std.proofs.lemmas.Bool.Decides.{nat_tests}
use Rattle.mon_types.specs.Shape.{Shape, is_shape}
use Rattle.mon_types.specs.declared.region.Owner.{Owner}
use Rattle.mon_types.specs.declared.region.Region.{Region}
use Rattle.mon_types.specs.declared.region.Region.TheVariants as regions
use Rattle.mon_types.specs.declared.object.ObjectId.{ObjectId}
use Rattle.mon_types.specs.declared.object.ObjectId.TheVariants as objects
use Rattle.mon_model.specs.State.{State, start, region_at, flushed_at}
use Rattle.core_access.specs.Looks.{since_in_word}
use Rattle.mon_records.specs.Members.{In}
use Rattle.mon_records.proofs.Members.{contains_in, in_contains}
use Rattle.hist.specs.declared.event.Entry.{Entry}
use Rattle.hist.specs.History.{after_entries}
use Rattle.hist.specs.SafeLog.{SafeLog}
use Rattle.hist_stands.specs.Held.{IsHeld}
use Rattle.hist_stands.proofs.Holding.{held_now}
use Rattle.hist_stands.proofs.Sorted.{same_history, all_legal, all_safe}
use Rattle.loaded_pages.specs.Content.{Content}
use Rattle.protocol.specs.Places.{Counter, Lock, Row, Memory, Place, HasWord, row_word}
use Rattle.protocol.specs.Views.{Moves, held_of, core_log, has_touched, call_moves, is_calling}
use Rattle.protocol.specs.Worlds.{logs, entries, state_now, IsNotHeld}
use Rattle.protocol.specs.Logs.{EntriesAreLegal}
use Rattle.protocol.specs.Records.{IsLockedBy, LocksNameHolders, FreeRowsStand, ReadsOffered, OwnWordsAreTrue, IsTouched, TouchesHold}
use Rattle.protocol_steps.proofs.Views.{none_held, are_none}
use Rattle.protocol_steps.proofs.Kept.{Kept}
use Rattle.protocol_steps.proofs.Looking.{look_low, look_true}

pub some_core : (m : Shape) → is_shape m ≡ true → 0 < m.cores
some_core m h = grind (arith, nat_tests)

-- who holds an object has a call under way
pub calling_in : (ms : Moves) (o : ObjectId) → In o (held_of ms) → is_calling ms ≡ true
calling_in ms o h = elim (cases_Bool (is_calling ms)) [
  | inl t ↦ t
  | inr f ↦ absurd (subst (In o) (none_held ms (are_none (call_moves ms) f)) h)
]

-- the words and moves, where each place of the machine has the word that is kept
module _ (shape : Shape) (is : is_shape shape ≡ true) (memory : Memory) (moved : ℕ → Moves) (h : List Entry) (s : State) (content : Content) (kept : Kept shape memory moved h s content) (m : Memory) (same : (p : Place) → HasWord shape p → m p ≡ memory p) where
  pub entries_are : entries shape (record { memory = m; moves = moved }) ≡ h
  entries_are = same_history shape h (λ core. core_log core (moved core)) kept.stands

  pub state_is : state_now shape (record { memory = m; moves = moved }) ≡ s
  state_is = ap (λ es. after_entries (start shape) es) entries_are ∙ kept.now

  -- ---- item 2

  pub item_2 : EntriesAreLegal shape (record { memory = m; moves = moved })
  item_2 = record {
    legal = all_legal shape h (λ core. core_log core (moved core)) kept.stands;
    tickets = same Counter tt ∙ kept.counter ∙ sym (ap length entries_are);
    few = kept.few;
  }

  -- ---- item 3

  holder : (o : ObjectId) (core : ℕ) → core < shape.cores → In o (held_of (moved core)) → IsLockedBy shape (record { memory = m; moves = moved }) o core
  holder o core lt k = record {
    held = record { of_machine = lt; held = in_contains (held_of (moved core)) o k };
    calling = calling_in (moved core) o k;
    word = same (Lock o) ((kept.cores core lt).there o k) ∙ (kept.cores core lt).mine o k;
  }

  pub item_3 : LocksNameHolders shape (record { memory = m; moves = moved })
  item_3 = record {
    named = λ o there ne. elim (kept.locked o) [
      | inl e ↦ absurd (ne (same (Lock o) there ∙ e))
      | inr x ↦ (x.0, holder o x.0 x.1 x.2)
    ];
    locked = λ o core by. holder o core by.of_machine (contains_in (held_of (moved core)) o by.held);
  }

  -- ---- item 4

  pub lock_free : (o : ObjectId) → IsNotHeld shape (record { memory = m; moves = moved }) o → memory (Lock o) ≡ 0
  lock_free o none = elim (kept.locked o) [
    | inl e ↦ e
    | inr x ↦ absurd (none x.0 (record { of_machine = x.1; held = in_contains (held_of (moved x.0)) o x.2 }))
  ]

  pub item_4 : FreeRowsStand shape (record { memory = m; moves = moved })
  item_4 o i there b none = same (Row o i) (there, b) ∙ kept.rows o (lock_free o none) i b ∙ ap (λ z. row_word z o i) (sym state_is)

  -- ---- item 6

  not_owned : (owner : Owner) (word : ℕ) → ReadsOffered word → (since : Option ℕ) → since_in_word owner word ≡ since → since_in_word owner word ≡ None
  not_owned owner word offered None e = e
  not_owned owner word offered (Some a) e = absurd (apart word offered (look_low owner word a e))
    where
      apart : (word : ℕ) → word % 4 ≡ 3 → word % 4 ≡ 1 → ⊥
      apart word a b = omega (arith, a, b)

  pub item_6 : OwnWordsAreTrue shape (record { memory = m; moves = moved })
  item_6 = record {
    owned = λ r a owner lt e. ap (λ z. region_at z r) state_is
        ∙ look_true shape memory moved h s content kept 0 (some_core shape is) r owner a (ap (since_in_word owner) (sym (same (Row (objects.Region r) 0) (lt, wide_region r))) ∙ e);
    offered = λ r owner lt reads. not_owned owner (m (Row (objects.Region r) 0)) reads (since_in_word owner (m (Row (objects.Region r) 0))) refl;
  }

  -- ---- item 7

  touched_of : (g : Region) (owner : Owner) (a cell : ℕ) → (g ≡ regions.Owned owner a) ⊎ ((b : ℕ) × (g ≡ regions.Blocked owner a b) × (cell < b)) → IsTouched g a cell
  touched_of g owner a cell held = elim held [
    | inl e ↦ subst (λ z. IsTouched z a cell) (sym e) refl
    | inr x ↦ subst (λ z. IsTouched z a cell) (sym x.1) (refl, x.2)
  ]

  pub touch_held : (core r a : ℕ) → core < shape.cores → has_touched core (moved core) r a ≡ true → IsHeld h s core r a
  touch_held core r a lt touched = subst (λ z. IsHeld h z core r a) kept.now
      (held_now shape h kept.stands.legal core lt (core_log core (moved core)) (kept.stands.mine core lt) (kept.stands.stamped core lt) r a touched)

  pub item_7 : TouchesHold shape (record { memory = m; moves = moved })
  item_7 core r a lt touched =
      let held = touch_held core r a lt touched in
      subst (λ z. IsTouched (region_at z r) a (flushed_at z core)) (sym state_is) (touched_of (region_at s r) held.owner a (flushed_at s core) held.region)

  -- ---- safe logs

  pub logs_safe : SafeLog shape (logs shape (record { memory = m; moves = moved }))
  logs_safe = all_safe shape h (λ core. core_log core (moved core)) kept.stands
