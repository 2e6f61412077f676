-- What is noted of refusals at held locks while calls are under way.
use Rattle.std.proofs.Common.{◌≡◌, inl, inr, ◌<◌, ◌∙◌, if◌then◌else◌, ℕ, List, [], ◌∷◌, ap, refl, subst}
use Rattle.std.specs.Prelude.{IsSomeAnd, Contains}
use Rattle.std.proofs.lemmas.Bool.{eq-eqb, ne_eqb}
use Rattle.mon_types.specs.Shape.{Shape}
use Rattle.mon_types.specs.declared.call.Call.{Call}
use Rattle.mon_types.specs.declared.reply.Reply.{Reply}
use Rattle.mon_types.specs.declared.reply.Reply.TheVariants as replies
use Rattle.mon_types.specs.declared.object.ObjectId.{ObjectId}
use Rattle.hist.specs.declared.event.Entry.{Entry}
use Rattle.hist.specs.Busy.{call_with_serial, UnderWay, Nothing, Taking, Refused, taken_by, HasTaken}
use Rattle.hist.proofs.Ordered.{all_weaker}
use Rattle.hist_stands.specs.Found.{Found, IsNoted, IsCallNoted, Notes, with_call}
use Rattle.protocol.specs.declared.action.Draft.{Draft}
use Rattle.protocol.specs.CallTree.{onto}
use Rattle.protocol.specs.Views.{Moves, held_of, call_moves, issuer_of}
use Rattle.protocol.specs.Runs.{Made, moves_with}
use Rattle.mon_records.specs.Members.{In}
use Rattle.protocol_steps.specs.Stages.{Stage, Locking, Met, Drawn, Astray, stage_of}
use Rattle.protocol_steps.proofs.Views.{each_moves}

-- what a core has under way, by the stage of its call
abbrev pub way : Call → Stage → UnderWay
way call (Locking os) = Taking (onto os [])
way call (Met lock holder serial os) = Refused call (onto os []) lock holder serial
way call (Drawn draft) = Nothing
way call Astray = Nothing

-- what each core has, if their calls are these
abbrev pub ways : (ℕ → Call) → (ℕ → Moves) → ℕ → UnderWay
ways doing moved core = way (doing core) (stage_of (call_moves (moved core)))

-- a lock that was met is none of those taken
abbrev pub FreshAt : Moves → Type 0
FreshAt ms = (o : ObjectId) (holder serial : ℕ) (os : List ObjectId) → stage_of (call_moves ms) ≡ Met o holder serial os → In o os → ⊥

-- the entry of a call that has its ticket has taken all that is held
abbrev pub EntryAt : List Entry → ℕ → Moves → Type 0
EntryAt h core ms = (draft : Draft) → stage_of (call_moves ms) ≡ Drawn draft → (o : ObjectId) → In o (held_of ms) → IsSomeAnd (call_with_serial h core (issuer_of core ms).serial) (HasTaken o)

-- the notes, whatever the calls under way are, and what is known of each core's
pub record Noted (shape : Shape) (moved : ℕ → Moves) (h : List Entry) : Type 0 where
  pub notes : (doing : ℕ → Call) → Notes shape h (ways doing moved)
  pub fresh : (core : ℕ) → core < shape.cores → FreshAt (moved core)
  pub entry : (core : ℕ) → core < shape.cores → EntryAt h core (moved core)

-- ---- notes of the same objects

pub way_taken : (a b : Call) (stage : Stage) → taken_by (way a stage) ≡ taken_by (way b stage)
way_taken a b (Locking os) = refl
way_taken a b (Met lock holder serial os) = refl
way_taken a b (Drawn draft) = refl
way_taken a b Astray = refl

module _ (shape : Shape) (h : List Entry) (now other : ℕ → UnderWay) (same : (c : ℕ) → taken_by (now c) ≡ taken_by (other c)) where
  found_like : (core mine : ℕ) (lock : ObjectId) (holder serial k : ℕ) → Found shape h now core mine lock holder serial k → Found shape h other core mine lock holder serial k
  found_like core mine lock holder serial k found = record {
    is_core = found.is_core;
    other = found.other;
    drawn = found.drawn;
    before = found.before;
    begun = found.begun;
    under_way = found.under_way;
    held = elim found.held [ inl past ↦ inl past | inr alive ↦ inr (alive.0, subst (λ (z : List ObjectId). Contains z lock) (same holder) alive.1) ];
  }

  noted_like : (e : Entry) (reply : Reply) → IsNoted shape h now e reply → IsNoted shape h other e reply
  noted_like e (replies.ConcurrentCall lock holder serial) noted = (noted.0, noted.1, found_like e.core e.serial lock holder serial noted.0 noted.2, noted.3)
  noted_like e _ noted = tt

  pub way_like : (core : ℕ) (a b : Call) (stage : Stage) → IsCallNoted shape h now core (way a stage) → IsCallNoted shape h other core (way b stage)
  way_like core a b (Locking os) noted = tt
  way_like core a b (Met lock holder serial os) noted = (noted.0, found_like core _ lock holder serial noted.0 noted.1)
  way_like core a b (Drawn draft) noted = tt
  way_like core a b Astray noted = tt

  pub notes_like : Notes shape h now → ((core : ℕ) → core < shape.cores → IsCallNoted shape h other core (other core)) → Notes shape h other
  notes_like notes calls = record {
    entries = all_weaker (λ e. IsNoted shape h now e e.reply) (λ e. IsNoted shape h other e e.reply) (λ e noted. noted_like e e.reply noted) h notes.entries;
    calls = calls;
  }

-- ---- notes after a move

module _ (shape : Shape) (moved : ℕ → Moves) (made : Made) (h1 : List Entry) (before doing : ℕ → Call) (way1 : UnderWay) where
  pub same_taken : taken_by way1 ≡ taken_by (way (doing made.core) (stage_of (call_moves ((made.move, made.outcome) ∷ moved made.core)))) → (q : ℕ) → taken_by (with_call (ways before moved) made.core way1 q) ≡ taken_by (ways doing (λ q. moves_with q made (moved q)) q)
  same_taken e q = each_moves (λ q ms. taken_by (with_call (ways before moved) made.core way1 q) ≡ taken_by (way (doing q) (stage_of (call_moves ms)))) moved made
      (ap (λ b. taken_by (if b then way1 else ways before moved made.core)) (eq-eqb made.core made.core refl) ∙ e)
      (λ q ne. ap (λ b. taken_by (if b then way1 else ways before moved q)) (ne_eqb made.core q ne) ∙ way_taken (before q) (doing q) (stage_of (call_moves (moved q)))) q

  pub notes_after : Notes shape h1 (with_call (ways before moved) made.core way1) → taken_by way1 ≡ taken_by (way (doing made.core) (stage_of (call_moves ((made.move, made.outcome) ∷ moved made.core)))) →
      (made.core < shape.cores → IsCallNoted shape h1 (ways doing (λ q. moves_with q made (moved q))) made.core (way (doing made.core) (stage_of (call_moves ((made.move, made.outcome) ∷ moved made.core))))) → Notes shape h1 (ways doing (λ q. moves_with q made (moved q)))
  notes_after notes e own =
      let same = same_taken e in
      notes_like shape h1 (with_call (ways before moved) made.core way1) (ways doing (λ q. moves_with q made (moved q))) same notes
      (λ q lq. each_moves (λ q ms. q < shape.cores → IsCallNoted shape h1 (ways doing (λ q. moves_with q made (moved q))) q (way (doing q) (stage_of (call_moves ms)))) moved made own
      (λ q ne l. way_like shape h1 (with_call (ways before moved) made.core way1) (ways doing (λ q. moves_with q made (moved q))) same q (before q) (doing q) (stage_of (call_moves (moved q)))
      (subst (λ b. IsCallNoted shape h1 (with_call (ways before moved) made.core way1) q (if b then way1 else ways before moved q)) (ne_eqb made.core q ne) (notes.calls q l))) q lq)

-- a call that has found no lock has nothing to note
abbrev pub IsPlain : Stage → Type 0
IsPlain (Locking os) = Unit {0}
IsPlain (Met lock holder serial os) = ⊥
IsPlain (Drawn draft) = Unit {0}
IsPlain Astray = Unit {0}

pub plain_noted : (shape : Shape) (h : List Entry) (now : ℕ → UnderWay) (core : ℕ) (call : Call) (stage : Stage) → IsPlain stage → IsCallNoted shape h now core (way call stage)
plain_noted shape h now core call (Locking os) p = tt
plain_noted shape h now core call (Met lock holder serial os) p = absurd p
plain_noted shape h now core call (Drawn draft) p = tt
plain_noted shape h now core call Astray p = tt
