-- What stands after a step, put together.
use Rattle.std.proofs.Common.{◌≡◌, ◌∙◌, ◌<◌, ◌≤◌, ℕ, zero, suc, Option, Some, IfSome, List, [], ◌∷◌, length, take, ap, refl, subst, arith}
use Rattle.std.proofs.lemmas.List.{length-map}
use Rattle.mon_types.specs.declared.reply.Reply.{Reply}
use Rattle.mon_types.specs.Objects.{width}
use Rattle.mon_types.specs.declared.object.ObjectId.{ObjectId}
use Rattle.mon_types.specs.declared.object.ObjectId.TheVariants as objects
use Rattle.mon_types.specs.declared.object.Tried.{Tried}
use Rattle.arrayvec.specs.ArrayVec.{ArrayVec}
use Rattle.core_context.specs.declared.after.After.{After}
use Rattle.protocol.specs.CallTree.{Tree}
use Rattle.call_machine.specs.declared.phase.Phase.{Phase}
use Rattle.call_machine.specs.declared.work.Work.{Work}
use Rattle.call_machine.specs.Meaning.{objects_in, known, phase_tree}
use Rattle.call_machine.specs.Count.{phase_left}
use Rattle.hist.specs.declared.event.PageInput.{PageInput}
use Rattle.mon_model.specs.State.{State}
use Rattle.call_machine.specs.Stands.{IsBased, IsHolding, IsLocking, IsUnloaded, IsDecided, IsDrawn, IsAt, phase_stands}

-- the same of another phase, reply and end
module _ (w : Work) where
  pub based_phase : (p : Phase) → IsBased w → IsBased (record w { phase = p })
  based_phase p b = record { valid = b.valid; caller = b.caller; is_call = b.is_call; few = b.few }

  pub based_reply : (r : Reply) → IsBased w → IsBased (record w { reply = r })
  based_reply r b = record { valid = b.valid; caller = b.caller; is_call = b.is_call; few = b.few }

  pub based_ends : (e : Option (Reply × After)) → IsBased w → IsBased (record w { ends = e })
  based_ends e b = record { valid = b.valid; caller = b.caller; is_call = b.is_call; few = b.few }

  pub drawn_phase : (p : Phase) → IsDrawn w → IsDrawn (record w { phase = p })
  drawn_phase p d = record { long = d.long; wanted = d.wanted; ends = d.ends }

  -- the call is in this phase now
  pub at_phase : (p : Phase) (tree : Tree) (most : ℕ) → IsBased w → phase_stands (record w { phase = p }) p → phase_tree (record w { phase = p }) p ≡ tree → phase_left (record w { phase = p }) p ≤ most
      → IsAt w (record w { phase = p }) w.ends tree most
  at_phase p tree most b s t l = record {
    based = based_phase p b;
    stands = s;
    meaning = t;
    count = l;
    end = refl;
    config = refl;
    call = refl;
    core = refl;
    mode = refl;
  }

-- ---- the same facts of a call that keeps something else elsewhere

module _ (w : Work) (t : Tried) (r : Reply) (p : Phase) where
  pub holding_other : (s : State) (os : List ObjectId) → IsHolding w s os → IsHolding (record w { tried = t; reply = r; phase = p }) s os
  holding_other s os h = record {
    based = record { valid = h.based.valid; caller = h.based.caller; is_call = h.based.is_call; few = h.based.few };
    early = h.early;
    machine = h.machine;
    mode = h.mode;
    whole = h.whole;
    ranges = h.ranges;
    front = h.front;
  }

  pub locking_other : (os : List ObjectId) (n : ℕ) → IsLocking w os n → IsLocking (record w { tried = t; reply = r; phase = p }) os n
  locking_other os n l = record {
    holding = holding_other (known w) os l.holding;
    long = l.long;
    fit = l.fit;
    input = l.input;
    ends = l.ends;
    page = l.page;
  }

  pub unloaded_other : IsUnloaded w → IsUnloaded (record w { tried = t; reply = r; phase = p })
  unloaded_other u = record { places = u.places; ptes = u.ptes }

-- with other ptes
pub locking_loaded : (w : Work) (places ptes : ArrayVec ℕ) (os : List ObjectId) (n : ℕ) → IsLocking w os n → IsLocking (record w { places = places; ptes = ptes }) os n
locking_loaded w places ptes os n l = record {
  holding = record {
    based = record { valid = l.holding.based.valid; caller = l.holding.based.caller; is_call = l.holding.based.is_call; few = l.holding.based.few };
    early = l.holding.early;
    machine = l.holding.machine;
    mode = l.holding.mode;
    whole = l.holding.whole;
    ranges = l.holding.ranges;
    front = l.holding.front;
  };
  long = l.long;
  fit = l.fit;
  input = l.input;
  ends = l.ends;
  page = l.page;
}

-- where the page is known, and in another phase
pub decided_other : (w : Work) (input : Option PageInput) (page : ArrayVec ℕ) (p : Phase) → IsDecided w → IsDecided (record w { input = input; page = page; phase = p })
decided_other w input page p d = record {
  state = d.state;
  holding = record {
    based = record { valid = d.holding.based.valid; caller = d.holding.based.caller; is_call = d.holding.based.is_call; few = d.holding.based.few };
    early = d.holding.early;
    machine = d.holding.machine;
    mode = d.holding.mode;
    whole = d.holding.whole;
    ranges = d.holding.ranges;
    front = d.holding.front;
  };
  long = d.long;
  is_ok = d.is_ok;
  change = d.change;
  ends = d.ends;
}

-- what stands after a later step of one that left the machine and the call as they were
pub at_from : (old mid new : Work) (end ends : Option (Reply × After)) (tree goal : Tree) (most limit : ℕ) → IsAt mid new end tree most
    → tree ≡ goal → most ≤ limit → end ≡ ends → mid.config ≡ old.config → mid.call ≡ old.call → mid.core ≡ old.core → mid.mode ≡ old.mode → IsAt old new ends goal limit
at_from old mid new end ends tree goal most limit h t l e config call core mode = record {
  based = h.based;
  stands = h.stands;
  meaning = h.meaning ∙ t;
  count = omega (arith, h.count, l);
  end = h.end ∙ e;
  config = h.config ∙ config;
  call = h.call ∙ call;
  core = h.core ∙ core;
  mode = h.mode ∙ mode;
}

pub objects_many : (w : Work) → length (objects_in w) ≡ length w.locks.items
objects_many w = length-map w.locks.items (λ l. l.object)

pub take_whole : {X : Type 0} (xs : List X) (n : ℕ) → length xs ≤ n → take n xs ≡ xs
take_whole [] zero h = refl
take_whole [] (suc n) h = refl
take_whole (x ∷ xs) zero h = absurd (omega (arith, h))
take_whole (x ∷ xs) (suc n) h = ap (λ l. x ∷ l) (take_whole xs n (omega (arith, h)))

-- a fact of what is answered
pub if_some : {X : Type 0} (P : X → Type 0) (o : Option X) (x : X) → IfSome o P → o ≡ Some x → P x
if_some P o x h e = subst (λ z. IfSome z P) e h

pub width_some : (o : ObjectId) → 0 < width o
unfolding width
width_some (objects.Enclave e) = omega arith
width_some (objects.Thread t) = omega arith
width_some (objects.Region r) = omega arith
width_some (objects.Cell c) = omega arith
