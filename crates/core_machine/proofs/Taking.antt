-- The outcome of a move of a call is taken.
use Rattle.std.proofs.Common.{◌≡◌, ◌⊎◌, inl, inr, ◌∙◌, ◌+◌, ◌<◌, ◌≤◌, ℕ, Option, Some, None, List, [], ◌∷◌, ap, sym, refl, subst, arith}
use Rattle.mon_types.specs.Budgets.{event_budget, answer_budget}
use Rattle.mon_types.specs.declared.reply.Reply.{Reply}
use Rattle.core_context.specs.declared.after.After.{After}
use Rattle.core_context.specs.declared.origin.Origin.{Origin}
use Rattle.mon_records.specs.Rows.{Found}
use Rattle.protocol.specs.declared.action.Action.{Action}
use Rattle.protocol.specs.declared.action.Move.{Move}
use Rattle.protocol.specs.declared.action.Move.TheVariants as moves
use Rattle.protocol.specs.declared.action.Outcome.{Outcome}
use Rattle.protocol.specs.Moves.{outcome_of}
use Rattle.protocol.specs.Views.{Moves}
use Rattle.protocol.specs.CallTree.{Tree, Over, Makes}
use Rattle.core_behaviour.specs.Course.{Course, first_of, left_of}
use Rattle.call_machine.specs.declared.work.Work.{Work as CallWork}
use Rattle.call_machine.specs.Kept.{Called}
use Rattle.call_machine.specs.Meaning.{tree_of, found, so_far, Heads, IsOutcome, after, ends_after, IsFoundBy}
use Rattle.core_machine.specs.declared.work.Purpose.{Purpose}
use Rattle.core_machine.specs.declared.work.Purpose.TheVariants as purposes
use Rattle.core_machine.specs.declared.work.Work.{Work}
use Rattle.core_machine.specs.declared.work.Work.TheVariants as works
use Rattle.core_machine.specs.declared.progress.Progress.{Progress}
use Rattle.core_machine.specs.Own.{counted, DrawsInSlots}
use Rattle.core_machine.specs.Meaning.{IsTold, due_in, due_at, due}
use Rattle.core_machine.specs.Kept.{IsUndrawn, IsDrawn, calls_before, answers_with, CallStands, IsBegun, IsOfCore, IsWithin, work_stands, IsSound}
use Rattle.core_machine.specs.Follows.{Follows, told, IsDueOutcome}
use Rattle.core_machine.proofs.Calls.{Left, told_move, due_in_slots, stands_move}
use Rattle.core_machine.proofs.Following.{own_move, follows_move}

-- ---- trees that are over, or not

pub over_or : (t : Tree) → (t ≡ Over) ⊎ (t ≡ Over → ⊥)
over_or Over = inl refl
over_or (Makes action next) = inr (λ e. absurd (cc))

pub heads_due : (t : Tree) (a : Action) → Heads t a → due_in t ≡ Some (moves.InCall a)
heads_due Over a h = absurd h
heads_due (Makes action next) a h = ap (λ x. Some (moves.InCall x)) (sym h)

pub none_due : (t : Tree) → due_in t ≡ None → t ≡ Over
none_due Over e = refl
none_due (Makes action next) e = absurd (cc)

pub over_due : (t : Tree) → ((t ≡ Over → ⊥) → ⊥) → due_in t ≡ None
over_due Over h = refl
over_due (Makes action next) h = absurd (h (λ e. absurd (cc)))

pub due_over : (t : Tree) (move : Move) → due_in t ≡ Some move → t ≡ Over → ⊥
due_over Over move e o = absurd (cc)
due_over (Makes action next) move e o = absurd (cc)

pub due_outcome : (t : Tree) (out : Outcome) (move : Move) (word : ℕ) → due_in t ≡ Some move → out ≡ outcome_of move word → IsOutcome t out
unfolding outcome_of
due_outcome Over out move word e o = absurd (cc)
due_outcome (Makes action next) out move word e o =
    let same : move ≡ moves.InCall action = cc in
    (word, o ∙ ap (λ m. outcome_of m word) same)

-- a move is due of calls alone
pub not_due : {P : Type 0} (k : Progress) (w : Work) (move : Move) → due_at k w ≡ Some move → ((origin : Origin) (purpose : Purpose) (serial : ℕ) → w ≡ works.Calls origin purpose serial → ⊥) → P
not_due k works.Begins move e other = absurd (cc)
not_due k works.Line move e other = absurd (cc)
not_due k (works.Calls origin purpose serial) move e other = absurd (other origin purpose serial refl)
not_due k works.Over move e other = absurd (cc)

pub other_due : (k : Progress) (w : Work) → ((origin : Origin) (purpose : Purpose) (serial : ℕ) → w ≡ works.Calls origin purpose serial → ⊥) → due_at k w ≡ None
other_due k works.Begins other = refl
other_due k works.Line other = refl
other_due k (works.Calls origin purpose serial) other = absurd (other origin purpose serial refl)
other_due k works.Over other = refl

-- ---- what stands of a call

pub few_before : (purpose : Purpose) → (calls_before purpose ≤ 1) × (answers_with purpose ≤ 515)
few_before purposes.Retry = (omega arith, omega arith)
few_before purposes.Line = (omega arith, omega arith)

-- before the Draw or behind it
what_is_left : (k : Progress) (purpose : Purpose) (serial : ℕ) (ends : Option (Reply × After)) → CallStands k purpose serial ends
    → (n : ℕ) × Left k.own.config k.own.mode k.call.work.call n ends (tree_of k.call.work)
unfolding CallStands Left
what_is_left k purpose serial None st = (st.loads, st.opens)
what_is_left k purpose serial (Some end) st = (0, st.ending)

few_counts : (k : Progress) (purpose : Purpose) (serial : ℕ) (ends : Option (Reply × After)) → CallStands k purpose serial ends
    → (k.own.counts.events ≤ k.begun.events + 2) × (k.own.counts.answers ≤ k.begun.answers + 515)
unfolding CallStands
few_counts k purpose serial None st = (omega (arith, st.events, (few_before purpose).0), omega (arith, st.answers, (few_before purpose).1))
few_counts k purpose serial (Some end) st = (omega (arith, st.events, (few_before purpose).0), omega (arith, st.answers, (few_before purpose).1))

module _ (k : Progress) (origin : Origin) (purpose : Purpose) (serial : ℕ) (is : k.work ≡ works.Calls origin purpose serial) (sound : IsSound k) where
  pub here : IsBegun k × IsOfCore k × CallStands k purpose serial k.call.work.ends
  unfolding work_stands
  here = subst (work_stands k) is sound.stands

  pub few_now : (k.own.counts.events < event_budget) × (k.own.counts.answers ≤ answer_budget)
  few_now =
      let few = few_counts k purpose serial k.call.work.ends here.2 in
      (omega (arith, few.0, here.0.events), omega (arith, few.1, here.0.answers))

  pub slots_now : (a : Action) → Heads (tree_of k.call.work) a → DrawsInSlots a
  slots_now a h =
      let left = what_is_left k purpose serial k.call.work.ends here.2 in
      due_in_slots k.own.config k.own.mode k.call.work.call left.0 k.call.work.ends (tree_of k.call.work) a h left.1

  -- ---- the move is made

  module _ (v : Called) (a : Action) (out : Outcome) (h : Heads (tree_of k.call.work) a) (o : IsOutcome (tree_of k.call.work) out)
      (tree : tree_of v.work ≡ after (tree_of k.call.work) out) (ends : v.work.ends ≡ ends_after k.call.work (tree_of k.call.work))
      (finds : k.call.work.ends ≡ None → IsFoundBy (tree_of k.call.work) out (so_far k.call.work) (found k.call.work) (so_far v.work))
      (config : v.work.config ≡ k.call.work.config) (call : v.work.call ≡ k.call.work.call) (core : v.work.core ≡ k.call.work.core) (mode : v.work.mode ≡ k.call.work.mode) where
    abbrev new : Progress
    new = record k { own = counted k.own a out; call = v }

    stands_new : CallStands new purpose serial v.work.ends
    stands_new = stands_move k purpose serial v out call mode k.call.work.ends (tree_of k.call.work) a refl refl h o tree ends here.2

    pub sound_new : IsSound new
    unfolding work_stands
    sound_new = record {
      own = own_move k.own a out sound.own (slots_now a h);
      script = record { scripted = sound.script.scripted; few = sound.script.few; at = sound.script.at };
      stands = subst (work_stands new) (sym is) (
        record { there = here.0.there; events = here.0.events; answers = here.0.answers },
        record { config = config ∙ here.1.config; core = core ∙ here.1.core },
        stands_new,
      );
    }

    pub within_new : IsWithin new 79 600
    within_new =
        let few = few_counts new purpose serial v.work.ends stands_new in
        record { events = omega (arith, few.0); answers = omega (arith, few.1) }

    pub follows_new : (course : Course) (ms : Moves) → Follows k course ms → Follows new course (told (first_of (left_of course ms)) out ms)
    follows_new =
        let left = what_is_left k purpose serial k.call.work.ends here.2 in
        follows_move k origin purpose serial v a out call config mode h tree is
        (λ before. told_move k.call.work v.work out before config call core mode k.own.config k.own.mode left.0 k.call.work.ends (tree_of k.call.work) a h refl left.1 ends finds)

-- a call of which there is an end is over
pub over_of : {X : Type 0} (t : Tree) (o : Option X) (x : X) → ((t ≡ Over → ⊥) → o ≡ None) → o ≡ Some x → t ≡ Over
over_of Over o x left some = refl
over_of (Makes action next) o x left some = absurd (let e = left (λ e. absurd (cc)) in cc)
