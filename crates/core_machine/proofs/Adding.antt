-- What the code counts of a move of a call is what the definition says.
use Rattle.std.proofs.Common.{◌≡◌, ◌∙◌, ◌+◌, ◌≤◌, ℕ, List, [], ◌∷◌, length, ap, sym, refl, arith}
use Rattle.mon_types.specs.declared.thread.Mode.{Mode}
use Rattle.protocol.specs.declared.action.Action.{Action}
use Rattle.protocol.specs.declared.action.Action.TheVariants as actions
use Rattle.protocol.specs.declared.action.Draft.{Draft}
use Rattle.protocol.specs.declared.action.Outcome.{Outcome}
use Rattle.protocol.specs.declared.action.Outcome.TheVariants as outcomes
use Rattle.protocol.specs.Views.{word_in, answered_by}
use Rattle.core_machine.specs.declared.own.Own.{Own}
use Rattle.core_machine.specs.Own.{mode_with, counted}

-- ---- words

pub one_word : (out : Outcome) (word : ℕ) → out ≡ outcomes.Word word → 1 ≡ length (word_in out)
unfolding word_in
one_word out word is = ap (λ o. length (word_in o)) (sym is)

pub no_word : (out : Outcome) → ((word : ℕ) → out ≡ outcomes.Word word → ⊥) → 0 ≡ length (word_in out)
unfolding word_in
no_word (outcomes.Word word) other = absurd (other word refl)
no_word _ other = refl

pub few_words : (out : Outcome) → length (word_in out) ≤ 1
unfolding word_in
few_words (outcomes.Word word) = omega arith
few_words _ = omega arith

-- ---- moves

-- with other counts
abbrev with_counts : Own → ℕ → ℕ → ℕ → Own
with_counts own serial events answers = record own { serial = serial; counts = record { events = events; answers = answers } }

same_counts : (own : Own) (m e f a b : ℕ) → own.serial ≡ m → e ≡ f → a ≡ b → with_counts own own.serial e a ≡ with_counts own m f b
same_counts own m e f a b x y z =
    ap (λ n. with_counts own n e a) x ∙ ap (λ n. with_counts own m n a) y ∙ ap (λ n. with_counts own m f n) z

-- a Draw
pub count_drawn : (own : Own) (a : Action) (out : Outcome) (draft : Draft) (mode : Mode) → a ≡ actions.Draw draft → mode ≡ mode_with (actions.Draw draft) own.mode
    → record own { mode = mode; serial = own.serial + 1; counts = record { events = own.counts.events + 1; answers = own.counts.answers } } ≡ counted own a out
unfolding answered_by
count_drawn own a out draft mode is m =
    let none : own.counts.answers ≡ own.counts.answers + 0 = omega arith in
    ap (λ x. record own { mode = x; serial = own.serial + 1; counts = record { events = own.counts.events + 1; answers = own.counts.answers } }) m
    ∙ ap (λ n. record own { mode = mode_with (actions.Draw draft) own.mode; serial = own.serial + 1; counts = record { events = own.counts.events + 1; answers = n } }) none
    ∙ ap (λ x. counted own x out) (sym is)

-- a Load
pub count_loaded : (own : Own) (a : Action) (out : Outcome) (i words : ℕ) → a ≡ actions.Load i → words ≡ length (word_in out)
    → record own { counts = record { events = own.counts.events; answers = own.counts.answers + words } } ≡ counted own a out
unfolding answered_by
count_loaded own a out i words is many =
    let no_call : own.serial ≡ own.serial + 0 = omega arith in
    let no_event : own.counts.events ≡ own.counts.events + 0 = omega arith in
    same_counts own _ _ _ _ _ no_call no_event (ap (λ n. own.counts.answers + n) many)
    ∙ ap (λ x. counted own x out) (sym is)

-- any other
no_counts : (own : Own) → own ≡ with_counts own (own.serial + 0) (own.counts.events + 0) (own.counts.answers + 0)
no_counts own =
    let no_call : own.serial ≡ own.serial + 0 = omega arith in
    let no_event : own.counts.events ≡ own.counts.events + 0 = omega arith in
    let no_answer : own.counts.answers ≡ own.counts.answers + 0 = omega arith in
    same_counts own _ _ _ _ _ no_call no_event no_answer

pub count_none : (own : Own) (a : Action) (out : Outcome) → ((draft : Draft) → a ≡ actions.Draw draft → ⊥) → ((i : ℕ) → a ≡ actions.Load i → ⊥) → own ≡ counted own a out
unfolding answered_by
count_none own (actions.TryLock o) out no_draw no_load = no_counts own
count_none own (actions.Read o i) out no_draw no_load = no_counts own
count_none own (actions.Write o i word) out no_draw no_load = no_counts own
count_none own (actions.Draw draft) out no_draw no_load = absurd (no_draw draft refl)
count_none own (actions.Unlock o) out no_draw no_load = no_counts own
count_none own (actions.Load i) out no_draw no_load = absurd (no_load i refl)
count_none own (actions.Store i word) out no_draw no_load = no_counts own
