-- What holds of the state and its content holds after any number of entries of a legal history.
use Rattle.std.proofs.Common.{◌≡◌, ℕ, zero, suc, ◌+◌, ◌<◌, Bool, true, false, cond, List, [], ◌∷◌, ◌++◌, length, take, refl, sym, ap, ◌∙◌, subst, arith}
use Rattle.std.specs.List.{flat_map, AllByRecursion}
use Rattle.mon_types.specs.Shape.{Shape, is_shape}
use Rattle.mon_types.specs.Replies.{is_done, is_concurrent}
use Rattle.mon_types.specs.declared.reply.Reply.{Reply}
use Rattle.mon_types.specs.declared.reply.Reply.TheVariants as replies
use Rattle.mon_model.specs.State.{State, start}
use Rattle.mon_model.specs.EveryStep.{after_shape}
use Rattle.mon_model.specs.Step.{reply_of, after}
use Rattle.mon_facts.proofs.TablesKept.{start_sound, after_tables}
use Rattle.mon_facts.proofs.FactsKept.{start_kept, after_kept}
use Rattle.hist.specs.declared.event.Entry.{Entry}
use Rattle.hist.specs.declared.event.Event.{Event}
use Rattle.hist.specs.History.{entries_of, log_of, history, digest_of, after_entry, after_entries, state_after}
use Rattle.hist.specs.Legal.{AreOwn, IsLegalEntry, AreLegalEntries, Legal}
use Rattle.hist.proofs.Ascending.{all_ordered}
use Rattle.loaded_pages.specs.Content.{Content, zero_content, content_by, content_after}
use Rattle.loaded_pages.specs.History.{entry_words, after_one, content_from, content_at}
use Rattle.loaded_pages.specs.Laws.{Reached}
use Rattle.loaded_pages.proofs.Loads.{content_start, content_stays}

-- ---- the cores of the entries

abbrev pub AreOf : ℕ → List Entry → Type 0
AreOf n es = AllByRecursion (λ e. e.core < n) es

own_of : (n core serial before : ℕ) (es : List Entry) → core < n → AreOwn core serial before es → AreOf n es
own_of n core serial before [] lt own = tt
own_of n core serial before (e ∷ es) lt own = (subst (λ c. c < n) (sym own.0.core) lt, own_of n core (serial + 1) e.ticket es lt own.1)

both_of : (n : ℕ) (es xs : List Entry) → AreOf n es → AreOf n xs → AreOf n (es ++ xs)
both_of n [] xs a b = b
both_of n (e ∷ es) xs a b = (a.0, both_of n es xs a.1 b)

all_of : (n : ℕ) (logs : List (List Event)) → ((i : ℕ) → i < length logs → AreOf n (entries_of (log_of logs i))) → AreOf n (flat_map entries_of logs)
all_of n [] h = tt
all_of n (log ∷ logs) h = both_of n (entries_of log) (flat_map entries_of logs) (h 0 (omega arith)) (all_of n logs (λ i lt. h (suc i) (omega arith)))

pub history_of : (shape : Shape) (logs : List (List Event)) → Legal shape logs → AreOf shape.cores (history logs)
history_of shape logs legal = all_ordered (λ e. e.core < shape.cores) (flat_map entries_of logs) (all_of shape.cores logs (λ i lt. own_of shape.cores i 0 0 (entries_of (log_of logs i)) (omega (arith, legal.count)) (legal.own i lt)))

-- ---- one entry

not_done : (reply : Reply) → is_concurrent reply ≡ true → is_done reply ≡ false
not_done (replies.Ok count words) h = absurd (cc)
not_done _ h = refl

pub one_call : (s : State) (f : Content) (core : ℕ) (e : Entry) (words digest : List ℕ) (k : ℕ) → core < s.shape.cores → Reached s f → Reached (after s core e.call digest k) (content_after s (reply_of s core e.call) e.call words f)
one_call s f core e words digest k small h =
    let facts = after_kept s core e.call digest k small h.tables h.facts in
    record {
      tables = after_tables s core e.call digest k small h.tables;
      facts = facts;
      holds = content_stays s f core e.call words digest k h.tables.whole h.facts facts h.holds;
    }

refused_content : (s : State) (f : Content) (e : Entry) (words : List ℕ) → is_done e.reply ≡ false → content_after s e.reply e.call words f ≡ f
unfolding content_after
refused_content s f e words refused = ap (λ b. cond b (content_by s e.call words f) f) refused

pub entry_reached : (answers : List (List ℕ)) (s : State) (f : Content) (e : Entry) → e.core < s.shape.cores → IsLegalEntry s e → Reached s f → Reached (after_entry s e) (after_one answers s e f)
entry_reached answers s f e small legal h = by (is_concurrent e.reply) (not_done e.reply) legal.reply
  where
    x : State
    x = after s e.core e.call (digest_of e.page) e.ticket

    by : (b : Bool) → (b ≡ true → is_done e.reply ≡ false) → (b ≡ false → e.reply ≡ reply_of s e.core e.call) → Reached (cond b s x) (after_one answers s e f)
    by true refused reply = subst (Reached s) (sym (refused_content s f e (entry_words answers e) (refused refl))) h
    by false refused reply = subst (λ (r : Reply). Reached x (content_after s r e.call (entry_words answers e) f)) (sym (reply refl)) (one_call s f e.core e (entry_words answers e) (digest_of e.page) e.ticket small h)

pub entry_shape : (s : State) (e : Entry) → (after_entry s e).shape ≡ s.shape
entry_shape s e = by (is_concurrent e.reply)
  where
    by : (b : Bool) → (cond b s (after s e.core e.call (digest_of e.page) e.ticket)).shape ≡ s.shape
    by true = refl
    by false = after_shape s e.core e.call (digest_of e.page) e.ticket

-- ---- any number of entries

entries_reached : (answers : List (List ℕ)) (n k : ℕ) (s : State) (f : Content) (es : List Entry) → s.shape.cores ≡ n → AreOf n es → AreLegalEntries s es → Reached s f → Reached (after_entries s (take k es)) (content_from answers s (take k es) f)
entries_reached answers n zero s f es shape cores legal h = h
entries_reached answers n (suc k) s f [] shape cores legal h = h
entries_reached answers n (suc k) s f (e ∷ es) shape cores legal h =
    entries_reached answers n k (after_entry s e) (after_one answers s e f) es (ap (λ m. m.cores) (entry_shape s e) ∙ shape) cores.1 legal.1 (entry_reached answers s f e (omega (arith, shape, cores.0)) legal.0 h)

pub start_reached : (shape : Shape) → is_shape shape ≡ true → Reached (start shape) zero_content
start_reached shape is = record { tables = start_sound shape is; facts = start_kept shape; holds = content_start shape }

pub history_reaches : (shape : Shape) (logs : List (List Event)) (answers : List (List ℕ)) (k : ℕ) → is_shape shape ≡ true → Legal shape logs → Reached (state_after shape logs k) (content_at shape logs answers k)
history_reaches shape logs answers k is legal = entries_reached answers shape.cores k (start shape) zero_content (history logs) refl (history_of shape logs legal) legal.entries (start_reached shape is)
