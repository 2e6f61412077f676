-- A call that goes on to the ptes on its path is decided by them, each other one by the records.
use Rattle.std.proofs.Common.{◌≡◌, ℕ, Bool, true, false, cond, ◌&&◌, Option, None, Some, List, [], refl, sym, ap, ◌∙◌}
use Rattle.std.specs.Prelude.{is_none}
use Rattle.mon_types.specs.Shape.{Shape, region_of_page}
use Rattle.mon_types.specs.Replies.{is_done, done_if}
use Rattle.mon_types.specs.declared.thread.Mode.{Mode}
use Rattle.mon_types.specs.declared.call.Call.{Call}
use Rattle.mon_types.specs.declared.call.Call.TheVariants as calls
use Rattle.mon_types.specs.declared.reply.Reply.{Reply}
use Rattle.mon_model.specs.State.{State, region_at, enclave_at, mode_of, loaded_at}
use Rattle.mon_model.specs.Early.{early}
use Rattle.mon_model.specs.Tries.{held_tries, tries}
use Rattle.mon_model.specs.Step.{held_reply, or_else, reply_of}
use Rattle.mon_facts.specs.Tables.{AreTables}
use Rattle.mon_enclaves.specs.ByWords.{words_fit}
use Rattle.mon_enclaves.specs.FromItems.{table_words, leaf_words}
use Rattle.mon_enclaves.specs.LoadReply.{is_load, path_length, words_reply, reads_ptes}
use Rattle.mon_enclaves.proofs.ByNone.{by_none}
use Rattle.lock_plan.specs.declared.held.Held.{Held}
use Rattle.lock_plan.specs.EveryPlan.{tries_held}
use Rattle.lock_plan.specs.Records.{records_of}
use Rattle.mon_calls.specs.Replied.{replied}
use Rattle.mon_calls.specs.Decided.{ArePathWords}
use Rattle.mon_calls.proofs.Said.{said}

-- what the call answers by these ptes and the records of all that it tries, where it is not refused early
abbrev reply_with : State → ℕ → Call → List ℕ → Reply
reply_with s core call words = replied s.shape (mode_of s core) call (records_of s (held_tries s core call)) words

-- by the records alone
first : (s : State) (core : ℕ) (call : Call) → (is_load call && is_done (reply_with s core call [])) ≡ is_done (words_reply s call [])
first s core (calls.LoadTable e va level page) = refl
first s core (calls.LoadPage e va page src perms) = refl
first s core (calls.Reserve e va page perms) = refl
first s core _ = refl

-- a refusal by the records stands
stands : (s : State) (core : ℕ) (call : Call) → AreTables s → early s.shape (mode_of s core) call ≡ None → (is_load call && is_done (reply_with s core call [])) ≡ false → reply_with s core call [] ≡ held_reply s core call
stands s core (calls.LoadTable e va level page) t none refused =
    let words : List ℕ = table_words (loaded_at s e) va level in
    let by = by_none s.shape (enclave_at s e) (region_at s 0) (calls.LoadTable e va level page) words in
    sym (by ∙ ap (λ b. cond b (done_if (words_fit s.shape (path_length (calls.LoadTable e va level page)) words)) (reply_with s core (calls.LoadTable e va level page) [])) refused)
    ∙ said s core (calls.LoadTable e va level page) words t.machine t.whole ((t.items e).pages, refl) none
stands s core (calls.LoadPage e va page src perms) t none refused =
    let words : List ℕ = leaf_words (loaded_at s e) va 0 in
    let by = by_none s.shape (enclave_at s e) (region_at s (region_of_page s.shape src)) (calls.LoadPage e va page src perms) words in
    sym (by ∙ ap (λ b. cond b (done_if (words_fit s.shape (path_length (calls.LoadPage e va page src perms)) words)) (reply_with s core (calls.LoadPage e va page src perms) [])) refused)
    ∙ said s core (calls.LoadPage e va page src perms) words t.machine t.whole ((t.items e).pages, (0, refl)) none
stands s core (calls.Reserve e va page perms) t none refused =
    let words : List ℕ = leaf_words (loaded_at s e) va 0 in
    let by = by_none s.shape (enclave_at s e) (region_at s 0) (calls.Reserve e va page perms) words in
    sym (by ∙ ap (λ b. cond b (done_if (words_fit s.shape (path_length (calls.Reserve e va page perms)) words)) (reply_with s core (calls.Reserve e va page perms) [])) refused)
    ∙ said s core (calls.Reserve e va page perms) words t.machine t.whole ((t.items e).pages, (0, refl)) none
stands s core call t none refused = said s core call [] t.machine t.whole tt none

-- by the ptes, where the records do not refuse it
by_ptes : (s : State) (core : ℕ) (call : Call) (words : List ℕ) → AreTables s → early s.shape (mode_of s core) call ≡ None → is_done (words_reply s call []) ≡ true → ArePathWords s call words
    → done_if (words_fit s.shape (path_length call) words) ≡ held_reply s core call
by_ptes s core (calls.LoadTable e va level page) words t none ok given =
    let by = by_none s.shape (enclave_at s e) (region_at s 0) (calls.LoadTable e va level page) words in
    sym (by ∙ ap (λ b. cond b (done_if (words_fit s.shape (path_length (calls.LoadTable e va level page)) words)) (words_reply s (calls.LoadTable e va level page) [])) ok)
    ∙ said s core (calls.LoadTable e va level page) words t.machine t.whole given none
by_ptes s core (calls.LoadPage e va page src perms) words t none ok given =
    let by = by_none s.shape (enclave_at s e) (region_at s (region_of_page s.shape src)) (calls.LoadPage e va page src perms) words in
    sym (by ∙ ap (λ b. cond b (done_if (words_fit s.shape (path_length (calls.LoadPage e va page src perms)) words)) (words_reply s (calls.LoadPage e va page src perms) [])) ok)
    ∙ said s core (calls.LoadPage e va page src perms) words t.machine t.whole given none
by_ptes s core (calls.Reserve e va page perms) words t none ok given =
    let by = by_none s.shape (enclave_at s e) (region_at s 0) (calls.Reserve e va page perms) words in
    sym (by ∙ ap (λ b. cond b (done_if (words_fit s.shape (path_length (calls.Reserve e va page perms)) words)) (words_reply s (calls.Reserve e va page perms) [])) ok)
    ∙ said s core (calls.Reserve e va page perms) words t.machine t.whole given none
by_ptes s core _ words t none ok given = absurd (cc)

-- ---- as the code has it

-- what is known of a call that goes on to its ptes
pub not_early : (o : Option Reply) (b : Bool) → (is_none o && b) ≡ true → (o ≡ None) × (b ≡ true)
not_early None b h = (refl, h)
not_early (Some refusal) b h = absurd (cc)

pub ptes_decide : (s : State) (core : ℕ) (call : Call) (words : List ℕ) → AreTables s → reads_ptes s core call ≡ true → ArePathWords s call words → done_if (words_fit s.shape (path_length call) words) ≡ reply_of s core call
ptes_decide s core call words t goes_on given =
    let h = not_early (early s.shape (mode_of s core) call) (is_done (words_reply s call [])) goes_on in
    by_ptes s core call words t h.0 h.1 given ∙ ap (λ o. or_else o (held_reply s core call)) (sym h.0)

-- the answer of `decide` without ptes
with_none : (s : State) (core : ℕ) (mode : Mode) (call : Call) (shape : Shape) (held : Held) (answer : Reply) → s.shape ≡ shape → mode ≡ mode_of s core → early s.shape (mode_of s core) call ≡ None
    → held ≡ records_of s (tries s core call) → answer ≡ replied shape mode call held [] → answer ≡ reply_with s core call []
with_none s core mode call shape held answer machine in_mode none records is =
    is ∙ ap (λ h. replied shape mode call h []) (records ∙ ap (records_of s) (tries_held s core call none))
    ∙ ap (λ m. replied m mode call (records_of s (held_tries s core call)) []) (sym machine)
    ∙ ap (λ m. replied s.shape m call (records_of s (held_tries s core call)) []) in_mode

pub goes_on : (s : State) (core : ℕ) (mode : Mode) (call : Call) (shape : Shape) (held : Held) (answer : Reply) → s.shape ≡ shape → mode ≡ mode_of s core → early s.shape (mode_of s core) call ≡ None
    → held ≡ records_of s (tries s core call) → answer ≡ replied shape mode call held [] → (is_load call && is_done answer) ≡ reads_ptes s core call
goes_on s core mode call shape held answer machine in_mode none records is =
    ap (λ r. is_load call && is_done r) (with_none s core mode call shape held answer machine in_mode none records is)
    ∙ first s core call ∙ ap (λ o. is_none o && is_done (words_reply s call [])) (sym none)

pub records_decide : (s : State) (core : ℕ) (mode : Mode) (call : Call) (shape : Shape) (held : Held) (answer : Reply) → AreTables s → s.shape ≡ shape → mode ≡ mode_of s core → early s.shape (mode_of s core) call ≡ None
    → held ≡ records_of s (tries s core call) → answer ≡ replied shape mode call held [] → (is_load call && is_done answer) ≡ false → answer ≡ reply_of s core call
records_decide s core mode call shape held answer t machine in_mode none records is refused =
    let so = with_none s core mode call shape held answer machine in_mode none records is in
    so ∙ stands s core call t none (ap (λ r. is_load call && is_done r) (sym so) ∙ refused) ∙ ap (λ o. or_else o (held_reply s core call)) (sym none)
