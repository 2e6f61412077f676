-- The ptes that a call reads which was begun.
use Rattle.std.proofs.Common.{◌≡◌, ℕ, Bool, true, false, cond, List, [], refl, sym, ap, ◌∙◌}
use Rattle.mon_types.specs.Shape.{Shape}
use Rattle.mon_types.specs.Replies.{is_done}
use Rattle.mon_types.specs.declared.enclave.Enclave.{Enclave}
use Rattle.mon_types.specs.declared.call.Call.{Call}
use Rattle.mon_types.specs.declared.call.Call.TheVariants as calls
use Rattle.mon_model.specs.State.{State, enclave_at, mode_of}
use Rattle.mon_model.specs.Early.{early}
use Rattle.mon_model.specs.Tries.{held_tries, tries}
use Rattle.dram_map.specs.Words.{word_at}
use Rattle.mon_enclaves.specs.LoadReply.{slot_of, call_path, words_reply, reads_ptes}
use Rattle.lock_plan.specs.EveryPlan.{tries_held}
use Rattle.lock_plan.specs.Plan.{first_enclave}
use Rattle.lock_plan.specs.Records.{records_of}
use Rattle.mon_seq.specs.declared.begun.Begun.{Begun}
use Rattle.mon_seq.specs.Begun.{begun_in}
use Rattle.mon_seq.proofs.Decided.{not_early}
use Rattle.solo.specs.Core.{Core}
use Rattle.solo.specs.Calls.{pte_places}

-- its enclave is the first that it holds
own_held : (s : State) (call : Call) → is_done (words_reply s call []) ≡ true → first_enclave (records_of s (held_tries s 0 call)) ≡ enclave_at s (slot_of call)
own_held s (calls.LoadTable e va level page) h = refl
own_held s (calls.LoadPage e va page src perms) h = refl
own_held s (calls.Reserve e va page perms) h = refl
own_held s _ h = absurd (cc)

own : (s : State) (call : Call) → reads_ptes s 0 call ≡ true → first_enclave (records_of s (tries s 0 call)) ≡ enclave_at s (slot_of call)
own s call h =
    let k = not_early (early s.shape (mode_of s 0) call) (is_done (words_reply s call [])) h in
    ap (λ l. first_enclave (records_of s l)) (tries_held s 0 call k.0) ∙ own_held s call k.1

same : (b : Bool) (path : Enclave → List ℕ) (x y : Enclave) → (b ≡ true → x ≡ y) → cond b (path x) [] ≡ cond b (path y) []
same true path x y h = ap path (h refl)
same false path x y h = refl

pub places_are : (c : Core) (shape : Shape) (call : Call) (begun : Begun) (places : List ℕ) → c.state.shape ≡ shape → begun ≡ begun_in c.state 0 call
    → places ≡ cond begun.reads_ptes (call_path shape (word_at c.words) (first_enclave begun.held) call) [] → places ≡ pte_places c call
places_are c shape call begun places machine is so =
    so
    ∙ ap (λ (b : Begun). cond b.reads_ptes (call_path shape (word_at c.words) (first_enclave b.held) call) []) is
    ∙ ap (λ (m : Shape). cond (reads_ptes c.state 0 call) (call_path m (word_at c.words) (first_enclave (records_of c.state (tries c.state 0 call))) call) []) (sym machine)
    ∙ same (reads_ptes c.state 0 call) (λ x. call_path c.state.shape (word_at c.words) x call) _ _ (own c.state call)
