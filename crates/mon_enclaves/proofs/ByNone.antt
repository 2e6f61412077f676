-- The reply by any ptes is the reply by none, but where that is Ok the ptes decide.
use Rattle.std.proofs.Common.{◌≡◌, Bool, true, false, cond, ◌&&◌, List, [], ℕ, refl}
use Rattle.mon_types.specs.Shape.{Shape}
use Rattle.mon_types.specs.Replies.{is_done, done_if}
use Rattle.mon_types.specs.declared.region.Region.{Region}
use Rattle.mon_types.specs.declared.enclave.Enclave.{Enclave}
use Rattle.mon_types.specs.declared.call.Call.{Call}
use Rattle.mon_types.specs.declared.call.Call.TheVariants as calls
use Rattle.mon_types.specs.declared.reply.Reply.TheVariants as replies
use Rattle.mon_model.specs.Loading.{takes_page, reserves_page}
use Rattle.mon_model.specs.EnclaveCalls.{table_fits, leaf_fits, is_os_owned}
use Rattle.mon_enclaves.specs.ByWords.{table_path, leaf_path, words_fit}
use Rattle.mon_enclaves.specs.LoadReply.{path_length, reply_by_words}

-- where the records say a, and the ptes f
by_records : (a f : Bool) → done_if (a && f) ≡ cond (is_done (done_if (a && true))) (done_if f) (done_if (a && true))
by_records true f = refl
by_records false f = refl

-- the same where the region of the page that is copied says b
by_source : (a b f : Bool)
    → cond a (cond b (done_if f) replies.AccessDenied) replies.InvalidState
    ≡ cond (is_done (cond a (cond b (done_if true) replies.AccessDenied) replies.InvalidState)) (done_if f) (cond a (cond b (done_if true) replies.AccessDenied) replies.InvalidState)
by_source true true f = refl
by_source true false f = refl
by_source false b f = refl

pub by_none : (shape : Shape) (enclave : Enclave) (source : Region) (call : Call) (words : List ℕ)
    → reply_by_words shape enclave source call words
    ≡ cond (is_done (reply_by_words shape enclave source call [])) (done_if (words_fit shape (path_length call) words)) (reply_by_words shape enclave source call [])
by_none shape enclave source (calls.LoadTable e va level page) words = by_records (takes_page shape enclave page && table_fits enclave va level) (words_fit shape (table_path level) words)
by_none shape enclave source (calls.LoadPage e va page src perms) words = by_source (takes_page shape enclave page && leaf_fits enclave va) (is_os_owned source) (words_fit shape leaf_path words)
by_none shape enclave source (calls.Reserve e va page perms) words = by_records (reserves_page shape enclave page && leaf_fits enclave va) (words_fit shape leaf_path words)
by_none shape enclave source _ words = refl
