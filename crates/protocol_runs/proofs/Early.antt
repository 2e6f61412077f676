-- What every call does up to its Draw: it writes only where it withdraws regions, and its draft is its own.
use Rattle.std.proofs.Common.{◌≡◌, ◌⊎◌, inl, inr, ℕ, zero, suc, Bool, true, false, Option, Some, None, List, [], ◌∷◌, refl, subst}
use Rattle.std.specs.Prelude.{⊤, IsTrue}
use Rattle.std.specs.List.{AllByRecursion}
use Rattle.mon_types.specs.Shape.{Shape}
use Rattle.mon_types.specs.Objects.{width}
use Rattle.mon_types.specs.declared.call.Call.{Call}
use Rattle.mon_types.specs.declared.call.Call.TheVariants as calls
use Rattle.mon_types.specs.declared.object.ObjectId.{ObjectId}
use Rattle.mon_types.specs.declared.reply.Reply.{Reply}
use Rattle.mon_model.specs.State.{State}
use Rattle.hist.specs.declared.event.PageInput.{PageInput}
use Rattle.mon_records.specs.Rows.{Found}
use Rattle.mon_records.specs.EarlyWords.{early_words}
use Rattle.protocol.specs.declared.action.Action.{Action}
use Rattle.protocol.specs.declared.action.Action.TheVariants as actions
use Rattle.protocol.specs.declared.action.Outcome.{Outcome}
use Rattle.protocol.specs.declared.action.Outcome.TheVariants as outcomes
use Rattle.protocol.specs.CallTree.{Tree, Over, Makes, Issuer, finish, early_writes, copy_words, copy_page, put_pte, go_on, walk, walk_below, load_if, loaded, loads_if, early_if, decided_by, decided, reads, meets, after_try, lock, lock_all, lock_plan, unless_refused, call_tree}
use Rattle.protocol.specs.Permitted.{Follows}
use Rattle.protocol.specs.Records.{withdraws_any}

-- up to the Draw
abbrev pub IsEarly : Call → Tree → Type 0
IsEarly call Over = ⊤
IsEarly call (Makes (actions.TryLock o) next) = (out : Outcome) → IsEarly call (next out)
IsEarly call (Makes (actions.Read o i) next) = (out : Outcome) → IsEarly call (next out)
IsEarly call (Makes (actions.Write o i value) next) = IsTrue (withdraws_any call) × ((out : Outcome) → IsEarly call (next out))
IsEarly call (Makes (actions.Draw draft) next) = draft.call ≡ call
IsEarly call (Makes (actions.Unlock o) next) = ⊥
IsEarly call (Makes (actions.Load i) next) = (out : Outcome) → IsEarly call (next out)
IsEarly call (Makes (actions.Store i value) next) = (out : Outcome) → IsEarly call (next out)

none_early : (b : Bool) (s : State) (call : Call) → (early_if b s call ≡ []) ⊎ IsTrue (withdraws_any call)
unfolding early_if early_words
none_early b s (calls.Block r) = inr refl
none_early b s (calls.Delete e) = inr refl
none_early true s _ = inl refl
none_early false s _ = inl refl

module _ (by : Issuer) (call : Call) where
  of_finish : (reply : Reply) (page : Option PageInput) (held : List ObjectId) (known : State) (stands : Found) → IsEarly call (finish by call reply page held known stands)
  unfolding finish
  of_finish reply page held known stands = refl

  of_writes : IsTrue (withdraws_any call) → (ps : List (ℕ × ℕ)) (stands : Found) (next : Found → Tree) → ((f : Found) → IsEarly call (next f)) → IsEarly call (early_writes ps stands next)
  unfolding early_writes
  of_writes w [] stands next h = h stands
  of_writes w (p ∷ ps) stands next h = (w, λ out. of_writes w ps _ next h)

  of_early : (ps : List (ℕ × ℕ)) (stands : Found) (next : Found → Tree) → (ps ≡ []) ⊎ IsTrue (withdraws_any call) → ((f : Found) → IsEarly call (next f)) → IsEarly call (early_writes ps stands next)
  unfolding early_writes
  of_early ps stands next (inr w) h = of_writes w ps stands next h
  of_early [] stands next (inl e) h = h stands
  of_early (p ∷ ps) stands next (inl e) h = absurd (cc (e))

  of_put : (at : Option ℕ) (next : Tree) → IsEarly call next → IsEarly call (put_pte at call next)
  unfolding put_pte
  of_put None next h = h
  of_put (Some place) next h = λ out. h

  of_words : (count i src page : ℕ) (next : List ℕ → Tree) → ((words : List ℕ) → IsEarly call (next words)) → IsEarly call (copy_words count i src page next)
  unfolding copy_words
  of_words zero i src page next h = h []
  of_words (suc count) i src page next h = λ out more. of_words count (suc i) src page _ (λ words. h _)

  of_copy : (c : Call) (at : ℕ) (next : Option PageInput → Tree) → ((page : Option PageInput) → IsEarly call (next page)) → IsEarly call (copy_page c at next)
  unfolding copy_page
  of_copy (calls.LoadPage e va page src perms) at next h = of_words 512 0 src page _ (λ words. h _)
  of_copy _ at next h = h None

  of_go : (b : Bool) (further end : Tree) → IsEarly call further → IsEarly call end → IsEarly call (go_on b further end)
  unfolding go_on
  of_go true further end h k = h
  of_go false further end h k = k

  of_walk : (shape : Shape) (va count level page : ℕ) (next : List (ℕ × ℕ) → Tree) → ((ptes : List (ℕ × ℕ)) → IsEarly call (next ptes)) → IsEarly call (walk shape va level count page next)
  unfolding walk
  of_walk shape va zero level page next h = h []
  of_walk shape va (suc count) level page next h = λ out. of_go _ _ _ (of_walk shape va count _ _ _ (λ ptes. h _)) (h _)

  of_path : (shape : Shape) (va count : ℕ) (root : Option ℕ) (next : List (ℕ × ℕ) → Tree) → ((ptes : List (ℕ × ℕ)) → IsEarly call (next ptes)) → IsEarly call (walk_below shape va count root next)
  unfolding walk_below
  of_path shape va count None next h = h []
  of_path shape va count (Some page) next h = of_walk shape va count 2 page next h

  of_load_if : (b : Bool) (reply : Reply) (ptes : List (ℕ × ℕ)) (known : State) (found : Found) → IsEarly call (load_if b by call reply ptes known found)
  unfolding load_if
  of_load_if false reply ptes known found = of_finish reply None _ known found
  of_load_if true reply ptes known found = of_copy call _ _ (λ page. of_put _ _ (of_finish reply page _ known found))

  of_loaded : (known : State) (found : Found) (ptes : List (ℕ × ℕ)) → IsEarly call (loaded by call known found ptes)
  unfolding loaded
  of_loaded known found ptes = of_load_if _ _ ptes known found

  of_loads_if : (b : Bool) (known : State) (found : Found) → IsEarly call (loads_if b by call known found)
  unfolding loads_if
  of_loads_if false known found = of_loaded known found []
  of_loads_if true known found = of_path known.shape _ _ _ _ (λ ptes. of_loaded known found ptes)

  of_decided_by : (b : Bool) (known : State) (found : Found) → IsEarly call (decided_by b by call known found)
  unfolding decided_by
  of_decided_by true known found = of_loads_if _ known found
  of_decided_by false known found = of_early _ found _ (none_early _ known call) (λ f. of_finish _ None _ known f)

  of_decided : (shape : Shape) (found : Found) → IsEarly call (decided shape by call found)
  unfolding decided
  of_decided shape found = of_decided_by _ _ found

  of_reads : (o : ObjectId) (count i : ℕ) (next : List ℕ → Tree) → ((words : List ℕ) → IsEarly call (next words)) → IsEarly call (reads o count i next)
  unfolding reads
  of_reads o zero i next h = h []
  of_reads o (suc count) i next h = λ out. of_reads o count (suc i) _ (λ words. h _)

  of_try : (found : Found) (o : ObjectId) (next : Found → Tree) → ((f : Found) → IsEarly call (next f)) → (out : Outcome) → IsEarly call (after_try by call found o next out)
  unfolding after_try meets
  of_try found o next h outcomes.Taken = of_reads o (width o) 0 _ (λ words. h _)
  of_try found o next h (outcomes.HeldBy holder serial) = refl
  of_try found o next h (outcomes.Word word) = tt
  of_try found o next h (outcomes.Ticket ticket) = tt
  of_try found o next h outcomes.Done = tt
  of_try found o next h (outcomes.Again before word) = tt

  of_locks : (os : List ObjectId) (found : Found) (next : Found → Tree) → ((f : Found) → IsEarly call (next f)) → IsEarly call (lock_all by call os found next)
  unfolding lock_all lock
  of_locks [] found next h = h found
  of_locks (o ∷ os) found next h = of_try found o _ (λ f. of_locks os f next h)

  of_plan : (shape : Shape) (os : List ObjectId) (next : Found → Tree) → ((f : Found) → IsEarly call (next f)) → IsEarly call (lock_plan shape by call os next)
  unfolding lock_plan lock
  of_plan shape [] next h = h []
  of_plan shape (o ∷ os) next h = of_try [] o _ (λ f. of_locks _ f next h)

  of_unless : (refusal : Option Reply) (next : Tree) → IsEarly call next → IsEarly call (unless_refused refusal by call next)
  unfolding unless_refused
  of_unless None next h = h
  of_unless (Some reply) next h = refl

  pub of_call : (shape : Shape) → IsEarly call (call_tree shape by call)
  unfolding call_tree
  of_call shape = of_unless _ _ (of_plan shape _ _ (of_decided shape))

-- ---- along moves that are no Draw

abbrev pub IsNoDraw : Action → Type 0
IsNoDraw (actions.Draw draft) = ⊥
IsNoDraw _ = ⊤

one_on : (call : Call) (a : Action) (next : Outcome → Tree) (out : Outcome) → IsNoDraw a → IsEarly call (Makes a next) → IsEarly call (next out)
one_on call (actions.TryLock o) next out n h = h out
one_on call (actions.Read o i) next out n h = h out
one_on call (actions.Write o i value) next out n h = h.1 out
one_on call (actions.Draw draft) next out n h = absurd n
one_on call (actions.Unlock o) next out n h = absurd h
one_on call (actions.Load i) next out n h = h out
one_on call (actions.Store i value) next out n h = h out

pub stays_early : (call : Call) (tree : Tree) (ms : List (Action × Outcome)) (rest : Tree) → AllByRecursion (λ m. IsNoDraw m.0) ms → IsEarly call tree → Follows tree ms rest → IsEarly call rest
stays_early call tree [] rest n h f = subst (IsEarly call) f h
stays_early call tree (m ∷ ms) rest n h f = subst (IsEarly call) f.2 (one_on call m.0 f.0 m.1 n.0 (stays_early call tree ms (Makes m.0 f.0) n.1 h f.1))
