-- No call begins with a Read.
use Rattle.std.proofs.Common.{ℕ, zero, suc, Bool, true, false, Option, Some, None, List, [], ◌∷◌, subst}
use Rattle.std.specs.Prelude.{⊤}
use Rattle.mon_types.specs.Shape.{Shape}
use Rattle.mon_types.specs.declared.call.Call.{Call}
use Rattle.mon_types.specs.declared.call.Call.TheVariants as calls
use Rattle.mon_types.specs.declared.object.ObjectId.{ObjectId}
use Rattle.mon_types.specs.declared.reply.Reply.{Reply}
use Rattle.mon_model.specs.State.{State}
use Rattle.hist.specs.declared.event.PageInput.{PageInput}
use Rattle.mon_records.specs.Rows.{Found}
use Rattle.protocol.specs.declared.action.Action.{Action}
use Rattle.protocol.specs.declared.action.Action.TheVariants as actions
use Rattle.protocol.specs.declared.action.Outcome.{Outcome}
use Rattle.protocol.specs.CallTree.{Tree, Over, Makes, Issuer, finish, early_writes, copy_words, copy_page, put_pte, walk, walk_below, load_if, loaded, loads_if, decided_by, decided, lock, lock_plan, unless_refused, call_tree}
use Rattle.protocol.specs.Permitted.{Follows}

-- an action is no Read
abbrev pub IsNoRead : Action → Type 0
IsNoRead (actions.TryLock o) = ⊤
IsNoRead (actions.Read o i) = ⊥
IsNoRead (actions.Write o i value) = ⊤
IsNoRead (actions.Draw draft) = ⊤
IsNoRead (actions.Unlock o) = ⊤
IsNoRead (actions.Load i) = ⊤
IsNoRead (actions.Store i value) = ⊤

-- nor is the first of a tree
abbrev pub BeginsWell : Tree → Type 0
BeginsWell Over = ⊤
BeginsWell (Makes a next) = IsNoRead a

well_finish : (by : Issuer) (call : Call) (reply : Reply) (page : Option PageInput) (held : List ObjectId) (known : State) (stands : Found) → BeginsWell (finish by call reply page held known stands)
unfolding finish
well_finish by call reply page held known stands = tt

well_early : (ps : List (ℕ × ℕ)) (stands : Found) (next : Found → Tree) → ((f : Found) → BeginsWell (next f)) → BeginsWell (early_writes ps stands next)
unfolding early_writes
well_early [] stands next h = h stands
well_early (p ∷ ps) stands next h = tt

well_put : (at : Option ℕ) (call : Call) (next : Tree) → BeginsWell next → BeginsWell (put_pte at call next)
unfolding put_pte
well_put None call next h = h
well_put (Some place) call next h = tt

well_copy : (call : Call) (at : ℕ) (next : Option PageInput → Tree) → ((page : Option PageInput) → BeginsWell (next page)) → BeginsWell (copy_page call at next)
unfolding copy_page copy_words
well_copy (calls.LoadPage e va page src perms) at next h = tt
well_copy _ at next h = h None

well_walk : (shape : Shape) (va count : ℕ) (root : Option ℕ) (next : List (ℕ × ℕ) → Tree) → ((ptes : List (ℕ × ℕ)) → BeginsWell (next ptes)) → BeginsWell (walk_below shape va count root next)
unfolding walk_below walk
well_walk shape va count None next h = h []
well_walk shape va zero (Some page) next h = h []
well_walk shape va (suc count) (Some page) next h = tt

module _ (by : Issuer) (call : Call) where
  well_load_if : (b : Bool) (reply : Reply) (ptes : List (ℕ × ℕ)) (known : State) (found : Found) → BeginsWell (load_if b by call reply ptes known found)
  unfolding load_if
  well_load_if false reply ptes known found = well_finish by call reply None _ known found
  well_load_if true reply ptes known found = well_copy call _ _ (λ page. well_put _ call _ (well_finish by call reply page _ known found))

  well_loaded : (known : State) (found : Found) (ptes : List (ℕ × ℕ)) → BeginsWell (loaded by call known found ptes)
  unfolding loaded
  well_loaded known found ptes = well_load_if _ _ ptes known found

  well_loads_if : (b : Bool) (known : State) (found : Found) → BeginsWell (loads_if b by call known found)
  unfolding loads_if
  well_loads_if false known found = well_loaded known found []
  well_loads_if true known found = well_walk known.shape _ _ _ _ (λ ptes. well_loaded known found ptes)

  well_decided_by : (b : Bool) (known : State) (found : Found) → BeginsWell (decided_by b by call known found)
  unfolding decided_by
  well_decided_by true known found = well_loads_if _ known found
  well_decided_by false known found = well_early _ found _ (λ f. well_finish by call _ None _ known f)

  well_decided : (shape : Shape) (found : Found) → BeginsWell (decided shape by call found)
  unfolding decided
  well_decided shape found = well_decided_by _ _ found

  well_plan : (shape : Shape) (os : List ObjectId) → BeginsWell (lock_plan shape by call os (decided shape by call))
  unfolding lock_plan lock
  well_plan shape [] = well_decided shape []
  well_plan shape (o ∷ os) = tt

  well_unless : (refusal : Option Reply) (next : Tree) → BeginsWell next → BeginsWell (unless_refused refusal by call next)
  unfolding unless_refused
  well_unless None next h = h
  well_unless (Some reply) next h = tt

  pub no_read_first : (shape : Shape) (o : ObjectId) (i : ℕ) (out : Outcome) (rest : Tree) → Follows (call_tree shape by call) ((actions.Read o i, out) ∷ []) rest → ⊥
  unfolding call_tree
  no_read_first shape o i out rest follows = subst BeginsWell follows.1 (well_unless _ _ (well_plan shape _))
