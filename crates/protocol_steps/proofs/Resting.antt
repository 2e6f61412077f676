-- Where no call is under way, nothing is held and nothing is still to be done.
use Rattle.std.proofs.Common.{◌≡◌, inl, inr, ◌∙◌, ℕ, true, false, cond, List, [], ap, sym, subst}
use Rattle.std.specs.Prelude.{Contains}
use Rattle.std.proofs.lemmas.Bool.{cases_eq, cases_lt}
use Rattle.mon_types.specs.Shape.{Shape}
use Rattle.mon_types.specs.declared.call.Call.TheVariants as calls
use Rattle.mon_types.specs.declared.object.ObjectId.{ObjectId}
use Rattle.mon_records.proofs.Members.{contains_in}
use Rattle.hist.specs.Busy.{Nothing, Busy}
use Rattle.protocol.specs.Places.{Lock}
use Rattle.protocol.specs.CallTree.{onto}
use Rattle.protocol.specs.Views.{Moves, held_of, call_moves, are_any, is_calling, has_drawn}
use Rattle.protocol.specs.Worlds.{World, logs, IsNotHeld}
use Rattle.protocol.specs.Passes.{IsGiven}
use Rattle.protocol.specs.Logs.{under_way_by, under_way, AreDoing}
use Rattle.protocol.specs.Invariant.{Stand}
use Rattle.protocol_steps.specs.Rest.{AllRest, Rests, RestsWhereNoCallIs}
use Rattle.protocol_steps.proofs.Views.{none_held}
use Rattle.protocol_steps.proofs.Rights.{none_made}
use Rattle.protocol_steps.proofs.Given.{given_stands}

nothing_under : (ms : Moves) → call_moves ms ≡ [] → under_way calls.Exit ms ≡ Nothing
unfolding under_way under_way_by has_drawn
nothing_under ms e = ap (λ z. cond (has_drawn z) Nothing (under_way_by calls.Exit (onto (held_of ms) []) z)) e

not_calling : (ms : Moves) → call_moves ms ≡ [] → is_calling ms ≡ true → ⊥
unfolding are_any
not_calling ms e calls = clash (sym (ap are_any e) ∙ calls)
  where
    clash : false ≡ true → ⊥
    clash f = cc

module _ (shape : Shape) (w : World) (rest : AllRest shape w) (stand : Stand shape w) where
  not_held : (o : ObjectId) → IsNotHeld shape w o
  not_held o core by = contains_in [] o (subst (λ (held : List ObjectId). Contains held o) (none_held (w.moves core) (rest core by.of_machine)) by.held)

  none_doing : AreDoing shape w (λ core. calls.Exit)
  none_doing core lt calling = absurd (not_calling (w.moves core) (rest core lt) calling)

  rests : ((core : ℕ) → call_moves (w.moves core) ≡ []) → Rests shape w
  rests every = record {
    locks = λ o there. elim (cases_eq (w.memory (Lock o)) 0) [
      | inl e ↦ e
      | inr ne ↦ (let named = stand.item_3.named o there ne in absurd (not_held o named.0 named.1.held))
    ];
    rows = λ o i there b. stand.item_4 o i there b (not_held o);
    loading = λ e i of. stand.item_8.free e i of (not_held _);
    zeros = λ i b is_idle. elim (stand.item_9 i b is_idle) [ inl e ↦ e | inr x ↦ absurd (not_held _ x.0 x.1.held) ];
    busy = subst (λ now. Busy shape (logs shape w) now) (λ i core. nothing_under (w.moves core) (every core) i) (stand.item_10.busy (λ core. calls.Exit) none_doing);
  }

-- cores that are none of the machine's have made no move
all_none : (shape : Shape) (dram : List ℕ) (count : ℕ) (w : World) → IsGiven shape dram count w → AllRest shape w → (core : ℕ) → call_moves (w.moves core) ≡ []
unfolding call_moves
all_none shape dram count w given rest core = elim (cases_lt core shape.cores) [
  | inl lt ↦ rest core lt
  | inr le ↦ ap call_moves (given.1.moves core ∙ none_made shape dram given.0 core given.1.permitted le)
]

pub rests_where_no_call_is : RestsWhereNoCallIs
rests_where_no_call_is shape is dram count w given rest = rests shape w rest (given_stands shape is dram count w given) (all_none shape dram count w given rest)
