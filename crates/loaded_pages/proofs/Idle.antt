-- Regions that nobody has: no call makes one but by freeing it, and a region that is given away was one.
use Rattle.std.proofs.Common.{◌≡◌, ◌⊎◌, inl, inr, ◌∙◌, ℕ, Bool, true, false, cond, eqb, Option, Some, None, List, [], ◌∷◌, ap, sym, refl, get_or}
use Rattle.std.proofs.lemmas.Bool.{cases_eq}
use Rattle.mon_types.specs.Bits.{has_bit, with_bit}
use Rattle.mon_types.specs.Owns.{os_word}
use Rattle.mon_types.specs.Replies.{is_done, done_if}
use Rattle.mon_types.specs.declared.region.Owner.TheVariants as owners
use Rattle.mon_types.specs.declared.region.Region.{Region}
use Rattle.mon_types.specs.declared.region.Region.TheVariants as regions
use Rattle.mon_types.specs.declared.enclave.Enclave.{Enclave}
use Rattle.mon_types.specs.declared.thread.Mode.{Mode}
use Rattle.mon_types.specs.declared.thread.Mode.TheVariants as modes
use Rattle.mon_types.specs.declared.call.Call.{Call}
use Rattle.mon_types.specs.declared.call.Call.TheVariants as calls
use Rattle.mon_types.specs.declared.reply.Reply.TheVariants as replies
use Rattle.mon_model.proofs.Bits.{with-other}
use Rattle.mon_model.specs.State.{State, region_at, enclave_at, mode_of, with_region}
use Rattle.mon_model.specs.RegionCalls.{is_empty, is_free, blocked, assigned, assign_reply, accept_region_reply}
use Rattle.mon_model.specs.EnclaveCalls.{deleted}
use Rattle.mon_model.specs.Step.{reply_of, held_reply, after, effect, assignee, without_own_region, with_deleted, regions_of}
use Rattle.mon_model.proofs.Carried.{carried}
use Rattle.mon_facts.specs.Facts.{FactsHold, is_owned_by}
use Rattle.mon_facts.proofs.FactsKept.{free-unowned, is_free-unowned}
use Rattle.loaded_pages.specs.Content.{emptied}
use Rattle.mon_model.specs.RegionStep.{is_idle}
use Rattle.mon_model.proofs.Writes.{at_set}
use Rattle.loaded_pages.proofs.Cases.{clash, none_some, some_same}

pub gained : (w q r : ℕ) → has_bit (with_bit w q) r ≡ true → (r ≡ q) ⊎ (has_bit w r ≡ true)
gained w q r h = elim (cases_eq r q) [ inl e ↦ inl e | inr ne ↦ inr (sym (with-other w q r ne) ∙ h) ]

-- ---- one region

blocked_idle : (g : Region) (k : ℕ) → is_idle (blocked g k) ≡ true → is_idle g ≡ true
blocked_idle regions.Free k e = refl
blocked_idle (regions.Owned o since) k e = e
blocked_idle (regions.Blocked o since at) k e = e
blocked_idle (regions.Offered to at) k e = refl

deleted_idle : (g : Region) (k : ℕ) → is_idle (deleted g k) ≡ true → is_idle g ≡ true
deleted_idle regions.Free k e = refl
deleted_idle (regions.Owned o since) k e = e
deleted_idle (regions.Blocked o since at) k e = e
deleted_idle (regions.Offered to at) k e = refl

free_idle : (g : Region) → is_done (done_if (is_free g)) ≡ true → is_idle g ≡ true
free_idle regions.Free d = refl
free_idle (regions.Owned o since) d = clash d
free_idle (regions.Blocked o since at) d = clash d
free_idle (regions.Offered to at) d = clash d

given_idle : (b : Bool) (g : Region) → is_done (cond b replies.InvalidState (done_if (is_free g))) ≡ true → is_idle g ≡ true
given_idle true g d = clash d
given_idle false g d = free_idle g d

pub assign_idle : (to : Enclave) (g : Region) → is_done (assign_reply (Some to) g) ≡ true → is_idle g ≡ true
assign_idle to g d = given_idle (is_empty to.stage) g d

pub accept_idle : (own : ℕ) (g : Region) → is_done (accept_region_reply own g) ≡ true → is_idle g ≡ true
accept_idle own regions.Free d = clash d
accept_idle own (regions.Owned o since) d = clash d
accept_idle own (regions.Blocked o since at) d = clash d
accept_idle own (regions.Offered to at) d = refl

-- ---- all regions

set_idle : (s : State) (q r : ℕ) (x : Region) → is_idle (region_at (with_region s q x) r) ≡ true → ((q ≡ r) × (is_idle x ≡ true)) ⊎ (is_idle (region_at s r) ≡ true)
set_idle s q r x a = elim (at_set s.regions q r x regions.Free) [
  | inl h ↦ inl (sym h.0, ap is_idle (sym h.1) ∙ a)
  | inr e ↦ inr (ap is_idle (sym e) ∙ a)
]

-- a region that may become idle only where it was
kept_idle : (s : State) (q r : ℕ) (x : Region) → (is_idle x ≡ true → is_idle (region_at s q) ≡ true) → is_idle (region_at (with_region s q x) r) ≡ true → is_idle (region_at s r) ≡ true
kept_idle s q r x h a = elim (set_idle s q r x a) [ inl k ↦ ap (λ z. is_idle (region_at s z)) (sym k.0) ∙ h k.1 | inr b ↦ b ]

own_idle : (s : State) (mode : Mode) (q r : ℕ) → region_at (without_own_region s mode q) r ≡ region_at s r
own_idle s modes.Os q r = refl
own_idle s (modes.Inside i h) q r = refl

assign_back : (b : Bool) (s u : State) (q r k to : ℕ) → u.regions ≡ (with_region s q (assigned (enclave_at s to).stage to k)).regions → is_done (assign_reply (cond b None (Some (enclave_at s to))) (region_at s q)) ≡ true
    → is_idle (region_at (cond b (with_region s q (regions.Owned owners.Os k)) u) r) ≡ true → is_idle (region_at s r) ≡ true
assign_back true s u q r k to f d a = kept_idle s q r (regions.Owned owners.Os k) (λ i. clash i) a
assign_back false s u q r k to f d a = kept_idle s q r (assigned (enclave_at s to).stage to k) (λ i. assign_idle (enclave_at s to) (region_at s q) d) (ap (λ z. is_idle (get_or z r regions.Free)) (sym f) ∙ a)

deletes_back : (s : State) (rs : List ℕ) (k r : ℕ) → is_idle (region_at (with_deleted s rs k) r) ≡ true → is_idle (region_at s r) ≡ true
deletes_back s [] k r a = a
deletes_back s (q ∷ rs) k r a = kept_idle s q r (deleted (region_at s q) k) (deleted_idle (region_at s q) k) (deletes_back (with_region s q (deleted (region_at s q) k)) rs k r a)

-- the region that a call's Ok frees or assigns
abbrev pub emptied_if : Bool → Call → Option ℕ
emptied_if b call = cond b (emptied call) None

effect_idle : (s : State) (core : ℕ) (call : Call) (digest : List ℕ) (k r : ℕ) → is_done (held_reply s core call) ≡ true → is_idle (region_at (effect s core call digest k) r) ≡ true → (emptied call ≡ Some r) ⊎ (is_idle (region_at s r) ≡ true)
effect_idle s core (calls.Block q) digest k r d a = inr (elim (set_idle (without_own_region s (mode_of s core) q) q r (blocked (region_at s q) k) a) [
  | inl h ↦ ap (λ z. is_idle (region_at s z)) (sym h.0) ∙ blocked_idle (region_at s q) k h.1
  | inr b ↦ ap is_idle (sym (own_idle s (mode_of s core) q r)) ∙ b
])
effect_idle s core (calls.Free q) digest k r d a = elim (set_idle s q r regions.Free a) [ inl h ↦ inl (ap Some h.0) | inr b ↦ inr b ]
effect_idle s core (calls.Assign q to) digest k r d a = inr (assign_back (eqb to os_word) s _ q r k to refl d a)
effect_idle s core (calls.AcceptRegion q) digest k r d a = inr (kept_idle s q r _ (λ i. clash i) a)
effect_idle s core (calls.Delete e) digest k r d a = inr (deletes_back s (regions_of s e) k r a)
effect_idle s core _ digest k r d a = inr a

-- an idle region was idle before, or was freed or assigned now
pub after_idle : (s : State) (core : ℕ) (call : Call) (digest : List ℕ) (k r : ℕ) → is_idle (region_at (after s core call digest k) r) ≡ true → (emptied_if (is_done (reply_of s core call)) call ≡ Some r) ⊎ (is_idle (region_at s r) ≡ true)
after_idle s core call digest k r a = by (is_done (reply_of s core call)) (λ d. (carried s core call d).held) a
  where
    by : (b : Bool) → (b ≡ true → is_done (held_reply s core call) ≡ true) → is_idle (region_at (cond b (effect s core call digest k) s) r) ≡ true → (emptied_if b call ≡ Some r) ⊎ (is_idle (region_at s r) ≡ true)
    by true d a = effect_idle s core call digest k r (d refl) a
    by false d a = inr a

-- no enclave has the region that a call's Ok frees or assigns
assigned_free : (to : Option Enclave) (g : Region) → is_done (assign_reply to g) ≡ true → is_free g ≡ true
assigned_free None g d = ok (is_free g) d
  where
    ok : (b : Bool) → is_done (done_if b) ≡ true → b ≡ true
    ok true d = refl
    ok false d = d
assigned_free (Some x) g d = ok (is_empty x.stage) (is_free g) d
  where
    ok : (e b : Bool) → is_done (cond e replies.InvalidState (done_if b)) ≡ true → b ≡ true
    ok true b d = clash d
    ok false true d = refl
    ok false false d = d

pub emptied_unowned : (s : State) (core : ℕ) (call : Call) (r : ℕ) → FactsHold s → emptied_if (is_done (reply_of s core call)) call ≡ Some r → (e : ℕ) → has_bit (enclave_at s e).regions r ≡ false
emptied_unowned s core call r facts is e = facts.sets e r ∙ by (is_done (reply_of s core call)) (λ d. (carried s core call d).held) is
  where
    of_call : (call : Call) → is_done (held_reply s core call) ≡ true → emptied call ≡ Some r → is_owned_by e (region_at s r) ≡ false
    of_call (calls.Free q) d is = ap (λ z. is_owned_by e (region_at s z)) (sym (some_same is)) ∙ free-unowned e (region_at s q) s.flushed d
    of_call (calls.Assign q to) d is = ap (λ z. is_owned_by e (region_at s z)) (sym (some_same is)) ∙ is_free-unowned e (region_at s q) (assigned_free (assignee s to) (region_at s q) d)
    of_call _ d is = none_some is

    by : (b : Bool) → (b ≡ true → is_done (held_reply s core call) ≡ true) → emptied_if b call ≡ Some r → is_owned_by e (region_at s r) ≡ false
    by true d is = of_call call (d refl) is
    by false d is = none_some is
