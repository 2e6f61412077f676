-- The arguments of a call that is not refused early are in range.
use Rattle.std.proofs.Common.{◌≡◌, ℕ, ◌<◌, ◌^◌, Bool, true, false, cond, not, ◌||◌, ◌&&◌, nat_eq, nat_lt, nat_le, Some, None, refl, arith}
use Rattle.std.proofs.lemmas.Bool.Decides.{nat_tests}
use Rattle.mon_types.specs.Owns.{os_word}
use Rattle.mon_types.specs.Shape.{Shape, page_total}
use Rattle.mon_types.specs.declared.thread.Mode.{Mode}
use Rattle.mon_types.specs.declared.call.Call.{Call}
use Rattle.mon_types.specs.declared.call.Call.TheVariants as calls
use Rattle.mon_types.specs.declared.reply.Reply.TheVariants as replies
use Rattle.mon_model.specs.Early.{is_unsupported, is_wrong_mode, is_bad_value, is_no_slot, is_fixed_region, is_bad_address, are_bad_perms, is_bad_level, early}
use Rattle.mon_model.specs.InRange.{IsInRange}

-- no refusal: not of the values
last_passed : (u w b : Bool) → cond u (Some replies.Unsupported) (cond w (Some replies.AccessDenied) (cond b (Some replies.InvalidValue) None)) ≡ None → b ≡ false
last_passed true w b h = cc
last_passed false true b h = cc
last_passed false false true h = cc
last_passed false false false h = refl

left : (a b : Bool) → (a || b) ≡ false → a ≡ false
left true b h = h
left false b h = refl

right : (a b : Bool) → (a || b) ≡ false → b ≡ false
right true b h = cc
right false b h = h

below : (n x : ℕ) → nat_le n x ≡ false → x < n
below n x h = grind (arith, nat_tests)

fixed : (shape : Shape) (r : ℕ) → is_fixed_region shape r ≡ false → r < shape.regions
fixed shape r h = below shape.regions r (right _ _ h)

assignee : (to : ℕ) → (is_no_slot to && not (nat_eq to os_word)) ≡ false → (to ≡ os_word → ⊥) → to < 8
assignee to h ne = grind (arith, nat_tests)

level : (va n : ℕ) → is_bad_level va n ≡ false → n < 3
level va n h =
    let f : nat_lt 2 n ≡ false = left _ _ h in
    grind (arith, nat_tests)

perms : (n : ℕ) → are_bad_perms n ≡ false → n < 8
perms n h = grind (arith, nat_tests)

address : (va : ℕ) → is_bad_address va ≡ false → va < 2 ^ 38
address va h = below (2 ^ 38) va (right _ _ h)

pub in_range : (shape : Shape) (call : Call) → is_bad_value shape call ≡ false → IsInRange shape call
in_range shape (calls.Block r) h = fixed shape r h
in_range shape (calls.Free r) h = fixed shape r h
in_range shape (calls.Assign r to) h = (fixed shape r (left _ _ h), assignee to (right (is_fixed_region shape r) (is_no_slot to && not (nat_eq to os_word)) h))
in_range shape calls.Flush h = tt
in_range shape (calls.RegionInfo r) h = below shape.regions r h
in_range shape (calls.Create e base size) h = below 8 e (left _ _ h)
in_range shape (calls.LoadTable e va n page) h = (below 8 e (left _ _ (left _ _ (left _ _ h))), level va n (right _ _ h), below (page_total shape) page (right _ _ (left _ _ h)), address va (right _ _ (left _ _ (left _ _ h))))
in_range shape (calls.LoadPage e va page src n) h = (below 8 e (left _ _ (left _ _ (left _ _ (left _ _ h)))), below (page_total shape) page (right _ _ (left _ _ (left _ _ h))), below (page_total shape) src (right _ _ (left _ _ h)), perms n (right _ _ h), address va (right _ _ (left _ _ (left _ _ (left _ _ h)))))
in_range shape (calls.LoadThread e t entry sp) h = (below 8 e (left _ _ (left _ _ h)), below 16 t (right _ _ (left _ _ h)))
in_range shape (calls.Init e) h = below 8 e h
in_range shape (calls.DeleteThread e t) h = (below 8 e (left _ _ h), below 16 t (right _ _ h))
in_range shape (calls.Delete e) h = below 8 e h
in_range shape (calls.Enter e t) h = (below 8 e (left _ _ h), below 16 t (right _ _ h))
in_range shape calls.Exit h = tt
in_range shape (calls.Aex saved) h = tt
in_range shape calls.Restore h = tt
in_range shape (calls.Accept m from) h = (below 2 m (left _ _ h), below 8 from (right _ _ h))
in_range shape (calls.Send to m w0 w1 w2 w3) h = (below 8 to (left _ _ h), below 2 m (right _ _ h))
in_range shape (calls.Read m) h = below 2 m h
in_range shape (calls.EnclaveInfo e) h = below 8 e h
in_range shape (calls.SetSatp v) h = tt
in_range shape (calls.AcceptRegion r) h = fixed shape r h
in_range shape (calls.Reserve e va page n) h = (below 8 e (left _ _ (left _ _ (left _ _ h))), below (page_total shape) page (right _ _ (left _ _ h)), perms n (right _ _ h), address va (right _ _ (left _ _ (left _ _ h))))
in_range shape (calls.Unknown number args) h = tt

pub not_refused : (shape : Shape) (mode : Mode) (call : Call) → early shape mode call ≡ None → IsInRange shape call
not_refused shape mode call h = in_range shape call (last_passed (is_unsupported call) (is_wrong_mode mode call) (is_bad_value shape call) h)
