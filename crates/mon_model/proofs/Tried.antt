-- Objects that calls try.
use Rattle.std.proofs.Common.{◌≡◌, ℕ, ◌<◌, Bool, true, false, ◌==◌, if◌then◌else◌, nat_lt, List, [], ◌∷◌, ◌++◌, refl, ◌∙◌, arith}
use Rattle.std.specs.List.{range_with_len}
use Rattle.std.proofs.lemmas.Bool.{eqb-true}
use Rattle.std.proofs.lemmas.List.FromFn.{length-range_with_len, get_or-range_with_len}
use Rattle.mon_types.specs.declared.region.Region.{Region}
use Rattle.mon_types.specs.declared.region.Region.TheVariants as regions
use Rattle.mon_types.specs.declared.thread.Mode.{Mode}
use Rattle.mon_types.specs.declared.thread.Mode.TheVariants as modes
use Rattle.mon_types.specs.declared.object.ObjectId.{ObjectId}
use Rattle.mon_types.specs.declared.object.ObjectId.TheVariants as objects
use Rattle.mon_model.specs.Early.{shuts_out, AnEnclave}
use Rattle.mon_types.specs.Modes.{own_slot}
use Rattle.mon_model.specs.Tries.{own_enclave, free_tries, send_tries, all_cells}
use Rattle.mon_model.proofs.Members.{IsIn, here, there, in_map}

pub own_in : (mode : Mode) (rest : List ObjectId) → shuts_out AnEnclave mode ≡ false → IsIn (own_enclave mode ++ rest) (objects.Enclave (own_slot mode))
own_in modes.Os rest h = absurd (cc)
own_in (modes.Inside e t) rest h = here

pub own_alone : (mode : Mode) → shuts_out AnEnclave mode ≡ false → IsIn (own_enclave mode) (objects.Enclave (own_slot mode))
own_alone modes.Os h = absurd (cc)
own_alone (modes.Inside e t) h = here

pub behind_own : (mode : Mode) (r : ℕ) → IsIn (own_enclave mode ++ objects.Region r ∷ []) (objects.Region r)
behind_own modes.Os r = here
behind_own (modes.Inside e t) r = there here

pub freed_in : (cores r : ℕ) (region : Region) → IsIn (free_tries cores r region) (objects.Region r)
freed_in cores r regions.Free = here
freed_in cores r (regions.Owned owner since) = here
freed_in cores r (regions.Blocked owner since at) = here
freed_in cores r (regions.Offered to at) = here

-- whether the two are one, and whether the sender is the lower
receiver : (b d : Bool) (own to : ℕ) → (b ≡ true → own ≡ to) → IsIn (if b then objects.Enclave own ∷ [] else if d then objects.Enclave own ∷ objects.Enclave to ∷ [] else objects.Enclave to ∷ objects.Enclave own ∷ []) (objects.Enclave to)
receiver true d own to h = rw (← h refl) here
receiver false true own to h = there here
receiver false false own to h = here

sender : (b d : Bool) (own to : ℕ) → IsIn (if b then objects.Enclave own ∷ [] else if d then objects.Enclave own ∷ objects.Enclave to ∷ [] else objects.Enclave to ∷ objects.Enclave own ∷ []) (objects.Enclave own)
sender true d own to = here
sender false true own to = here
sender false false own to = there here

pub receiver_in : (own to : ℕ) → IsIn (send_tries own to) (objects.Enclave to)
receiver_in own to = receiver (own == to) (nat_lt own to) own to (eqb-true own to)

pub sender_in : (own to : ℕ) → IsIn (send_tries own to) (objects.Enclave own)
sender_in own to = sender (own == to) (nat_lt own to) own to

pub cell_in : (cores c : ℕ) → c < cores → IsIn (all_cells cores) (objects.Cell c)
cell_in cores c l =
    in_map (λ i. objects.Cell i) c (range_with_len 0 cores) (record { place = (c, rw length-range_with_len l, get_or-range_with_len 0 cores c c l ∙ omega arith) })
