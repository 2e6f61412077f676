-- Calls on regions: block, free, assign, region_info and accept_region. This project's own.
use Rattle.std.specs.Prelude.{ℕ, Bool, true, false, ◌==◌, nat_le, if◌then◌else◌, List, Option, Some, None}
use Rattle.std.specs.List.{list_all}
use Rattle.mon_types.specs.declared.region.Owner.{Owner}
use Rattle.mon_types.specs.declared.region.Owner.TheVariants as owners
use Rattle.mon_types.specs.declared.region.Region.{Region}
use Rattle.mon_types.specs.declared.region.Region.TheVariants as regions
use Rattle.mon_types.specs.declared.enclave.Stage.{Stage}
use Rattle.mon_types.specs.declared.enclave.Stage.TheVariants as stages
use Rattle.mon_types.specs.declared.enclave.Enclave.{Enclave}
use Rattle.mon_types.specs.declared.thread.Mode.{Mode}
use Rattle.mon_types.specs.declared.thread.Mode.TheVariants as modes
use Rattle.mon_types.specs.declared.reply.Reply.{Reply}
use Rattle.mon_types.specs.declared.reply.Reply.TheVariants as replies
use Rattle.mon_types.specs.Bits.{with_bit, without_bit}
use Rattle.mon_types.specs.Owns.{os_word, withdrawn}
use Rattle.mon_types.specs.Replies.{done, ok_with_four}

-- the enclave loses a region
abbrev pub loses_region : Enclave → ℕ → Enclave
loses_region enclave r = record enclave { regions = without_bit enclave.regions r }

-- the enclave gains a region
abbrev pub gains_region : Enclave → ℕ → Enclave
gains_region enclave r = record enclave { regions = with_bit enclave.regions r }

-- ---- block

-- whether a core in this mode acts for the owner
abbrev pub acts_for : Mode → Owner → Bool
acts_for modes.Os owners.Os = true
acts_for modes.Os (owners.Enclave f) = false
acts_for (modes.Inside e t) owners.Os = false
acts_for (modes.Inside e t) (owners.Enclave f) = e == f

-- an offer may be withdrawn by the OS alone, an owned region blocked by its owner alone
abbrev pub block_reply : Mode → Region → Reply
block_reply mode regions.Free = replies.InvalidState
block_reply mode (regions.Owned owner since) = if acts_for mode owner then done else replies.AccessDenied
block_reply mode (regions.Blocked owner since at) = replies.InvalidState
block_reply modes.Os (regions.Offered to at) = done
block_reply (modes.Inside e t) (regions.Offered to at) = replies.AccessDenied

-- the region blocked at ticket k; a withdrawn offer is blocked as if the enclave had owned it since the offer
abbrev pub blocked : Region → ℕ → Region
blocked (regions.Offered to at) k = regions.Blocked (owners.Enclave to) at k
blocked region k = withdrawn region k

-- ---- free

-- a blocked region is freed where every core has flushed since the blocking
abbrev pub free_reply : Region → List ℕ → Reply
free_reply regions.Free flushed = replies.InvalidState
free_reply (regions.Owned owner since) flushed = replies.InvalidState
free_reply (regions.Blocked owner since at) flushed =
    if list_all (λ ticket. nat_le at ticket) flushed then done else replies.NotFlushed
free_reply (regions.Offered to at) flushed = replies.InvalidState

-- ---- assign

-- the slot holds no enclave
abbrev pub is_empty : Stage → Bool
is_empty stages.Empty = true
is_empty stages.Loading = false
is_empty stages.Initialized = false

-- the enclave is being loaded
abbrev pub is_loading : Stage → Bool
is_loading stages.Empty = false
is_loading stages.Loading = true
is_loading stages.Initialized = false

-- the enclave is whole and may run
abbrev pub is_initialized : Stage → Bool
is_initialized stages.Empty = false
is_initialized stages.Loading = false
is_initialized stages.Initialized = true

-- the region is free to be assigned
abbrev pub is_free : Region → Bool
is_free regions.Free = true
is_free (regions.Owned owner since) = false
is_free (regions.Blocked owner since at) = false
is_free (regions.Offered to at) = false

-- to the OS, or to the enclave with this record
abbrev pub assign_reply : Option Enclave → Region → Reply
assign_reply None region = if is_free region then done else replies.InvalidState
assign_reply (Some to) region =
    if is_empty to.stage then replies.InvalidState
    else if is_free region then done
    else replies.InvalidState

-- a loading enclave owns the region at once, one that runs is offered it
abbrev pub assigned : Stage → ℕ → ℕ → Region
assigned stages.Empty e k = regions.Owned (owners.Enclave e) k
assigned stages.Loading e k = regions.Owned (owners.Enclave e) k
assigned stages.Initialized e k = regions.Offered e k

-- the record of that enclave: one that is offered the region does not have it yet
abbrev pub with_assigned : Enclave → ℕ → Enclave
with_assigned enclave r = if is_initialized enclave.stage then enclave else gains_region enclave r

-- ---- region_info

-- the word by which a reply names an owner: the enclave's slot, or the word for the OS
abbrev pub owner_word : Owner → ℕ
owner_word owners.Os = os_word
owner_word (owners.Enclave e) = e

-- state, owner, since, at
abbrev pub region_info_reply : Region → Reply
region_info_reply regions.Free = ok_with_four 0 os_word 0 0
region_info_reply (regions.Owned owner since) = ok_with_four 1 (owner_word owner) since 0
region_info_reply (regions.Blocked owner since at) = ok_with_four 2 (owner_word owner) since at
region_info_reply (regions.Offered to at) = ok_with_four 3 to 0 at

-- ---- accept_region, by the enclave in this slot

-- an offer is accepted by the enclave to which it was made alone
abbrev pub accept_region_reply : ℕ → Region → Reply
accept_region_reply own regions.Free = replies.InvalidState
accept_region_reply own (regions.Owned owner since) = replies.InvalidState
accept_region_reply own (regions.Blocked owner since at) = replies.InvalidState
accept_region_reply own (regions.Offered to at) = if own == to then done else replies.AccessDenied
