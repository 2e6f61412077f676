-- Refusals before any object is tried: by number, by mode, by the arguments, in this order. This
-- project's own.
use Rattle.std.specs.Prelude.{ℕ, ◌+◌, ◌/◌, ◌%◌, ◌^◌, Bool, true, false, ◌==◌, ◌||◌, ◌&&◌, not, nat_lt, nat_le, if◌then◌else◌, Option, Some, None}
use Rattle.mon_types.specs.Shape.{Shape, page_total}
use Rattle.mon_types.specs.Sizes.{page_bytes, slot_count, thread_count, address_end}
use Rattle.mon_types.specs.declared.thread.Mode.{Mode}
use Rattle.mon_types.specs.declared.thread.Mode.TheVariants as modes
use Rattle.mon_types.specs.declared.call.Call.{Call}
use Rattle.mon_types.specs.declared.call.Call.TheVariants as calls
use Rattle.mon_types.specs.declared.reply.Reply.{Reply}
use Rattle.mon_types.specs.declared.reply.Reply.TheVariants as replies
use Rattle.mon_types.specs.Owns.{os_word}

-- who may make a call
pub data Caller : Type 0 where
  Anyone : Caller
  TheOs : Caller
  AnEnclave : Caller

-- who may make each call
abbrev pub allowed_caller : Call → Caller
allowed_caller (calls.Block r) = Anyone
allowed_caller (calls.Free r) = TheOs
allowed_caller (calls.Assign r to) = TheOs
allowed_caller calls.Flush = TheOs
allowed_caller (calls.RegionInfo r) = Anyone
allowed_caller (calls.Create e base size) = TheOs
allowed_caller (calls.LoadTable e va level page) = TheOs
allowed_caller (calls.LoadPage e va page src perms) = TheOs
allowed_caller (calls.LoadThread e t entry sp) = TheOs
allowed_caller (calls.Init e) = TheOs
allowed_caller (calls.DeleteThread e t) = TheOs
allowed_caller (calls.Delete e) = TheOs
allowed_caller (calls.Enter e t) = TheOs
allowed_caller calls.Exit = AnEnclave
allowed_caller (calls.Aex saved) = AnEnclave
allowed_caller calls.Restore = AnEnclave
allowed_caller (calls.Accept m from) = AnEnclave
allowed_caller (calls.Send to m w0 w1 w2 w3) = AnEnclave
allowed_caller (calls.Read m) = AnEnclave
allowed_caller (calls.EnclaveInfo e) = Anyone
allowed_caller (calls.SetSatp v) = TheOs
allowed_caller (calls.AcceptRegion r) = AnEnclave
allowed_caller (calls.Reserve e va page perms) = TheOs
allowed_caller (calls.Unknown number args) = Anyone

-- whether a core in this mode is none of these
abbrev pub shuts_out : Caller → Mode → Bool
shuts_out Anyone modes.Os = false
shuts_out Anyone (modes.Inside e t) = false
shuts_out TheOs modes.Os = false
shuts_out TheOs (modes.Inside e t) = true
shuts_out AnEnclave modes.Os = true
shuts_out AnEnclave (modes.Inside e t) = false

-- whether a core in this mode may not make the call
abbrev pub is_wrong_mode : Mode → Call → Bool
is_wrong_mode mode call = shuts_out (allowed_caller call) mode

-- whether the call has no known number
abbrev pub is_unsupported : Call → Bool
is_unsupported (calls.Block r) = false
is_unsupported (calls.Free r) = false
is_unsupported (calls.Assign r to) = false
is_unsupported calls.Flush = false
is_unsupported (calls.RegionInfo r) = false
is_unsupported (calls.Create e base size) = false
is_unsupported (calls.LoadTable e va level page) = false
is_unsupported (calls.LoadPage e va page src perms) = false
is_unsupported (calls.LoadThread e t entry sp) = false
is_unsupported (calls.Init e) = false
is_unsupported (calls.DeleteThread e t) = false
is_unsupported (calls.Delete e) = false
is_unsupported (calls.Enter e t) = false
is_unsupported calls.Exit = false
is_unsupported (calls.Aex saved) = false
is_unsupported calls.Restore = false
is_unsupported (calls.Accept m from) = false
is_unsupported (calls.Send to m w0 w1 w2 w3) = false
is_unsupported (calls.Read m) = false
is_unsupported (calls.EnclaveInfo e) = false
is_unsupported (calls.SetSatp v) = false
is_unsupported (calls.AcceptRegion r) = false
is_unsupported (calls.Reserve e va page perms) = false
is_unsupported (calls.Unknown number args) = true

-- ---- arguments out of range

-- no enclave slot
abbrev pub is_no_slot : ℕ → Bool
is_no_slot e = nat_le slot_count e

-- no thread slot
abbrev pub is_no_thread : ℕ → Bool
is_no_thread t = nat_le thread_count t

-- no mailbox of an enclave
abbrev pub is_no_mailbox : ℕ → Bool
is_no_mailbox m = nat_le 2 m

-- no region of the machine
abbrev pub is_no_region : Shape → ℕ → Bool
is_no_region shape r = nat_le shape.regions r

-- region 0 stays the OS's: no call may block, free, assign or accept it
abbrev pub is_fixed_region : Shape → ℕ → Bool
is_fixed_region shape r = r == 0 || is_no_region shape r

-- no page of DRAM
abbrev pub is_no_page : Shape → ℕ → Bool
is_no_page shape page = nat_le (page_total shape) page

-- no multiple of 4,096, or not below 2 ^ 38
abbrev pub is_bad_address : ℕ → Bool
is_bad_address va = not (va % page_bytes == 0) || nat_le address_end va

-- not R, RW, RX, X or RWX
abbrev pub are_bad_perms : ℕ → Bool
are_bad_perms perms = not (perms == 1 || perms == 3 || perms == 4 || perms == 5 || perms == 7)

-- a range of whole pages, not empty, that ends at 2 ^ 38 or below
abbrev pub is_bad_range : ℕ → ℕ → Bool
is_bad_range base size =
    not (base % page_bytes == 0) || not (size % page_bytes == 0) || size == 0 || nat_lt address_end (base + size)

-- a table's level is 0, 1 or 2, and that of level 2 stands for address 0
abbrev pub is_bad_level : ℕ → ℕ → Bool
is_bad_level va level = nat_lt 2 level || (level == 2 && not (va == 0))

-- neither 0 (Bare) nor of mode 8 (Sv39) with ASID 0
abbrev pub is_bad_satp : ℕ → Bool
is_bad_satp v = not (v == 0) && not (v / 2 ^ 60 == 8 && v / 2 ^ 44 % 2 ^ 16 == 0)

-- whether an argument of the call is out of range
abbrev pub is_bad_value : Shape → Call → Bool
is_bad_value shape (calls.Block r) = is_fixed_region shape r
is_bad_value shape (calls.Free r) = is_fixed_region shape r
is_bad_value shape (calls.Assign r to) = is_fixed_region shape r || (is_no_slot to && not (to == os_word))
is_bad_value shape calls.Flush = false
is_bad_value shape (calls.RegionInfo r) = is_no_region shape r
is_bad_value shape (calls.Create e base size) = is_no_slot e || is_bad_range base size
is_bad_value shape (calls.LoadTable e va level page) =
    is_no_slot e || is_bad_address va || is_no_page shape page || is_bad_level va level
is_bad_value shape (calls.LoadPage e va page src perms) =
    is_no_slot e || is_bad_address va || is_no_page shape page || is_no_page shape src || are_bad_perms perms
is_bad_value shape (calls.LoadThread e t entry sp) = is_no_slot e || is_no_thread t || not (entry % 4 == 0)
is_bad_value shape (calls.Init e) = is_no_slot e
is_bad_value shape (calls.DeleteThread e t) = is_no_slot e || is_no_thread t
is_bad_value shape (calls.Delete e) = is_no_slot e
is_bad_value shape (calls.Enter e t) = is_no_slot e || is_no_thread t
is_bad_value shape calls.Exit = false
is_bad_value shape (calls.Aex saved) = false
is_bad_value shape calls.Restore = false
is_bad_value shape (calls.Accept m from) = is_no_mailbox m || is_no_slot from
is_bad_value shape (calls.Send to m w0 w1 w2 w3) = is_no_slot to || is_no_mailbox m
is_bad_value shape (calls.Read m) = is_no_mailbox m
is_bad_value shape (calls.EnclaveInfo e) = is_no_slot e
is_bad_value shape (calls.SetSatp v) = is_bad_satp v
is_bad_value shape (calls.AcceptRegion r) = is_fixed_region shape r
is_bad_value shape (calls.Reserve e va page perms) =
    is_no_slot e || is_bad_address va || is_no_page shape page || are_bad_perms perms
is_bad_value shape (calls.Unknown number args) = false

-- the refusal of a call that comes before any lock, if there is one
abbrev pub early : Shape → Mode → Call → Option Reply
early shape mode call =
    if is_unsupported call then Some replies.Unsupported
    else if is_wrong_mode mode call then Some replies.AccessDenied
    else if is_bad_value shape call then Some replies.InvalidValue
    else None
