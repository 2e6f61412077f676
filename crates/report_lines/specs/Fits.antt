-- What a line of a report can tell: numbers in the ranges of their types, and objects of the machine. This project's
-- own.
use Rattle.std.specs.Prelude.{◌≡◌, ℕ, ◌-◌, ◌<◌, ◌≤◌, ◌^◌, ⊤, Bool, true, ◌==◌, ◌||◌, nat_lt, length, drop, replicate, slice_index, Option, Some, None, is_some}
use Rattle.std.specs.List.{AllByRecursion}
use Rattle.mon_types.specs.Shape.{Shape}
use Rattle.mon_types.specs.Calls.{call_args}
use Rattle.mon_types.specs.declared.call.Call.{Call}
use Rattle.mon_types.specs.declared.call.Call.TheVariants as calls
use Rattle.mon_types.specs.declared.reply.Reply.{Reply}
use Rattle.mon_types.specs.declared.reply.Reply.TheVariants as replies
use Rattle.mon_types.specs.declared.object.ObjectId.{ObjectId}
use Rattle.mon_types.specs.declared.object.ObjectId.TheVariants as objects
use Rattle.mon_types.specs.declared.object.Tried.{Tried}
use Rattle.hist.specs.declared.event.PageInput.{PageInput}
use Rattle.hist.specs.declared.event.Entry.{Entry}
use Rattle.hist.specs.declared.event.Why.{Why}
use Rattle.hist.specs.declared.event.Why.TheVariants as whys
use Rattle.hist.specs.Legal.{has_its_page}
use Rattle.report_lines.specs.declared.event.EventLine.{EventLine}
use Rattle.report_lines.specs.declared.event.EventLine.TheVariants as lines

-- a word of 64 bits
abbrev pub IsWord : ℕ → Type 0
IsWord n = n < 2 ^ 64

-- the number of no call that can be asked for: 15 is an exit, which the machine alone makes
abbrev pub is_unsupported : ℕ → Bool
is_unsupported number = number == 0 || number == 15 || nat_lt 23 number

-- an exit has 33 words, and a call of no known number has six arguments
abbrev pub HasItsArguments : Call → Type 0
HasItsArguments (calls.Aex saved) = length saved ≡ 33
HasItsArguments (calls.Unknown number args) = (length args ≡ 6) × (is_unsupported number ≡ true)
HasItsArguments _ = ⊤

-- an object of the machine, which has 8 enclave slots and 16 thread slots
abbrev pub is_of_machine : Shape → ObjectId → Bool
is_of_machine shape (objects.Enclave e) = nat_lt e 8
is_of_machine shape (objects.Thread t) = nat_lt t 16
is_of_machine shape (objects.Region r) = nat_lt r shape.regions
is_of_machine shape (objects.Cell c) = nat_lt c shape.cores

-- Ok has at most eight words, behind which zeros stand; a held lock is an object of the machine, and its holder a core
abbrev pub FitsReply : Shape → Reply → Type 0
FitsReply shape (replies.Ok count words) =
    (count ≤ 8) × (length words ≡ 8) × AllByRecursion IsWord words × (drop count words ≡ replicate (8 - count) 0)
FitsReply shape (replies.ConcurrentCall lock holder serial) =
    (is_of_machine shape lock ≡ true) × (holder < shape.cores) × (serial < 2 ^ 32)
FitsReply shape _ = ⊤

-- sets of objects of the machine
pub record FitsTried (shape : Shape) (tried : Tried) : Type 0 where
  pub enclaves : tried.enclaves < 2 ^ 8
  pub threads : tried.threads < 2 ^ 16
  pub regions : tried.regions < 2 ^ shape.regions
  pub cells : tried.cells < 2 ^ shape.cores

-- a digest of 32 bytes; where the page stands in the answers is not printed, and is 0 here
abbrev pub FitsPage : Option PageInput → Type 0
FitsPage None = ⊤
FitsPage (Some page) = (length page.digest ≡ 32) × ((i : ℕ) → slice_index page.digest i < 256) × (page.at ≡ 0)

-- a call of a core of the machine
pub record FitsEntry (shape : Shape) (e : Entry) : Type 0 where
  pub ticket : e.ticket < 2 ^ 32
  pub core : e.core < shape.cores
  pub serial : e.serial < 2 ^ 32
  pub call : HasItsArguments e.call
  pub words : AllByRecursion IsWord (call_args e.call)
  pub page : FitsPage e.page
  pub has_page : is_some e.page ≡ has_its_page e
  pub reply : FitsReply shape e.reply
  pub tried : FitsTried shape e.tried

-- a cause and a value of 64 bits
abbrev pub FitsWhy : Why → Type 0
FitsWhy (whys.Trap cause value) = IsWord cause × IsWord value
FitsWhy whys.Limit = ⊤

-- a ticket, a region of the machine and a line
abbrev pub FitsEvent : Shape → EventLine → Type 0
FitsEvent shape (lines.Entry ticket) = ticket < 2 ^ 32
FitsEvent shape (lines.Touch region since) = (region < shape.regions) × (since < 2 ^ 32)
FitsEvent shape (lines.Stop line why) = (line < 2 ^ 32) × FitsWhy why
