-- How a line of a report is read: its words are taken for what they would be in such a line, and where the line that is
-- printed of that is this one, it is read so. All of it is this project's own.
use Rattle.std.specs.Prelude.{◌≡◌, ℕ, ◌-◌, ◌^◌, zero, suc, Bool, ◌==◌, ◌&&◌, not, nat_lt, if◌then◌else◌, List, [], ◌∷◌, ◌++◌, length, take, drop, replicate, codes, slice_index, Option, Some, None, is_some, Result, Ok, Err}
use Rattle.std.specs.List.{find}
use Rattle.std.specs.Option.{option_map}
use Rattle.std.specs.Str.{bytes_eq}
use Rattle.std.specs.Borrow.{Bor}
use Rattle.hex.specs.Hex.{decode_sized}
use Rattle.hex.specs.declared.error.FromHexError.{FromHexError}
use Rattle.mon_types.specs.Shape.{Shape, shape_of, is_shape}
use Rattle.mon_types.specs.Calls.{call_name, call_of, call_of_registers}
use Rattle.mon_types.specs.declared.call.Call.{Call}
use Rattle.mon_types.specs.declared.call.Call.TheVariants as calls
use Rattle.mon_types.specs.declared.reply.Reply.{Reply}
use Rattle.mon_types.specs.declared.reply.Reply.TheVariants as replies
use Rattle.mon_types.specs.declared.object.ObjectId.{ObjectId}
use Rattle.mon_types.specs.declared.object.ObjectId.TheVariants as objects
use Rattle.mon_types.specs.declared.object.Tried.{Tried}
use Rattle.mon_model.specs.Tries.{add_tried, tried_set}
use Rattle.hist.specs.declared.event.PageInput.{PageInput}
use Rattle.hist.specs.declared.event.Entry.{Entry}
use Rattle.hist.specs.declared.event.Why.TheVariants as whys
use Rattle.hist.specs.Legal.{has_its_page}
use Rattle.text_in.specs.Words.{words_of}
use Rattle.text_in.specs.Numbers.{canonical_of, up_to}
use Rattle.report.specs.Calls.{call_line}
use Rattle.report.specs.Report.{machine_line}
use Rattle.report_lines.specs.declared.event.EventLine.{EventLine}
use Rattle.report_lines.specs.declared.event.EventLine.TheVariants as lines
use Rattle.report_lines.specs.declared.call.Head.{Head}
use Rattle.report_lines.specs.Lines.{without_end}
use Rattle.report_lines.specs.Fits.{is_unsupported, is_of_machine}
use Rattle.report_lines.specs.Forms.{event_text}

-- goes on with what was read
infixl 10 ◌>>=◌
abbrev pub ◌>>=◌ : {A B : Type 0} → Option A → (A → Option B) → Option B
None >>= f = None
(Some x) >>= f = f x

-- ---- words and numbers

-- the words of a line, without the line feed that ends it
abbrev pub words_in : List ℕ → List (List ℕ)
words_in line = words_of (without_end line)

-- the first word, and those behind it
abbrev pub first_word : List (List ℕ) → Option (List ℕ × List (List ℕ))
first_word [] = None
first_word (word ∷ words) = Some (word, words)

-- the words behind the first
abbrev pub behind_word : List (List ℕ) → Option (List (List ℕ))
behind_word [] = None
behind_word (word ∷ words) = Some words

-- the first word as a number of at most this, and the words behind it
abbrev pub number_at : ℕ → List (List ℕ) → Option (ℕ × List (List ℕ))
number_at most [] = None
number_at most (word ∷ words) = option_map (λ n. (n, words)) (up_to most (canonical_of word))

-- what is read of these words goes on with the number, if one was read
abbrev pub with_number : Option (ℕ × List (List ℕ)) → List (List ℕ) → (List (List ℕ) → List ℕ × List (List ℕ))
    → List ℕ × List (List ℕ)
with_number None words later = ([], words)
with_number (Some found) words later = (found.0 ∷ (later found.1).0, (later found.1).1)

-- the numbers that come first, at most so many, and the words behind them
unfoldable pub numbers_at : ℕ → List (List ℕ) → List ℕ × List (List ℕ)
numbers_at zero words = ([], words)
numbers_at (suc n) words = with_number (number_at (2 ^ 64 - 1) words) words (numbers_at n)

-- these numbers, and zeros behind them up to this count
abbrev pub padded : ℕ → List ℕ → List ℕ
padded count numbers = numbers ++ replicate (count - length numbers) 0

-- ---- a call

-- the ticket, the core and the serial, each behind its word, and the words behind them
abbrev pub head_at : List (List ℕ) → Option (Head × List (List ℕ))
head_at words = do
  a ← behind_word words
  ticket ← number_at (2 ^ 32 - 1) a
  b ← behind_word ticket.1
  core ← number_at 255 b
  c ← behind_word core.1
  serial ← number_at (2 ^ 32 - 1) c
  Some (record { ticket = ticket.0; core = core.0; serial = serial.0 }, serial.1)

-- the numbers of the calls that have a name of their own and are asked for
abbrev pub named_numbers : List ℕ
named_numbers =
    1 ∷ 2 ∷ 3 ∷ 4 ∷ 5 ∷ 6 ∷ 7 ∷ 8 ∷ 9 ∷ 10 ∷ 11 ∷ 12 ∷ 13 ∷ 14 ∷ 16 ∷ 17 ∷ 18 ∷ 19 ∷ 20 ∷ 21 ∷ 22 ∷ 23 ∷ []

-- the name of the call of this number
abbrev pub name_of : ℕ → List ℕ
name_of number = call_name (call_of number 0 0 0 0 0 0)

-- the number of the call of this name
abbrev pub number_named : List ℕ → Option ℕ
number_named word = find (λ number. bytes_eq word (name_of number)) named_numbers

-- the call of no known number with these numbers, the first of which is its own
abbrev pub unknown_call : List ℕ → Option Call
unknown_call numbers =
    if is_unsupported (slice_index numbers 0)
    then Some (calls.Unknown (slice_index numbers 0) (take 6 (drop 1 numbers)))
    else None

-- the call of this name with these numbers
unfoldable pub call_named : List ℕ → List ℕ → Option Call
call_named name numbers =
    if bytes_eq name (codes "ecall") then unknown_call numbers
    else if bytes_eq name (codes "aex") then Some (calls.Aex numbers)
    else option_map (λ number. call_of_registers number (take 6 numbers)) (number_named name)

-- a name and the numbers behind it as a call, and the words behind them
abbrev pub call_at : List (List ℕ) → Option (Call × List (List ℕ))
call_at [] = None
call_at (name ∷ words) =
    option_map (λ call. (call, (numbers_at 33 words).1)) (call_named name (padded 33 (numbers_at 33 words).0))

-- the value, if decoding gave one
abbrev pub decoded : Result (List ℕ) FromHexError → Option (List ℕ)
decoded (Ok bytes) = Some bytes
decoded (Err error) = None

-- the page with this digest
abbrev pub page_with : List ℕ → PageInput
page_with digest = record { digest = digest; at = 0 }

-- the first word as a digest
abbrev pub digest_at : List (List ℕ) → Option (Option PageInput × List (List ℕ))
digest_at [] = None
digest_at (word ∷ words) = option_map (λ digest. (Some (page_with digest), words)) (decoded (decode_sized word 32))

-- the page, where the word that begins one comes first
unfoldable pub page_at : List (List ℕ) → Option (Option PageInput × List (List ℕ))
page_at [] = Some (None, [])
page_at (word ∷ words) = if bytes_eq word (codes "page") then digest_at words else Some (None, word ∷ words)

-- ---- objects

-- the object of this letter and number
abbrev pub lettered_object : ℕ → ℕ → Option ObjectId
lettered_object letter n =
    if letter == 101 then Some (objects.Enclave n)
    else if letter == 116 then Some (objects.Thread n)
    else if letter == 114 then Some (objects.Region n)
    else if letter == 99 then Some (objects.Cell n)
    else None

-- the object, where it is one of the machine
abbrev pub of_machine : Shape → ObjectId → Option ObjectId
of_machine shape object = if is_of_machine shape object then Some object else None

-- the object of the machine that a word is
abbrev pub object_of : Shape → List ℕ → Option ObjectId
object_of shape [] = None
object_of shape (letter ∷ digits) = do
  n ← up_to 255 (canonical_of digits)
  object ← lettered_object letter n
  of_machine shape object

-- the first word as an object, and the words behind it
abbrev pub object_at : Shape → List (List ℕ) → Option (ObjectId × List (List ℕ))
object_at shape [] = None
object_at shape (word ∷ words) = option_map (λ object. (object, words)) (object_of shape word)

-- no object of a kind in the sets comes behind this one or is it
abbrev pub has_place : Tried → ObjectId → Bool
has_place tried (objects.Enclave e) = nat_lt tried.enclaves (2 ^ e)
has_place tried (objects.Thread t) = nat_lt tried.threads (2 ^ t)
has_place tried (objects.Region r) = nat_lt tried.regions (2 ^ r)
has_place tried (objects.Cell c) = nat_lt tried.cells (2 ^ c)

-- the sets and this object, where it comes behind those of its kind
abbrev pub with_object : Tried → ObjectId → Option Tried
with_object tried object = if has_place tried object then Some (add_tried object tried) else None

-- the sets and the object that a word is
abbrev pub with_word : Shape → Tried → List ℕ → Option Tried
with_word shape tried word = object_of shape word >>= with_object tried

-- the sets and the objects that these words are
unfoldable pub tried_from : Shape → Tried → List (List ℕ) → Option Tried
tried_from shape tried [] = Some tried
tried_from shape tried (word ∷ words) = with_word shape tried word >>= λ more. tried_from shape more words

-- ---- a reply

-- Ok with the numbers that come first
abbrev pub ok_at : List (List ℕ) → Reply × List (List ℕ)
ok_at words =
    (replies.Ok (length (numbers_at 8 words).0) (padded 8 (numbers_at 8 words).0), (numbers_at 8 words).1)

-- that a lock was held, with the object, the core and the serial
abbrev pub concurrent_at : Shape → List (List ℕ) → Option (Reply × List (List ℕ))
concurrent_at shape words = do
  lock ← object_at shape words
  holder ← number_at 255 lock.1
  serial ← number_at (2 ^ 32 - 1) holder.1
  Some (replies.ConcurrentCall lock.0 holder.0 serial.0, serial.1)

-- the refusal of this name
unfoldable pub refusal_named : List ℕ → Option Reply
refusal_named word =
    if bytes_eq word (codes "invalid_value") then Some replies.InvalidValue
    else if bytes_eq word (codes "invalid_state") then Some replies.InvalidState
    else if bytes_eq word (codes "access_denied") then Some replies.AccessDenied
    else if bytes_eq word (codes "not_flushed") then Some replies.NotFlushed
    else if bytes_eq word (codes "unsupported") then Some replies.Unsupported
    else None

-- the reply that the words are, and the words behind it
unfoldable pub reply_at : Shape → List (List ℕ) → Option (Reply × List (List ℕ))
reply_at shape [] = None
reply_at shape (word ∷ words) =
    if bytes_eq word (codes "ok") then Some (ok_at words)
    else if bytes_eq word (codes "concurrent") then concurrent_at shape words
    else option_map (λ reply. (reply, words)) (refusal_named word)

-- ---- the line of a call

-- the core of the call is one of the machine, and so is the holder of a lock that the call met
abbrev pub is_by_cores : Shape → ℕ → Reply → Bool
is_by_cores shape core (replies.ConcurrentCall lock holder serial) =
    nat_lt core shape.cores && nat_lt holder shape.cores
is_by_cores shape core _ = nat_lt core shape.cores

-- there is a page exactly where there is to be one
abbrev pub has_right_page : Entry → Bool
has_right_page e = if has_its_page e then is_some e.page else not (is_some e.page)

-- what these words would be in the line of a call
unfoldable pub entry_at : Shape → List (List ℕ) → Option Entry
entry_at shape words = do
  head ← head_at words
  call ← call_at head.1
  page ← page_at call.1
  a ← behind_word page.1
  reply ← reply_at shape a
  b ← behind_word reply.1
  tried ← tried_from shape (tried_set []) b
  Some (record {
    ticket = head.0.ticket;
    core = head.0.core;
    serial = head.0.serial;
    call = call.0;
    page = page.0;
    reply = reply.0;
    tried = tried;
  })

-- the call, where this is its line
abbrev pub if_printed : Shape → List ℕ → Entry → Option Entry
if_printed shape line e =
    if is_by_cores shape e.core e.reply && has_right_page e && bytes_eq line (call_line e) then Some e else None

-- the call that a line tells
unfoldable pub call_in : Shape → List ℕ → Option Entry
call_in shape line = entry_at shape (words_in line) >>= if_printed shape line

-- ---- other lines

-- the event that these words would be, by the first of them
abbrev pub entry_event : List (List ℕ) → Option EventLine
entry_event words = number_at (2 ^ 32 - 1) words >>= λ ticket. Some (lines.Entry ticket.0)

-- a touch
abbrev pub touch_event : Shape → List (List ℕ) → Option EventLine
touch_event shape words = do
  region ← number_at 255 words
  since ← number_at (2 ^ 32 - 1) region.1
  if nat_lt region.0 shape.regions then Some (lines.Touch region.0 since.0) else None

-- a trap
abbrev pub trap_event : List (List ℕ) → Option EventLine
trap_event words = do
  line ← number_at (2 ^ 32 - 1) words
  cause ← number_at (2 ^ 64 - 1) line.1
  value ← number_at (2 ^ 64 - 1) cause.1
  Some (lines.Stop line.0 (whys.Trap cause.0 value.0))

-- an end of the budgets
abbrev pub limit_event : List (List ℕ) → Option EventLine
limit_event words = number_at (2 ^ 32 - 1) words >>= λ line. Some (lines.Stop line.0 whys.Limit)

-- what these words would be in the line of an event
unfoldable pub event_at : Shape → List (List ℕ) → Option EventLine
event_at shape [] = None
event_at shape (word ∷ words) =
    if bytes_eq word (codes "entry") then entry_event words
    else if bytes_eq word (codes "touch") then touch_event shape words
    else if bytes_eq word (codes "trap") then trap_event words
    else if bytes_eq word (codes "limit") then limit_event words
    else None

-- the event, where this is its line
abbrev pub if_event_printed : List ℕ → EventLine → Option EventLine
if_event_printed line event = if bytes_eq line (event_text event) then Some event else None

-- the event that a line tells
unfoldable pub event_in : Shape → List ℕ → Option EventLine
event_in shape line = event_at shape (words_in line) >>= if_event_printed line

-- the shape of these numbers, where it is within the limits
abbrev pub shape_with : ℕ → ℕ → ℕ → ℕ → Option Shape
shape_with cores regions pages shift =
    if is_shape (shape_of cores regions pages shift) then Some (shape_of cores regions pages shift) else None

-- the number behind the first word, and the words behind it
abbrev pub small_at : List (List ℕ) → Option (ℕ × List (List ℕ))
small_at words = behind_word words >>= number_at 255

-- what these words would be in the line of a machine
unfoldable pub shape_at : List (List ℕ) → Option Shape
shape_at words = do
  a ← behind_word words
  cores ← small_at a
  regions ← small_at cores.1
  pages ← small_at regions.1
  shift ← small_at pages.1
  shape_with cores.0 regions.0 pages.0 shift.0

-- the machine, where this is its line
abbrev pub if_machine_printed : List ℕ → Shape → Option Shape
if_machine_printed line shape = if bytes_eq line (machine_line shape) then Some shape else None

-- the machine that a line tells
unfoldable pub machine_in : List ℕ → Option Shape
machine_in line = shape_at (words_in line) >>= if_machine_printed line

-- ---- what the functions on bytes answer

-- what was read, where bytes are left for the words behind it
abbrev pub Reads : {A : Type 0} → Option (A × Bor (List ℕ)) → Option (A × List (List ℕ)) → Type 0
Reads None read = read ≡ None
Reads (Some found) read = read ≡ Some (found.0, words_of found.1.now)

-- bytes are left for the words behind a word, if there is one
abbrev pub LeavesWords : Option (Bor (List ℕ)) → List (List ℕ) → Type 0
LeavesWords None words = words ≡ []
LeavesWords (Some rest) words = behind_word words ≡ Some (words_of rest.now)
