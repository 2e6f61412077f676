-- The line of a call in a report, this project's own format.
use Rattle.std.specs.Prelude.{ℕ, List, [], ◌++◌, take, codes, if◌then◌else◌}
use Rattle.std.specs.Fmt.{decimal}
use Rattle.mon_types.specs.Calls.{call_name, call_args}
use Rattle.mon_types.specs.declared.reply.Reply.{Reply}
use Rattle.mon_types.specs.declared.reply.Reply.TheVariants as replies
use Rattle.mon_types.specs.declared.object.ObjectId.{ObjectId}
use Rattle.hist.specs.declared.event.Entry.{Entry}
use Rattle.hist.specs.History.{digest_of}
use Rattle.hist.specs.Legal.{has_its_page}
use Rattle.text_out.specs.Texts.{all_spaced, spaced, hex_text}
use Rattle.report.specs.Objects.{object_text, tried_text}

-- Ok, with the first `count` of the words
unfoldable pub ok_text : ℕ → List ℕ → List ℕ
ok_text count words = codes "ok" ++ all_spaced (take count words)

-- a held lock, with the core that held it and the serial of that core's call
unfoldable pub concurrent_text : ObjectId → ℕ → ℕ → List ℕ
concurrent_text lock holder serial = codes "concurrent " ++ object_text lock ++ spaced holder ++ spaced serial

-- a reply
unfoldable pub reply_text : Reply → List ℕ
reply_text (replies.Ok count words) = ok_text count words
reply_text replies.InvalidValue = codes "invalid_value"
reply_text replies.InvalidState = codes "invalid_state"
reply_text replies.AccessDenied = codes "access_denied"
reply_text (replies.ConcurrentCall lock holder serial) = concurrent_text lock holder serial
reply_text replies.NotFlushed = codes "not_flushed"
reply_text replies.Unsupported = codes "unsupported"

-- the digest of the page, where the entry is a load_page that answered Ok
unfoldable pub page_text : Entry → List ℕ
page_text e = if has_its_page e then codes " page " ++ hex_text (digest_of e.page) else []

-- the ticket, the core and the serial of a call
unfoldable pub call_head : Entry → List ℕ
call_head e =
    codes "call " ++ decimal e.ticket ++ codes " core " ++ decimal e.core ++ codes " serial " ++ decimal e.serial
    ++ codes " "

-- the line of a call: who made it, its name and arguments, the page that it read, its reply and the
-- objects that it tried
unfoldable pub call_line : Entry → List ℕ
call_line e =
    call_head e ++ call_name e.call ++ all_spaced (call_args e.call) ++ page_text e ++ codes " = " ++ reply_text e.reply
    ++ codes " tried" ++ tried_text e.tried ++ codes "\n"
