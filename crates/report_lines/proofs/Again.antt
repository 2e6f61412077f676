-- The line that a report prints of a call is read as that call.
use Rattle.std.proofs.Common.{◌≡◌, ℕ, ◌-◌, ◌<◌, ◌≤◌, ◌^◌, Bool, true, cond, List, ◌∷◌, ◌++◌, Option, Some, None, refl, ap, ◌∙◌, arith}
use Rattle.std.specs.Prelude.{map, codes, is_some}
use Rattle.std.specs.Fmt.{decimal}
use Rattle.std.proofs.lemmas.Bool.{and_from, lt-ltb}
use Rattle.std.proofs.lemmas.Slice.Eq.{bytes_eq-Decides}
use Rattle.mon_types.specs.Shape.{Shape, is_shape}
use Rattle.mon_types.specs.LimitLaws.{few_cores, few_regions}
use Rattle.mon_types.specs.Calls.{call_name, call_args}
use Rattle.mon_types.specs.declared.reply.Reply.{Reply}
use Rattle.mon_types.specs.declared.reply.Reply.TheVariants as replies
use Rattle.hist.specs.declared.event.PageInput.{PageInput}
use Rattle.hist.specs.declared.event.Entry.{Entry}
use Rattle.text_out.specs.Texts.{hex_text}
use Rattle.hist.specs.Legal.{has_its_page}
use Rattle.report.specs.Calls.{call_line}
use Rattle.report_lines.specs.declared.call.Head.{Head}
use Rattle.report_lines.specs.Fits.{FitsReply, FitsEntry}
use Rattle.report_lines.specs.Forms.{IsCallLine}
use Rattle.report_lines.specs.Reading.{◌>>=◌, words_in, number_at, is_by_cores, entry_at, if_printed, call_in}
use Rattle.report_lines.proofs.Printed.{page_words, reply_words, tried_words, call_words, call_line_words}
use Rattle.report_lines.proofs.Pages.{agree_so}
use Rattle.report_lines.proofs.Objects.{tried_read}
use Rattle.report_lines.proofs.Parts.{page_is_none, equals_is_none, tried_is_none, head_read, call_read, page_read, reply_read}

-- what stands behind the arguments of a call is no number
behind_args : (page : Option PageInput) (words : List (List ℕ)) → number_at (2 ^ 64 - 1) (page_words page ++ (codes "=" ∷ words)) ≡ None
behind_args None words = equals_is_none words
behind_args (Some page) words = page_is_none (hex_text page.digest ∷ codes "=" ∷ words)

abbrev head_of : Entry → Head
head_of e = record { ticket = e.ticket; core = e.core; serial = e.serial }

entry_read : (shape : Shape) (e : Entry) → shape.regions ≤ 64 → shape.cores ≤ 16 → FitsEntry shape e → entry_at shape (call_words e) ≡ Some e
unfolding entry_at
entry_read shape e few_r few_c h =
    let behind_tried = tried_words e.tried in
    let behind_page = reply_words e.reply ++ (codes "tried" ∷ tried_words e.tried) in
    let behind_call = page_words e.page ++ (codes "=" ∷ behind_page) in
    let behind_head = call_name e.call ∷ (map decimal (call_args e.call) ++ behind_call) in
    rw (
      head_read (head_of e) behind_head h.ticket (omega (arith, h.core)) h.serial,
      call_read e.call behind_call h.call h.words (behind_args e.page behind_page),
      page_read e.page behind_page h.page,
      reply_read shape e.reply (codes "tried" ∷ behind_tried) few_r few_c h.reply (tried_is_none behind_tried),
      tried_read shape e.tried few_r few_c h.tried,
    ) refl

by_cores : (shape : Shape) (core : ℕ) (reply : Reply) → core < shape.cores → FitsReply shape reply → is_by_cores shape core reply ≡ true
by_cores shape core (replies.Ok count words) lt h = lt-ltb core shape.cores lt
by_cores shape core replies.InvalidValue lt h = lt-ltb core shape.cores lt
by_cores shape core replies.InvalidState lt h = lt-ltb core shape.cores lt
by_cores shape core replies.AccessDenied lt h = lt-ltb core shape.cores lt
by_cores shape core (replies.ConcurrentCall lock holder serial) lt h = and_from _ _ (lt-ltb core shape.cores lt) (lt-ltb holder shape.cores h.1)
by_cores shape core replies.NotFlushed lt h = lt-ltb core shape.cores lt
by_cores shape core replies.Unsupported lt h = lt-ltb core shape.cores lt

printed_kept : (shape : Shape) (line : List ℕ) (e : Entry) → FitsEntry shape e → line ≡ call_line e → if_printed shape line e ≡ Some e
printed_kept shape line e h is =
    ap (λ (b : Bool). cond b (Some e) None)
    (and_from _ _ (and_from _ _ (by_cores shape e.core e.reply h.core h.reply) (agree_so (is_some e.page) (has_its_page e) h.has_page)) ((bytes_eq-Decides line (call_line e)).1 is))

pub call_is : (shape : Shape) (line : List ℕ) (e : Entry) → is_shape shape ≡ true → IsCallLine shape line e → call_in shape line ≡ Some e
unfolding call_in
call_is shape line e valid h =
    let few_r = few_regions shape valid in
    let few_c = few_cores shape valid in
    let words : words_in line ≡ call_words e = ap words_in h.printed ∙ call_line_words shape e few_r few_c h.fits in
    let read : entry_at shape (words_in line) ≡ Some e = ap (entry_at shape) words ∙ entry_read shape e few_r few_c h.fits in
    ap (λ (o : Option Entry). o >>= if_printed shape line) read ∙ printed_kept shape line e h.fits h.printed

pub call_only : (shape : Shape) (line : List ℕ) (result : Option Entry) → is_shape shape ≡ true → result ≡ call_in shape line → (e : Entry) → IsCallLine shape line e → result ≡ Some e
call_only shape line result valid is e h = is ∙ call_is shape line e valid h
