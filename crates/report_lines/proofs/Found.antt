-- A line that is read as a call is the line of that call, and the call fits.
use Rattle.std.proofs.Common.{◌≡◌, ℕ, ◌-◌, ◌<◌, ◌≤◌, ◌^◌, true, ltb, ◌&&◌, List, [], Option, Some, None, sym, ap, subst, arith}
use Rattle.std.specs.Prelude.{is_some, IfSome}
use Rattle.std.specs.List.{AllByRecursion}
use Rattle.std.specs.Str.{bytes_eq}
use Rattle.std.proofs.lemmas.Bool.{and_parts, ltb-true}
use Rattle.std.proofs.lemmas.Slice.Eq.{bytes_eq-Decides}
use Rattle.mon_types.specs.Shape.{Shape}
use Rattle.mon_types.specs.Calls.{call_args}
use Rattle.mon_types.specs.declared.reply.Reply.{Reply}
use Rattle.mon_types.specs.declared.reply.Reply.TheVariants as replies
use Rattle.mon_model.specs.Tries.{tried_set}
use Rattle.hist.specs.declared.event.Entry.{Entry}
use Rattle.hist.specs.Legal.{has_its_page}
use Rattle.report.specs.Calls.{call_line}
use Rattle.report_lines.specs.declared.call.Head.{Head}
use Rattle.report_lines.specs.Fits.{IsWord, HasItsArguments, FitsPage, FitsReply, FitsTried}
use Rattle.report_lines.specs.Forms.{IsCallLine}
use Rattle.report_lines.specs.Reading.{words_in, number_at, behind_word, head_at, call_at, page_at, reply_at, tried_from, is_by_cores, has_right_page, entry_at, if_printed, call_in}
use Rattle.report_lines.proofs.Numbers.{number_found}
use Rattle.report_lines.proofs.Pages.{agree}
use Rattle.report_lines.proofs.Objects.{tried_fits, none_fit}
use Rattle.report_lines.proofs.Parts.{bind_some, if_some, some_same, FitsRead, call_found, page_found, reply_found}

pub record FitsHead (head : Head) : Type 0 where
  pub ticket : head.ticket < 2 ^ 32
  pub serial : head.serial < 2 ^ 32

pub head_found : (words : List (List ℕ)) (found : Head × List (List ℕ)) → head_at words ≡ Some found → FitsHead found.0
head_found words found e =
    let a = bind_some (behind_word words) _ found e in
    let t = bind_some (number_at (2 ^ 32 - 1) a.0) _ found a.2 in
    let b = bind_some (behind_word t.0.1) _ found t.2 in
    let c = bind_some (number_at 255 b.0) _ found b.2 in
    let d = bind_some (behind_word c.0.1) _ found c.2 in
    let s = bind_some (number_at (2 ^ 32 - 1) d.0) _ found d.2 in
    let pair : (record { ticket = t.0.0; core = c.0.0; serial = s.0.0 }, s.0.1) ≡ found = some_same _ found s.2 in
    let small_t : t.0.0 ≤ 2 ^ 32 - 1 = number_found (2 ^ 32 - 1) a.0 t.0 t.1 in
    let small_s : s.0.0 ≤ 2 ^ 32 - 1 = number_found (2 ^ 32 - 1) d.0 s.0 s.1 in
    subst FitsHead (ap (λ (p : Head × List (List ℕ)). p.0) pair) (record { ticket = omega arith; serial = omega arith })

-- what was read, before it is compared
record FitsParts (shape : Shape) (e : Entry) : Type 0 where
  ticket : e.ticket < 2 ^ 32
  serial : e.serial < 2 ^ 32
  call : HasItsArguments e.call
  words : AllByRecursion IsWord (call_args e.call)
  page : FitsPage e.page
  reply : FitsRead shape e.reply
  tried : FitsTried shape e.tried

entry_found : (shape : Shape) (words : List (List ℕ)) (e : Entry) → entry_at shape words ≡ Some e → FitsParts shape e
unfolding entry_at
entry_found shape words e is =
    let head = bind_some (head_at words) _ e is in
    let call = bind_some (call_at head.0.1) _ e head.2 in
    let page = bind_some (page_at call.0.1) _ e call.2 in
    let a = bind_some (behind_word page.0.1) _ e page.2 in
    let reply = bind_some (reply_at shape a.0) _ e a.2 in
    let b = bind_some (behind_word reply.0.1) _ e reply.2 in
    let tried = bind_some (tried_from shape (tried_set []) b.0) _ e b.2 in
    let h = head_found words head.0 head.1 in
    let c = call_found head.0.1 call.0 call.1 in
    let same = some_same _ e tried.2 in
    subst (FitsParts shape) same (record {
      ticket = h.ticket;
      serial = h.serial;
      call = c.0;
      words = c.1;
      page = page_found call.0.1 page.0 page.1;
      reply = reply_found shape a.0 reply.0 reply.1;
      tried = tried_fits shape b.0 (tried_set []) tried.0 (none_fit shape) tried.1;
    })

record ByCores (shape : Shape) (core : ℕ) (reply : Reply) : Type 0 where
  there : core < shape.cores
  fits : FitsReply shape reply

by_cores_found : (shape : Shape) (core : ℕ) (reply : Reply) → is_by_cores shape core reply ≡ true → FitsRead shape reply → ByCores shape core reply
by_cores_found shape core (replies.Ok count words) t h = record { there = ltb-true core shape.cores t; fits = h }
by_cores_found shape core replies.InvalidValue t h = record { there = ltb-true core shape.cores t; fits = tt }
by_cores_found shape core replies.InvalidState t h = record { there = ltb-true core shape.cores t; fits = tt }
by_cores_found shape core replies.AccessDenied t h = record { there = ltb-true core shape.cores t; fits = tt }
by_cores_found shape core (replies.ConcurrentCall lock holder serial) t h =
    let p = and_parts (ltb core shape.cores) (ltb holder shape.cores) t in
    record { there = ltb-true core shape.cores p.0; fits = (h.0, ltb-true holder shape.cores p.1, h.1) }
by_cores_found shape core replies.NotFlushed t h = record { there = ltb-true core shape.cores t; fits = tt }
by_cores_found shape core replies.Unsupported t h = record { there = ltb-true core shape.cores t; fits = tt }

pub call_in_found : (shape : Shape) (line : List ℕ) (e : Entry) → call_in shape line ≡ Some e → IsCallLine shape line e
unfolding call_in
call_in_found shape line e is =
    let a = bind_some (entry_at shape (words_in line)) (if_printed shape line) e is in
    let c = if_some (is_by_cores shape a.0.core a.0.reply && has_right_page a.0 && bytes_eq line (call_line a.0)) a.0 e a.2 in
    let p = and_parts _ _ c.0 in
    let q = and_parts _ _ p.0 in
    let f = entry_found shape (words_in line) a.0 a.1 in
    let cores = by_cores_found shape a.0.core a.0.reply q.0 f.reply in
    subst (IsCallLine shape line) c.1 (record {
      fits = record {
        ticket = f.ticket;
        core = cores.there;
        serial = f.serial;
        call = f.call;
        words = f.words;
        page = f.page;
        has_page = agree (is_some a.0.page) (has_its_page a.0) q.1;
        reply = cores.fits;
        tried = f.tried;
      };
      printed = (bytes_eq-Decides line (call_line a.0)).0 p.1;
    })

pub call_found_if : (shape : Shape) (line : List ℕ) (result : Option Entry) → result ≡ call_in shape line → IfSome result (λ e. IsCallLine shape line e)
call_found_if shape line None is = tt
call_found_if shape line (Some e) is = call_in_found shape line e (sym is)
