-- Printed texts have no line feeds but at the ends of lines.
use Rattle.std.proofs.Common.{◌≡◌, ℕ, zero, suc, ◌/◌, ◌%◌, ◌<◌, ◌≤◌, ◌^◌, true, false, List, [], ◌∷◌, ◌++◌, take, Option, Some, None, refl, sym, ap, ◌∙◌, arith}
use Rattle.std.specs.Prelude.{codes}
use Rattle.std.specs.List.{list_all, flat_map, AllByRecursion}
use Rattle.std.specs.Fmt.{decimal}
use Rattle.std.proofs.lemmas.Bool.{and_from, and_parts, not-true, ltb-true}
use Rattle.std.proofs.lemmas.Bool.Decides.{nat_tests}
use Rattle.hex.specs.Hex.{encode_with, lower_digits}
use Rattle.mon_types.specs.Shape.{Shape}
use Rattle.mon_types.specs.Bits.{members}
use Rattle.mon_types.specs.Calls.{call_name, call_args}
use Rattle.mon_types.specs.declared.call.Call.{Call}
use Rattle.mon_types.specs.declared.call.Call.TheVariants as calls
use Rattle.mon_types.specs.declared.reply.Reply.{Reply}
use Rattle.mon_types.specs.declared.reply.Reply.TheVariants as replies
use Rattle.mon_types.specs.declared.object.ObjectId.{ObjectId}
use Rattle.mon_types.specs.declared.object.ObjectId.TheVariants as objects
use Rattle.mon_types.specs.declared.object.Tried.{Tried}
use Rattle.hist.specs.declared.event.PageInput.{PageInput}
use Rattle.hist.specs.declared.event.Entry.{Entry}
use Rattle.hist.specs.declared.event.Why.TheVariants as whys
use Rattle.text_in.specs.Bytes.{is_line_feed, is_in_line}
use Rattle.text_in.proofs.Cuts.{all_append}
use Rattle.text_in.proofs.Decimals.{decimal_passes, PassesDigits}
use Rattle.text_out.specs.Texts.{spaced, all_spaced}
use Rattle.report.specs.Objects.{object_text, lettered, members_text, tried_text, enclave_letter, thread_letter, region_letter, cell_letter}
use Rattle.report.specs.Calls.{ok_text, concurrent_text, reply_text, call_line}
use Rattle.report.specs.Events.{log_line}
use Rattle.report.specs.Report.{title_line, machine_line}
use Rattle.report_lines.specs.declared.event.EventLine.{EventLine}
use Rattle.report_lines.specs.declared.event.EventLine.TheVariants as lines
use Rattle.report_lines.specs.Fits.{IsWord, is_of_machine, FitsReply, FitsEntry, FitsEvent}
use Rattle.report_lines.specs.Forms.{event_text}
use Rattle.report_lines.specs.Lines.{ended_lines}
use Rattle.report_lines.proofs.Told.{digit_passes}
use Rattle.report_lines.proofs.Printed.{members_below, page_printed, body_with, page_is, line_grouped}
use Rattle.report_lines.proofs.Events.{event_body, event_is, machine_body, machine_is, IsSmall}
use Rattle.report_lines.proofs.Lined.{feed, in_line, onto_line}

-- ---- a line

-- no byte is a line feed
abbrev pub Plain : List ℕ → Type 0
Plain text = list_all is_in_line text ≡ true

-- a line that is ended: bytes with no line feed, and one
pub record IsLine (line : List ℕ) : Type 0 where
  pub body : List ℕ
  pub plain : Plain body
  pub is : line ≡ body ++ 10 ∷ []

both : (a b : List ℕ) → Plain a → Plain b → Plain (a ++ b)
both a b h k = all_append is_in_line a b h k

no_feed : (b : ℕ) → is_in_line b ≡ true → is_line_feed b ≡ false
no_feed b h = not-true (is_line_feed b) h

line_by : (body rest : List ℕ) → Plain body → ended_lines ((body ++ 10 ∷ []) ++ rest) ≡ (body ++ 10 ∷ []) ∷ ended_lines rest
line_by [] rest h = feed 10 rest refl
line_by (b ∷ bs) rest h =
    let p = and_parts (is_in_line b) (list_all is_in_line bs) h in
    in_line b ((bs ++ 10 ∷ []) ++ rest) (no_feed b p.0) ∙ onto_line b (bs ++ 10 ∷ []) (ended_lines rest) (ended_lines ((bs ++ 10 ∷ []) ++ rest)) (line_by bs rest p.1)

-- the first line of a text that begins with a line
pub line_first : (line rest : List ℕ) → IsLine line → ended_lines (line ++ rest) ≡ line ∷ ended_lines rest
line_first line rest h =
    ap (λ (l : List ℕ). ended_lines (l ++ rest)) h.is ∙ line_by h.body rest h.plain ∙ ap (λ (l : List ℕ). l ∷ ended_lines rest) (sym h.is)

-- ---- numbers

plain_digits : PassesDigits is_in_line
plain_digits digit lt = grind (arith, nat_tests)

number : (n : ℕ) → n < 2 ^ 64 → Plain (decimal n)
number n lt = decimal_passes is_in_line plain_digits n lt

spaced_plain : (ns : List ℕ) → AllByRecursion IsWord ns → Plain (all_spaced ns)
spaced_plain [] h = refl
spaced_plain (n ∷ ns) h = both (spaced n) (all_spaced ns) (number n h.0) (spaced_plain ns h.1)

members_plain : (letter is : List ℕ) → Plain letter → AllByRecursion (λ i. i < 64) is → Plain (flat_map (lettered letter) is)
members_plain letter [] l h = refl
members_plain letter (i ∷ is) l h = both (lettered letter i) (flat_map (lettered letter) is) (both letter (decimal i) l (number i (omega (arith, h.0)))) (members_plain letter is l h.1)

weaker : (m : ℕ) (xs : List ℕ) → m ≤ 64 → AllByRecursion (λ i. i < m) xs → AllByRecursion (λ i. i < 64) xs
weaker m [] le h = tt
weaker m (x ∷ xs) le h = (omega (arith, h.0), weaker m xs le h.1)

of_set : (letter : List ℕ) (set count : ℕ) → Plain letter → count ≤ 64 → Plain (members_text letter set count)
of_set letter set count l le = members_plain letter (members set count) l (weaker count (members set count) le (members_below set count))

letters : (Plain enclave_letter) × (Plain thread_letter) × (Plain region_letter) × (Plain cell_letter)
unfolding enclave_letter thread_letter region_letter cell_letter
letters = (refl, refl, refl, refl)

tried_plain : (t : Tried) → Plain (tried_text t)
tried_plain t =
    both (members_text enclave_letter t.enclaves 8 ++ members_text thread_letter t.threads 16 ++ members_text region_letter t.regions 64) (members_text cell_letter t.cells 16)
    (both (members_text enclave_letter t.enclaves 8 ++ members_text thread_letter t.threads 16) (members_text region_letter t.regions 64)
    (both (members_text enclave_letter t.enclaves 8) (members_text thread_letter t.threads 16) (of_set enclave_letter t.enclaves 8 letters.0 (omega arith)) (of_set thread_letter t.threads 16 letters.1 (omega arith)))
    (of_set region_letter t.regions 64 letters.2 (omega arith)))
    (of_set cell_letter t.cells 16 letters.3 (omega arith))

-- ---- digests

plain_encoded : (bytes : List ℕ) → Plain (encode_with lower_digits bytes)
unfolding encode_with
plain_encoded [] = refl
plain_encoded (b ∷ bs) =
    and_from _ _ (digit_passes is_in_line lower_digits refl refl (b / 16)) (and_from _ _ (digit_passes is_in_line lower_digits refl refl (b % 16)) (plain_encoded bs))

page_plain : (page : Option PageInput) → Plain (page_printed page)
page_plain None = refl
page_plain (Some page) = plain_encoded page.digest

-- ---- replies

object_plain : (object : ObjectId) (shape : Shape) → shape.regions ≤ 64 → shape.cores ≤ 16 → is_of_machine shape object ≡ true → Plain (object_text object)
unfolding object_text
object_plain (objects.Enclave e) shape few_r few_c h = number e (omega (arith, ltb-true e 8 h))
object_plain (objects.Thread t) shape few_r few_c h = number t (omega (arith, ltb-true t 16 h))
object_plain (objects.Region r) shape few_r few_c h = number r (omega (arith, ltb-true r shape.regions h))
object_plain (objects.Cell c) shape few_r few_c h = number c (omega (arith, ltb-true c shape.cores h))

taken : (P : ℕ → Type 0) (n : ℕ) (xs : List ℕ) → AllByRecursion P xs → AllByRecursion P (take n xs)
taken P zero xs h = tt
taken P (suc n) [] h = tt
taken P (suc n) (x ∷ xs) h = (h.0, taken P n xs h.1)

reply_plain : (shape : Shape) (reply : Reply) → shape.regions ≤ 64 → shape.cores ≤ 16 → FitsReply shape reply → Plain (reply_text reply)
unfolding reply_text ok_text concurrent_text
reply_plain shape (replies.Ok count ws) few_r few_c h = spaced_plain (take count ws) (taken IsWord count ws h.2)
reply_plain shape replies.InvalidValue few_r few_c h = refl
reply_plain shape replies.InvalidState few_r few_c h = refl
reply_plain shape replies.AccessDenied few_r few_c h = refl
reply_plain shape (replies.ConcurrentCall lock holder serial) few_r few_c h =
    both (codes "concurrent " ++ object_text lock ++ spaced holder) (spaced serial)
    (both (codes "concurrent " ++ object_text lock) (spaced holder) (both (codes "concurrent ") (object_text lock) refl (object_plain lock shape few_r few_c h.0)) (number holder (omega (arith, h.1))))
    (number serial (omega (arith, h.2)))
reply_plain shape replies.NotFlushed few_r few_c h = refl
reply_plain shape replies.Unsupported few_r few_c h = refl

-- ---- the lines

name_plain : (call : Call) → Plain (call_name call)
unfolding call_name
name_plain (calls.Block r) = refl
name_plain (calls.Free r) = refl
name_plain (calls.Assign r to) = refl
name_plain calls.Flush = refl
name_plain (calls.RegionInfo r) = refl
name_plain (calls.Create e base size) = refl
name_plain (calls.LoadTable e va level page) = refl
name_plain (calls.LoadPage e va page src perms) = refl
name_plain (calls.LoadThread e t entry sp) = refl
name_plain (calls.Init e) = refl
name_plain (calls.DeleteThread e t) = refl
name_plain (calls.Delete e) = refl
name_plain (calls.Enter e t) = refl
name_plain calls.Exit = refl
name_plain (calls.Aex saved) = refl
name_plain calls.Restore = refl
name_plain (calls.Accept m from) = refl
name_plain (calls.Send to m w0 w1 w2 w3) = refl
name_plain (calls.Read m) = refl
name_plain (calls.EnclaveInfo e) = refl
name_plain (calls.SetSatp v) = refl
name_plain (calls.AcceptRegion r) = refl
name_plain (calls.Reserve e va page perms) = refl
name_plain (calls.Unknown number args) = refl

body_plain : (shape : Shape) (e : Entry) → shape.regions ≤ 64 → shape.cores ≤ 16 → FitsEntry shape e → Plain (body_with e (page_printed e.page))
body_plain shape e few_r few_c h =
    both (decimal e.ticket) _ (number e.ticket (omega (arith, h.ticket)))
    (both (decimal e.core) _ (number e.core (omega (arith, h.core)))
    (both (decimal e.serial) _ (number e.serial (omega (arith, h.serial)))
    (both (call_name e.call) _ (name_plain e.call)
    (both (all_spaced (call_args e.call)) _ (spaced_plain (call_args e.call) h.words)
    (both (page_printed e.page) _ (page_plain e.page)
    (both (reply_text e.reply) _ (reply_plain shape e.reply few_r few_c h.reply) (tried_plain e.tried)))))))

pub call_is_line : (shape : Shape) (e : Entry) → shape.regions ≤ 64 → shape.cores ≤ 16 → FitsEntry shape e → IsLine (call_line e)
call_is_line shape e few_r few_c h = record {
  body = body_with e (page_printed e.page);
  plain = body_plain shape e few_r few_c h;
  is = line_grouped e ∙ ap (λ (page : List ℕ). body_with e page ++ 10 ∷ []) (page_is e h.has_page);
}

event_plain : (shape : Shape) (event : EventLine) → shape.regions ≤ 64 → FitsEvent shape event → Plain (event_body event)
event_plain shape (lines.Entry ticket) few h = number ticket (omega (arith, h))
event_plain shape (lines.Touch region since) few h = both (decimal region) (32 ∷ decimal since) (number region (omega (arith, h.0))) (number since (omega (arith, h.1)))
event_plain shape (lines.Stop line (whys.Trap cause value)) few h =
    both (decimal line) (32 ∷ (decimal cause ++ (32 ∷ decimal value))) (number line (omega (arith, h.0))) (both (decimal cause) (32 ∷ decimal value) (number cause h.1.0) (number value h.1.1))
event_plain shape (lines.Stop line whys.Limit) few h = number line (omega (arith, h.0))

pub event_is_line : (shape : Shape) (event : EventLine) → shape.regions ≤ 64 → FitsEvent shape event → IsLine (event_text event)
event_is_line shape event few h = record { body = event_body event; plain = event_plain shape event few h; is = event_is event }

pub log_is_line : (core : ℕ) → core < 2 ^ 64 → IsLine (log_line core)
unfolding log_line
log_is_line core lt = record { body = codes "log " ++ decimal core; plain = number core lt; is = refl }

pub title_is_line : IsLine title_line
unfolding title_line
title_is_line = record { body = codes "sanctum report 1"; plain = refl; is = refl }

machine_plain : (m : Shape) → IsSmall m → Plain (machine_body m)
machine_plain m h =
    both (decimal m.cores) _ (number m.cores (omega (arith, h.cores)))
    (both (decimal m.regions) _ (number m.regions (omega (arith, h.regions)))
    (both (decimal m.pages) _ (number m.pages (omega (arith, h.pages))) (number m.shift (omega (arith, h.shift)))))

pub machine_is_line : (m : Shape) → IsSmall m → IsLine (machine_line m)
machine_is_line m h = record { body = machine_body m; plain = machine_plain m h; is = machine_is m }
