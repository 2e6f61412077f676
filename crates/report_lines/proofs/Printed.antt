-- The words of printed lines.
use Rattle.std.proofs.Common.{◌≡◌, ℕ, zero, suc, ◌<◌, ◌≤◌, Bool, true, false, cond, List, [], ◌∷◌, ◌++◌, take, refl, sym, ap, subst, ◌∙◌, arith, append_assoc, Option, Some, None}
use Rattle.std.specs.Prelude.{map, codes, is_some}
use Rattle.std.specs.List.{flat_map, AllByRecursion}
use Rattle.std.specs.Fmt.{decimal}
use Rattle.std.proofs.lemmas.Bool.{ltb-true}
use Rattle.std.proofs.lemmas.List.{append-nil}
use Rattle.mon_types.specs.Shape.{Shape}
use Rattle.mon_types.specs.Bits.{has_bit, member, members}
use Rattle.mon_types.specs.Calls.{call_name, call_args}
use Rattle.mon_types.specs.declared.call.Call.{Call}
use Rattle.mon_types.specs.declared.call.Call.TheVariants as calls
use Rattle.mon_types.specs.declared.reply.Reply.{Reply}
use Rattle.mon_types.specs.declared.reply.Reply.TheVariants as replies
use Rattle.mon_types.specs.declared.object.ObjectId.{ObjectId}
use Rattle.mon_types.specs.declared.object.ObjectId.TheVariants as objects
use Rattle.mon_types.specs.declared.object.Tried.{Tried}
use Rattle.hist.specs.declared.event.PageInput.{PageInput}
use Rattle.hist.specs.declared.event.Entry.{Entry}
use Rattle.hist.specs.History.{digest_of}
use Rattle.hist.specs.Legal.{has_its_page}
use Rattle.text_in.specs.Bytes.{is_solid}
use Rattle.text_in.specs.Words.{AreWords}
use Rattle.text_out.specs.Texts.{all_spaced, hex_text}
use Rattle.report.specs.Objects.{object_text, lettered, members_text, tried_text, enclave_letter, thread_letter, region_letter, cell_letter}
use Rattle.report.specs.Calls.{ok_text, concurrent_text, reply_text, page_text, call_head, call_line}
use Rattle.report_lines.specs.Fits.{IsWord, FitsPage, FitsReply, FitsEntry, is_of_machine}
use Rattle.report_lines.specs.Reading.{words_in}
use Rattle.report_lines.proofs.Told.{IsSolid, Behind, nothing, spaced_word, word_first, solid_number, solid_lettered, spaced_numbers, solid_hex, line_words}

-- ---- the words

-- of an object
abbrev pub object_word : ObjectId → List ℕ
object_word (objects.Enclave e) = 101 ∷ decimal e
object_word (objects.Thread t) = 116 ∷ decimal t
object_word (objects.Region r) = 114 ∷ decimal r
object_word (objects.Cell c) = 99 ∷ decimal c

-- of the members of a set
abbrev pub member_words : ℕ → List ℕ → List (List ℕ)
member_words letter is = map (λ i. letter ∷ decimal i) is

-- of all tried objects
abbrev pub tried_words : Tried → List (List ℕ)
tried_words t =
    member_words 101 (members t.enclaves 8) ++ (member_words 116 (members t.threads 16)
    ++ (member_words 114 (members t.regions 64) ++ member_words 99 (members t.cells 16)))

-- of a reply
abbrev pub reply_words : Reply → List (List ℕ)
reply_words (replies.Ok count words) = codes "ok" ∷ map decimal (take count words)
reply_words replies.InvalidValue = codes "invalid_value" ∷ []
reply_words replies.InvalidState = codes "invalid_state" ∷ []
reply_words replies.AccessDenied = codes "access_denied" ∷ []
reply_words (replies.ConcurrentCall lock holder serial) = codes "concurrent" ∷ object_word lock ∷ decimal holder ∷ decimal serial ∷ []
reply_words replies.NotFlushed = codes "not_flushed" ∷ []
reply_words replies.Unsupported = codes "unsupported" ∷ []

-- of a page, if there is one
abbrev pub page_words : Option PageInput → List (List ℕ)
page_words None = []
page_words (Some page) = codes "page" ∷ hex_text page.digest ∷ []

-- of the line of a call
abbrev pub call_words : Entry → List (List ℕ)
call_words e =
    codes "call" ∷ decimal e.ticket ∷ codes "core" ∷ decimal e.core ∷ codes "serial" ∷ decimal e.serial ∷ call_name e.call
    ∷ (map decimal (call_args e.call) ++ (page_words e.page ++ (codes "=" ∷ (reply_words e.reply ++ (codes "tried" ∷ tried_words e.tried)))))

-- ---- objects

all_append : (P : ℕ → Type 0) (xs ys : List ℕ) → AllByRecursion P xs → AllByRecursion P ys → AllByRecursion P (xs ++ ys)
all_append P [] ys h k = k
all_append P (x ∷ xs) ys h k = (h.0, all_append P xs ys h.1 k)

all_weaker : (P Q : ℕ → Type 0) → ((x : ℕ) → P x → Q x) → (xs : List ℕ) → AllByRecursion P xs → AllByRecursion Q xs
all_weaker P Q f [] h = tt
all_weaker P Q f (x ∷ xs) h = (f x h.0, all_weaker P Q f xs h.1)

chosen_below : (b : Bool) (n : ℕ) → AllByRecursion (λ i. i < suc n) (cond b (n ∷ []) [])
chosen_below true n = (omega arith, tt)
chosen_below false n = tt

pub members_below : (word n : ℕ) → AllByRecursion (λ i. i < n) (members word n)
unfolding members
members_below word zero = tt
members_below word (suc n) =
    all_append (λ i. i < suc n) (members word n) (member word n)
    (all_weaker (λ i. i < n) (λ i. i < suc n) (λ i h. omega arith) (members word n) (members_below word n)) (chosen_below (has_bit word n) n)

members_behind : (letter : ℕ) (is rest : List ℕ) (words : List (List ℕ)) → is_solid letter ≡ true → AllByRecursion (λ i. i < 64) is → Behind rest words
    → Behind (flat_map (lettered (32 ∷ letter ∷ [])) is ++ rest) (member_words letter is ++ words)
members_behind letter [] rest words solid h b = b
members_behind letter (i ∷ is) rest words solid h b =
    subst (λ (t : List ℕ). Behind (32 ∷ letter ∷ t) ((letter ∷ decimal i) ∷ (member_words letter is ++ words))) (sym (append_assoc (decimal i) (flat_map (lettered (32 ∷ letter ∷ [])) is) rest))
    (spaced_word (letter ∷ decimal i) (flat_map (lettered (32 ∷ letter ∷ [])) is ++ rest) (member_words letter is ++ words)
    (solid_lettered letter i solid (omega (arith, h.0))) (members_behind letter is rest words solid h.1 b))

few : (m : ℕ) (xs : List ℕ) → m ≤ 64 → AllByRecursion (λ i. i < m) xs → AllByRecursion (λ i. i < 64) xs
few m xs le h = all_weaker (λ i. i < m) (λ i. i < 64) (λ i k. omega arith) xs h

joined_four : (a b c d : List ℕ) → a ++ b ++ c ++ d ≡ a ++ (b ++ (c ++ d))
joined_four a b c d = simp append_assoc

tried_is : (t : Tried) → tried_text t ≡ members_text enclave_letter t.enclaves 8 ++ (members_text thread_letter t.threads 16 ++ (members_text region_letter t.regions 64 ++ members_text cell_letter t.cells 16))
tried_is t = joined_four (members_text enclave_letter t.enclaves 8) (members_text thread_letter t.threads 16) (members_text region_letter t.regions 64) (members_text cell_letter t.cells 16)

cells_behind : (t : Tried) → Behind (members_text cell_letter t.cells 16) (member_words 99 (members t.cells 16))
unfolding cell_letter
cells_behind t =
    subst (λ (text : List ℕ). Behind text (member_words 99 (members t.cells 16))) (append-nil (members_text cell_letter t.cells 16))
    (subst (λ (words : List (List ℕ)). Behind (members_text cell_letter t.cells 16 ++ []) words) (append-nil (member_words 99 (members t.cells 16)))
    (members_behind 99 (members t.cells 16) [] [] refl (few 16 (members t.cells 16) (omega arith) (members_below t.cells 16)) nothing))

kinds_behind : (t : Tried) → Behind (members_text enclave_letter t.enclaves 8 ++ (members_text thread_letter t.threads 16 ++ (members_text region_letter t.regions 64 ++ members_text cell_letter t.cells 16))) (tried_words t)
unfolding enclave_letter thread_letter region_letter
kinds_behind t =
    members_behind 101 (members t.enclaves 8) _ _ refl (few 8 (members t.enclaves 8) (omega arith) (members_below t.enclaves 8))
    (members_behind 116 (members t.threads 16) _ _ refl (few 16 (members t.threads 16) (omega arith) (members_below t.threads 16))
    (members_behind 114 (members t.regions 64) _ _ refl (members_below t.regions 64) (cells_behind t)))

tried_behind : (t : Tried) → Behind (tried_text t) (tried_words t)
tried_behind t = subst (λ (text : List ℕ). Behind text (tried_words t)) (sym (tried_is t)) (kinds_behind t)

-- ---- replies and pages

-- what a word's text becomes with a text behind it
object_behind : (object : ObjectId) (rest : List ℕ) (words : List (List ℕ)) (shape : Shape) → shape.regions ≤ 64 → shape.cores ≤ 16 → is_of_machine shape object ≡ true → Behind rest words
    → Behind (32 ∷ (object_text object ++ rest)) (object_word object ∷ words)
unfolding object_text
object_behind (objects.Enclave e) rest words shape few_r few_c h b = spaced_word (101 ∷ decimal e) rest words (solid_lettered 101 e refl (omega (arith, ltb-true e 8 h))) b
object_behind (objects.Thread t) rest words shape few_r few_c h b = spaced_word (116 ∷ decimal t) rest words (solid_lettered 116 t refl (omega (arith, ltb-true t 16 h))) b
object_behind (objects.Region r) rest words shape few_r few_c h b = spaced_word (114 ∷ decimal r) rest words (solid_lettered 114 r refl (omega (arith, ltb-true r shape.regions h))) b
object_behind (objects.Cell c) rest words shape few_r few_c h b = spaced_word (99 ∷ decimal c) rest words (solid_lettered 99 c refl (omega (arith, ltb-true c shape.cores h))) b

taken : (P : ℕ → Type 0) (n : ℕ) (xs : List ℕ) → AllByRecursion P xs → AllByRecursion P (take n xs)
taken P zero xs h = tt
taken P (suc n) [] h = tt
taken P (suc n) (x ∷ xs) h = (h.0, taken P n xs h.1)

concurrent_joined : (object holder serial rest : List ℕ)
    → (codes "concurrent " ++ object ++ (32 ∷ holder) ++ (32 ∷ serial)) ++ rest ≡ codes "concurrent" ++ (32 ∷ (object ++ (32 ∷ (holder ++ (32 ∷ (serial ++ rest))))))
concurrent_joined object holder serial rest = simp append_assoc

pub reply_behind : (shape : Shape) (reply : Reply) (rest : List ℕ) (words : List (List ℕ)) → shape.regions ≤ 64 → shape.cores ≤ 16 → FitsReply shape reply → Behind rest words
    → Behind (32 ∷ (reply_text reply ++ rest)) (reply_words reply ++ words)
unfolding reply_text ok_text concurrent_text
reply_behind shape (replies.Ok count ws) rest words few_r few_c h b =
    spaced_word (codes "ok") (all_spaced (take count ws) ++ rest) (map decimal (take count ws) ++ words) (record { some = omega arith; solid = refl })
    (spaced_numbers (take count ws) rest words (taken IsWord count ws h.2) b)
reply_behind shape replies.InvalidValue rest words few_r few_c h b = spaced_word (codes "invalid_value") rest words (record { some = omega arith; solid = refl }) b
reply_behind shape replies.InvalidState rest words few_r few_c h b = spaced_word (codes "invalid_state") rest words (record { some = omega arith; solid = refl }) b
reply_behind shape replies.AccessDenied rest words few_r few_c h b = spaced_word (codes "access_denied") rest words (record { some = omega arith; solid = refl }) b
reply_behind shape (replies.ConcurrentCall lock holder serial) rest words few_r few_c h b =
    let inner : Behind (32 ∷ (decimal serial ++ rest)) (decimal serial ∷ words) = spaced_word (decimal serial) rest words (solid_number serial (omega (arith, h.2))) b in
    let mid : Behind (32 ∷ (decimal holder ++ (32 ∷ (decimal serial ++ rest)))) (decimal holder ∷ decimal serial ∷ words) = spaced_word (decimal holder) _ _ (solid_number holder (omega (arith, h.1))) inner in
    let outer : Behind (32 ∷ (object_text lock ++ (32 ∷ (decimal holder ++ (32 ∷ (decimal serial ++ rest)))))) (object_word lock ∷ decimal holder ∷ decimal serial ∷ words) = object_behind lock _ _ shape few_r few_c h.0 mid in
    subst (λ (t : List ℕ). Behind (32 ∷ t) (codes "concurrent" ∷ object_word lock ∷ decimal holder ∷ decimal serial ∷ words)) (sym (concurrent_joined (object_text lock) (decimal holder) (decimal serial) rest))
    (spaced_word (codes "concurrent") _ _ (record { some = omega arith; solid = refl }) outer)
reply_behind shape replies.NotFlushed rest words few_r few_c h b = spaced_word (codes "not_flushed") rest words (record { some = omega arith; solid = refl }) b
reply_behind shape replies.Unsupported rest words few_r few_c h b = spaced_word (codes "unsupported") rest words (record { some = omega arith; solid = refl }) b

-- what is printed of a page
abbrev pub page_printed : Option PageInput → List ℕ
page_printed None = []
page_printed (Some page) = codes " page " ++ hex_text page.digest

page_chosen : (b : Bool) (page : Option PageInput) → is_some page ≡ b → cond b (codes " page " ++ hex_text (digest_of page)) [] ≡ page_printed page
page_chosen true None h = absurd cc
page_chosen false None h = refl
page_chosen true (Some page) h = refl
page_chosen false (Some page) h = absurd cc

pub page_is : (e : Entry) → is_some e.page ≡ has_its_page e → page_text e ≡ page_printed e.page
unfolding page_text
page_is e h = page_chosen (has_its_page e) e.page h

page_behind : (page : Option PageInput) (rest : List ℕ) (words : List (List ℕ)) → FitsPage page → Behind rest words → Behind (page_printed page ++ rest) (page_words page ++ words)
page_behind None rest words h b = b
page_behind (Some page) rest words h b =
    spaced_word (codes "page") _ _ (record { some = omega arith; solid = refl })
    (spaced_word (hex_text page.digest) rest words (solid_hex page.digest (omega (arith, h.0))) b)

-- ---- the line of a call

name_solid : (call : Call) → IsSolid (call_name call)
unfolding call_name
name_solid (calls.Block r) = record { some = omega arith; solid = refl }
name_solid (calls.Free r) = record { some = omega arith; solid = refl }
name_solid (calls.Assign r to) = record { some = omega arith; solid = refl }
name_solid calls.Flush = record { some = omega arith; solid = refl }
name_solid (calls.RegionInfo r) = record { some = omega arith; solid = refl }
name_solid (calls.Create e base size) = record { some = omega arith; solid = refl }
name_solid (calls.LoadTable e va level page) = record { some = omega arith; solid = refl }
name_solid (calls.LoadPage e va page src perms) = record { some = omega arith; solid = refl }
name_solid (calls.LoadThread e t entry sp) = record { some = omega arith; solid = refl }
name_solid (calls.Init e) = record { some = omega arith; solid = refl }
name_solid (calls.DeleteThread e t) = record { some = omega arith; solid = refl }
name_solid (calls.Delete e) = record { some = omega arith; solid = refl }
name_solid (calls.Enter e t) = record { some = omega arith; solid = refl }
name_solid calls.Exit = record { some = omega arith; solid = refl }
name_solid (calls.Aex saved) = record { some = omega arith; solid = refl }
name_solid calls.Restore = record { some = omega arith; solid = refl }
name_solid (calls.Accept m from) = record { some = omega arith; solid = refl }
name_solid (calls.Send to m w0 w1 w2 w3) = record { some = omega arith; solid = refl }
name_solid (calls.Read m) = record { some = omega arith; solid = refl }
name_solid (calls.EnclaveInfo e) = record { some = omega arith; solid = refl }
name_solid (calls.SetSatp v) = record { some = omega arith; solid = refl }
name_solid (calls.AcceptRegion r) = record { some = omega arith; solid = refl }
name_solid (calls.Reserve e va page perms) = record { some = omega arith; solid = refl }
name_solid (calls.Unknown number args) = record { some = omega arith; solid = refl }

-- what stands behind the name of a call, and its words
abbrev pub tail_text : Entry → List ℕ
tail_text e =
    all_spaced (call_args e.call) ++ (page_printed e.page ++ (codes " =" ++ (32 ∷ (reply_text e.reply ++ (codes " tried" ++ tried_text e.tried)))))

abbrev tail_words : Entry → List (List ℕ)
tail_words e =
    map decimal (call_args e.call) ++ (page_words e.page ++ (codes "=" ∷ (reply_words e.reply ++ (codes "tried" ∷ tried_words e.tried))))

solid_tried : IsSolid (codes "tried")
solid_tried = record { some = omega arith; solid = refl }

solid_equals : IsSolid (codes "=")
solid_equals = record { some = omega arith; solid = refl }

tail_behind : (shape : Shape) (e : Entry) → shape.regions ≤ 64 → shape.cores ≤ 16 → FitsEntry shape e → Behind (tail_text e) (tail_words e)
tail_behind shape e few_r few_c h =
    spaced_numbers (call_args e.call) _ _ h.words (page_behind e.page _ _ h.page
    (spaced_word (codes "=") _ _ solid_equals (reply_behind shape e.reply _ _ few_r few_c h.reply
    (spaced_word (codes "tried") _ _ solid_tried (tried_behind e.tried)))))

-- what stands in the line before its end
abbrev pub body_text : Entry → List ℕ
body_text e =
    codes "call" ++ (32 ∷ (decimal e.ticket ++ (codes " core" ++ (32 ∷ (decimal e.core ++ (codes " serial" ++ (32 ∷ (decimal e.serial
    ++ (32 ∷ (call_name e.call ++ tail_text e))))))))))

body_words : (shape : Shape) (e : Entry) → shape.regions ≤ 64 → shape.cores ≤ 16 → FitsEntry shape e → AreWords (body_text e) (call_words e)
body_words shape e few_r few_c h =
    word_first (codes "call") _ _ (record { some = omega arith; solid = refl })
    (spaced_word (decimal e.ticket) _ _ (solid_number e.ticket (omega (arith, h.ticket)))
    (spaced_word (codes "core") _ _ (record { some = omega arith; solid = refl })
    (spaced_word (decimal e.core) _ _ (solid_number e.core (omega (arith, h.core)))
    (spaced_word (codes "serial") _ _ (record { some = omega arith; solid = refl })
    (spaced_word (decimal e.serial) _ _ (solid_number e.serial (omega (arith, h.serial)))
    (spaced_word (call_name e.call) _ _ (name_solid e.call) (tail_behind shape e few_r few_c h)))))))

-- the parts of a line, joined from the left and from the right
regrouped : (t c i name args page reply tried : List ℕ)
    → codes "call " ++ t ++ codes " core " ++ c ++ codes " serial " ++ i ++ codes " " ++ name ++ args ++ page ++ codes " = " ++ reply ++ codes " tried" ++ tried ++ codes "\n"
    ≡ (codes "call" ++ (32 ∷ (t ++ (codes " core" ++ (32 ∷ (c ++ (codes " serial" ++ (32 ∷ (i ++ (32 ∷ (name
    ++ (args ++ (page ++ (codes " =" ++ (32 ∷ (reply ++ (codes " tried" ++ tried))))))))))))))))) ++ 10 ∷ []
regrouped t c i name args page reply tried = simp append_assoc

-- the same with another text of the page
abbrev pub body_with : Entry → List ℕ → List ℕ
body_with e page =
    codes "call" ++ (32 ∷ (decimal e.ticket ++ (codes " core" ++ (32 ∷ (decimal e.core ++ (codes " serial" ++ (32 ∷ (decimal e.serial
    ++ (32 ∷ (call_name e.call ++ (all_spaced (call_args e.call) ++ (page ++ (codes " =" ++ (32 ∷ (reply_text e.reply ++ (codes " tried" ++ tried_text e.tried))))))))))))))))

pub line_grouped : (e : Entry) → call_line e ≡ body_with e (page_text e) ++ 10 ∷ []
unfolding call_line call_head
line_grouped e = regrouped (decimal e.ticket) (decimal e.core) (decimal e.serial) (call_name e.call) (all_spaced (call_args e.call)) (page_text e) (reply_text e.reply) (tried_text e.tried)

pub line_is : (e : Entry) → is_some e.page ≡ has_its_page e → call_line e ≡ body_text e ++ 10 ∷ []
line_is e h = line_grouped e ∙ ap (λ (page : List ℕ). body_with e page ++ 10 ∷ []) (page_is e h)

-- the words of the line of a call
pub call_line_words : (shape : Shape) (e : Entry) → shape.regions ≤ 64 → shape.cores ≤ 16 → FitsEntry shape e → words_in (call_line e) ≡ call_words e
call_line_words shape e few_r few_c h = line_words (call_line e) (body_text e) (call_words e) (line_is e h.has_page) (body_words shape e few_r few_c h)
