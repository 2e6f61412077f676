-- The parts of a call's line: what is printed is read, and what is read fits.
use Rattle.std.proofs.Common.{◌≡◌, ℕ, zero, suc, ◌-◌, ◌<◌, ◌≤◌, ◌^◌, Bool, true, false, cond, List, [], ◌∷◌, ◌++◌, length, take, drop, replicate, Option, Some, None, Result, Ok, Err, refl, sym, ap, subst, ◌∙◌, arith, inl, inr}
use Rattle.std.specs.Prelude.{map, codes, slice_index}
use Rattle.std.specs.List.{AllByRecursion, find}
use Rattle.std.specs.Option.{option_map}
use Rattle.std.specs.Str.{bytes_eq}
use Rattle.std.specs.Fmt.{decimal}
use Rattle.std.proofs.lemmas.Bool.{cases_Bool}
use Rattle.std.proofs.lemmas.List.{length-take-le, take-append-drop}
use Rattle.hex.specs.Hex.{decode_sized}
use Rattle.hex.specs.declared.error.FromHexError.{FromHexError}
use Rattle.hex.proofs.HexLemmas.{decode_sized-encode_lower, decode_sized-ok, decode_sized-twice, decode_of-ok}
use Rattle.mon_types.specs.Shape.{Shape}
use Rattle.mon_types.specs.Calls.{call_name, call_args, call_of, call_of_registers}
use Rattle.mon_types.specs.declared.call.Call.{Call}
use Rattle.mon_types.specs.declared.call.Call.TheVariants as calls
use Rattle.mon_types.specs.declared.reply.Reply.{Reply}
use Rattle.mon_types.specs.declared.reply.Reply.TheVariants as replies
use Rattle.mon_types.specs.declared.object.ObjectId.{ObjectId}
use Rattle.hist.specs.declared.event.PageInput.{PageInput}
use Rattle.text_in.specs.Numbers.{with_bytes}
use Rattle.report_lines.specs.Fits.{IsWord, is_unsupported, HasItsArguments, is_of_machine, FitsReply, FitsPage}
use Rattle.report_lines.specs.declared.call.Head.{Head}
use Rattle.report_lines.specs.Reading.{◌>>=◌, number_at, numbers_at, padded, head_at, name_of, named_numbers, number_named, unknown_call, call_named, call_at, decoded, page_with, digest_at, page_at, object_of, object_at, ok_at, concurrent_at, refusal_named, reply_at}
use Rattle.report_lines.proofs.Printed.{reply_words, page_words}
use Rattle.report_lines.proofs.Numbers.{number_read, numbers_read, number_found, numbers_found, padded_words, padded_long, padded_full}
use Rattle.report_lines.proofs.Objects.{object_read, object_there}

-- ---- words that are no numbers

pub page_is_none : (words : List (List ℕ)) → number_at (2 ^ 64 - 1) (codes "page" ∷ words) ≡ None
unfolding with_bytes
page_is_none words = refl

pub equals_is_none : (words : List (List ℕ)) → number_at (2 ^ 64 - 1) (codes "=" ∷ words) ≡ None
unfolding with_bytes
equals_is_none words = refl

pub tried_is_none : (words : List (List ℕ)) → number_at (2 ^ 64 - 1) (codes "tried" ∷ words) ≡ None
unfolding with_bytes
tried_is_none words = refl

-- ---- the head

pub head_read : (head : Head) (words : List (List ℕ)) → head.ticket < 2 ^ 32 → head.core < 256 → head.serial < 2 ^ 32
    → head_at (codes "call" ∷ decimal head.ticket ∷ codes "core" ∷ decimal head.core ∷ codes "serial" ∷ decimal head.serial ∷ words) ≡ Some (head, words)
head_read head words t c s =
    rw (
      number_read (2 ^ 32 - 1) head.ticket (codes "core" ∷ decimal head.core ∷ codes "serial" ∷ decimal head.serial ∷ words) (omega arith) (omega arith),
      number_read 255 head.core (codes "serial" ∷ decimal head.serial ∷ words) (omega arith) (omega arith),
      number_read (2 ^ 32 - 1) head.serial words (omega arith) (omega arith),
    ) refl

-- ---- the call

-- lists of six
of_six : (P : List ℕ → Type 0) → ((a b c d e f : ℕ) → P (a ∷ b ∷ c ∷ d ∷ e ∷ f ∷ [])) → (args : List ℕ) → length args ≡ 6 → P args
of_six P p [] h = absurd (omega arith)
of_six P p (a ∷ []) h = absurd (omega arith)
of_six P p (a ∷ b ∷ []) h = absurd (omega arith)
of_six P p (a ∷ b ∷ c ∷ []) h = absurd (omega arith)
of_six P p (a ∷ b ∷ c ∷ d ∷ []) h = absurd (omega arith)
of_six P p (a ∷ b ∷ c ∷ d ∷ e ∷ []) h = absurd (omega arith)
of_six P p (a ∷ b ∷ c ∷ d ∷ e ∷ f ∷ []) h = p a b c d e f
of_six P p (a ∷ b ∷ c ∷ d ∷ e ∷ f ∷ g ∷ rest) h = absurd (omega arith)

unknown_read : (number : ℕ) (args : List ℕ) → length args ≡ 6 → is_unsupported number ≡ true → unknown_call (padded 33 (number ∷ args)) ≡ Some (calls.Unknown number args)
unknown_read number args six h =
    of_six (λ (args : List ℕ). unknown_call (padded 33 (number ∷ args)) ≡ Some (calls.Unknown number args))
    (λ a b c d e f. ap (λ (t : Bool). cond t (Some (calls.Unknown number (a ∷ b ∷ c ∷ d ∷ e ∷ f ∷ []))) None) h) args six

pub named_read : (call : Call) → HasItsArguments call → call_named (call_name call) (padded 33 (call_args call)) ≡ Some call
unfolding call_named call_name call_of
named_read (calls.Block r) h = refl
named_read (calls.Free r) h = refl
named_read (calls.Assign r to) h = refl
named_read calls.Flush h = refl
named_read (calls.RegionInfo r) h = refl
named_read (calls.Create e base size) h = refl
named_read (calls.LoadTable e va level page) h = refl
named_read (calls.LoadPage e va page src perms) h = refl
named_read (calls.LoadThread e t entry sp) h = refl
named_read (calls.Init e) h = refl
named_read (calls.DeleteThread e t) h = refl
named_read (calls.Delete e) h = refl
named_read (calls.Enter e t) h = refl
named_read calls.Exit h = refl
named_read (calls.Aex saved) h = ap (λ (words : List ℕ). Some (calls.Aex words)) (padded_full 33 saved h)
named_read calls.Restore h = refl
named_read (calls.Accept m from) h = refl
named_read (calls.Send to m w0 w1 w2 w3) h = refl
named_read (calls.Read m) h = refl
named_read (calls.EnclaveInfo e) h = refl
named_read (calls.SetSatp v) h = refl
named_read (calls.AcceptRegion r) h = refl
named_read (calls.Reserve e va page perms) h = refl
named_read (calls.Unknown number args) h = unknown_read number args h.0 h.1

few_args : (call : Call) → HasItsArguments call → length (call_args call) ≤ 33
few_args (calls.Block r) h = omega arith
few_args (calls.Free r) h = omega arith
few_args (calls.Assign r to) h = omega arith
few_args calls.Flush h = omega arith
few_args (calls.RegionInfo r) h = omega arith
few_args (calls.Create e base size) h = omega arith
few_args (calls.LoadTable e va level page) h = omega arith
few_args (calls.LoadPage e va page src perms) h = omega arith
few_args (calls.LoadThread e t entry sp) h = omega arith
few_args (calls.Init e) h = omega arith
few_args (calls.DeleteThread e t) h = omega arith
few_args (calls.Delete e) h = omega arith
few_args (calls.Enter e t) h = omega arith
few_args calls.Exit h = omega arith
few_args (calls.Aex saved) h = omega arith
few_args calls.Restore h = omega arith
few_args (calls.Accept m from) h = omega arith
few_args (calls.Send to m w0 w1 w2 w3) h = omega arith
few_args (calls.Read m) h = omega arith
few_args (calls.EnclaveInfo e) h = omega arith
few_args (calls.SetSatp v) h = omega arith
few_args (calls.AcceptRegion r) h = omega arith
few_args (calls.Reserve e va page perms) h = omega arith
few_args (calls.Unknown number args) h = omega (arith, h.0)

pub call_read : (call : Call) (words : List (List ℕ)) → HasItsArguments call → AllByRecursion IsWord (call_args call) → number_at (2 ^ 64 - 1) words ≡ None
    → call_at (call_name call ∷ (map decimal (call_args call) ++ words)) ≡ Some (call, words)
call_read call words h are none =
    let numbers = numbers_read 33 (call_args call) words (few_args call h) are none in
    ap (λ (found : List ℕ × List (List ℕ)). option_map (λ (c : Call). (c, found.1)) (call_named (call_name call) (padded 33 found.0))) numbers
    ∙ ap (option_map (λ (c : Call). (c, words))) (named_read call h)

-- ---- the page

page_back : (page : PageInput) → page.at ≡ 0 → page_with page.digest ≡ page
page_back page h = ap (λ (at : ℕ). record { digest = page.digest; at = at }) (sym h)

pub page_read : (page : Option PageInput) (words : List (List ℕ)) → FitsPage page → page_at (page_words page ++ (codes "=" ∷ words)) ≡ Some (page, codes "=" ∷ words)
unfolding page_at
page_read None words h = refl
page_read (Some page) words h =
    ap (λ (r : Result (List ℕ) FromHexError). option_map (λ (digest : List ℕ). (Some (page_with digest), codes "=" ∷ words)) (decoded r)) (decode_sized-encode_lower page.digest 32 h.0 h.1)
    ∙ ap (λ (p : PageInput). Some (Some p, codes "=" ∷ words)) (page_back page h.2)

-- ---- the reply

ok_read : (count : ℕ) (ws : List ℕ) (words : List (List ℕ)) → count ≤ 8 → length ws ≡ 8 → AllByRecursion IsWord (take count ws) → drop count ws ≡ replicate (8 - count) 0 → number_at (2 ^ 64 - 1) words ≡ None
    → ok_at (map decimal (take count ws) ++ words) ≡ (replies.Ok count ws, words)
ok_read count ws words few long are zeros none =
    let size : length (take count ws) ≡ count = length-take-le count ws (omega arith) in
    let read = numbers_read 8 (take count ws) words (omega arith) are none in
    let whole : padded 8 (take count ws) ≡ ws = ap (λ (n : ℕ). take count ws ++ replicate (8 - n) 0) size ∙ ap (λ (z : List ℕ). take count ws ++ z) (sym zeros) ∙ take-append-drop count ws in
    ap (λ (found : List ℕ × List (List ℕ)). (replies.Ok (length found.0) (padded 8 found.0), found.1)) read
    ∙ ap (λ (n : ℕ). (replies.Ok n (padded 8 (take count ws)), words)) size
    ∙ ap (λ (z : List ℕ). (replies.Ok count z, words)) whole

taken : (P : ℕ → Type 0) (n : ℕ) (xs : List ℕ) → AllByRecursion P xs → AllByRecursion P (take n xs)
taken P zero xs h = tt
taken P (suc n) [] h = tt
taken P (suc n) (x ∷ xs) h = (h.0, taken P n xs h.1)

pub reply_read : (shape : Shape) (reply : Reply) (words : List (List ℕ)) → shape.regions ≤ 64 → shape.cores ≤ 16 → FitsReply shape reply → number_at (2 ^ 64 - 1) words ≡ None
    → reply_at shape (reply_words reply ++ words) ≡ Some (reply, words)
unfolding reply_at refusal_named
reply_read shape (replies.Ok count ws) words few_r few_c h none = ap (λ (r : Reply × List (List ℕ)). Some r) (ok_read count ws words h.0 h.1 (taken IsWord count ws h.2) h.3 none)
reply_read shape replies.InvalidValue words few_r few_c h none = refl
reply_read shape replies.InvalidState words few_r few_c h none = refl
reply_read shape replies.AccessDenied words few_r few_c h none = refl
reply_read shape (replies.ConcurrentCall lock holder serial) words few_r few_c h none =
    rw (
      object_read shape lock few_r few_c h.0,
      number_read 255 holder (decimal serial ∷ words) (omega (arith, h.1)) (omega arith),
      number_read (2 ^ 32 - 1) serial words (omega (arith, h.2)) (omega arith),
    ) refl
reply_read shape replies.NotFlushed words few_r few_c h none = refl
reply_read shape replies.Unsupported words few_r few_c h none = refl

-- ---- what is read fits

pub bind_some : {A B : Type 0} (r : Option A) (f : A → Option B) (y : B) → (r >>= f) ≡ Some y → (x : A) × (r ≡ Some x) × (f x ≡ Some y)
bind_some None f y e = absurd cc
bind_some (Some x) f y e = (x, refl, e)

pub map_some : {A B : Type 0} (g : A → B) (r : Option A) (y : B) → option_map g r ≡ Some y → (x : A) × (r ≡ Some x) × (g x ≡ y)
map_some g None y e = absurd cc
map_some g (Some x) y e = (x, refl, cc)

pub if_some : {A : Type 0} (b : Bool) (x y : A) → cond b (Some x) None ≡ Some y → (b ≡ true) × (x ≡ y)
if_some true x y e = (refl, cc)
if_some false x y e = absurd cc

-- of a call with these words
record FitsCall (call : Call) : Type 0 where
  args : HasItsArguments call
  words : AllByRecursion IsWord (call_args call)

word_at : (xs : List ℕ) (i : ℕ) → AllByRecursion IsWord xs → IsWord (slice_index xs i)
word_at [] i h = omega arith
word_at (x ∷ xs) zero h = h.0
word_at (x ∷ xs) (suc i) h = word_at xs i h.1

-- the call of a number, whatever its words
abbrev FitsNumber : ℕ → Type 0
FitsNumber n = (a b c d e f : ℕ) → IsWord a → IsWord b → IsWord c → IsWord d → IsWord e → IsWord f → FitsCall (call_of n a b c d e f)

all_fit : AllByRecursion FitsNumber named_numbers
unfolding call_of
all_fit = (
  λ a b c d e f ha hb hc hd he hf. record { args = tt; words = (ha, tt) },
  (
    λ a b c d e f ha hb hc hd he hf. record { args = tt; words = (ha, tt) },
    (
      λ a b c d e f ha hb hc hd he hf. record { args = tt; words = (ha, (hb, tt)) },
      (
        λ a b c d e f ha hb hc hd he hf. record { args = tt; words = tt },
        (
          λ a b c d e f ha hb hc hd he hf. record { args = tt; words = (ha, tt) },
          (
            λ a b c d e f ha hb hc hd he hf. record { args = tt; words = (ha, (hb, (hc, tt))) },
            (
              λ a b c d e f ha hb hc hd he hf. record { args = tt; words = (ha, (hb, (hc, (hd, tt)))) },
              (
                λ a b c d e f ha hb hc hd he hf. record { args = tt; words = (ha, (hb, (hc, (hd, (he, tt))))) },
                (
                  λ a b c d e f ha hb hc hd he hf. record { args = tt; words = (ha, (hb, (hc, (hd, tt)))) },
                  (
                    λ a b c d e f ha hb hc hd he hf. record { args = tt; words = (ha, tt) },
                    (
                      λ a b c d e f ha hb hc hd he hf. record { args = tt; words = (ha, (hb, tt)) },
                      (
                        λ a b c d e f ha hb hc hd he hf. record { args = tt; words = (ha, tt) },
                        (
                          λ a b c d e f ha hb hc hd he hf. record { args = tt; words = (ha, (hb, tt)) },
                          (
                            λ a b c d e f ha hb hc hd he hf. record { args = tt; words = tt },
                            (
                              λ a b c d e f ha hb hc hd he hf. record { args = tt; words = tt },
                              (
                                λ a b c d e f ha hb hc hd he hf. record { args = tt; words = (ha, (hb, tt)) },
                                (
                                  λ a b c d e f ha hb hc hd he hf. record { args = tt; words = (ha, (hb, (hc, (hd, (he, (hf, tt)))))) },
                                  (
                                    λ a b c d e f ha hb hc hd he hf. record { args = tt; words = (ha, tt) },
                                    (
                                      λ a b c d e f ha hb hc hd he hf. record { args = tt; words = (ha, tt) },
                                      (
                                        λ a b c d e f ha hb hc hd he hf. record { args = tt; words = (ha, tt) },
                                        (
                                          λ a b c d e f ha hb hc hd he hf. record { args = tt; words = (ha, tt) },
                                          (
                                            λ a b c d e f ha hb hc hd he hf. record { args = tt; words = (ha, (hb, (hc, (hd, tt)))) },
                                            tt,
                                          ),
                                        ),
                                      ),
                                    ),
                                  ),
                                ),
                              ),
                            ),
                          ),
                        ),
                      ),
                    ),
                  ),
                ),
              ),
            ),
          ),
        ),
      ),
    ),
  ),
)

found_among : (P : ℕ → Type 0) (test : ℕ → Bool) (xs : List ℕ) (n : ℕ) → AllByRecursion P xs → find test xs ≡ Some n → P n
found_among P test [] n h e = absurd cc
found_among P test (x ∷ xs) n h e =
    elim (cases_Bool (test x)) [
      | inl t ↦ let here : Some x ≡ Some n = sym (ap (λ (b : Bool). cond b (Some x) (find test xs)) t) ∙ e in let same : x ≡ n = cc in subst P same h.0
      | inr f ↦ found_among P test xs n h.1 (sym (ap (λ (b : Bool). cond b (Some x) (find test xs)) f) ∙ e)
    ]

known_found : (name numbers : List ℕ) (call : Call) → AllByRecursion IsWord numbers → option_map (λ number. call_of_registers number (take 6 numbers)) (number_named name) ≡ Some call → FitsCall call
known_found name numbers call are e =
    let a = map_some (λ (number : ℕ). call_of_registers number (take 6 numbers)) (number_named name) call e in
    let args : AllByRecursion IsWord (take 6 numbers) = taken IsWord 6 numbers are in
    let fits : FitsNumber a.0 = found_among FitsNumber (λ number. bytes_eq name (name_of number)) named_numbers a.0 all_fit a.1 in
    subst FitsCall a.2
    (fits _ _ _ _ _ _ (word_at (take 6 numbers) 0 args) (word_at (take 6 numbers) 1 args) (word_at (take 6 numbers) 2 args) (word_at (take 6 numbers) 3 args) (word_at (take 6 numbers) 4 args) (word_at (take 6 numbers) 5 args))

dropped : (P : ℕ → Type 0) (n : ℕ) (xs : List ℕ) → AllByRecursion P xs → AllByRecursion P (drop n xs)
dropped P zero xs h = h
dropped P (suc n) [] h = tt
dropped P (suc n) (x ∷ xs) h = dropped P n xs h.1

unknown_found : (numbers : List ℕ) (call : Call) → length numbers ≡ 33 → AllByRecursion IsWord numbers → unknown_call numbers ≡ Some call → FitsCall call
unknown_found [] call long are e = absurd (omega arith)
unknown_found (n ∷ numbers) call long are e =
    let c = if_some (is_unsupported n) (calls.Unknown n (take 6 numbers)) call e in
    subst FitsCall c.1 (record { args = (length-take-le 6 numbers (omega arith), c.0); words = (are.0, taken IsWord 6 numbers are.1) })

named_found : (name numbers : List ℕ) (call : Call) → length numbers ≡ 33 → AllByRecursion IsWord numbers → call_named name numbers ≡ Some call → FitsCall call
unfolding call_named
named_found name numbers call long are e =
    elim (cases_Bool (bytes_eq name (codes "ecall"))) [
      | inl t ↦ unknown_found numbers call long are (rw t at e)
      | inr f ↦
          let e2 = rw f at e in
          elim (cases_Bool (bytes_eq name (codes "aex"))) [
            | inl t ↦
                let is : Some (calls.Aex numbers) ≡ Some call = rw t at e2 in
                let same : calls.Aex numbers ≡ call = cc in
                subst FitsCall same (record { args = long; words = are })
            | inr g ↦ known_found name numbers call are (rw g at e2)
          ]
    ]

pub call_found : (words : List (List ℕ)) (found : Call × List (List ℕ)) → call_at words ≡ Some found → HasItsArguments found.0 × AllByRecursion IsWord (call_args found.0)
call_found [] found e = absurd cc
call_found (name ∷ words) found e =
    let a = map_some (λ (call : Call). (call, (numbers_at 33 words).1)) (call_named name (padded 33 (numbers_at 33 words).0)) found e in
    let n = numbers_found 33 words in
    let fits : FitsCall a.0 = named_found name (padded 33 (numbers_at 33 words).0) a.0 (padded_long 33 (numbers_at 33 words).0 n.few) (padded_words 33 (numbers_at 33 words).0 n.words) a.1 in
    let same : a.0 ≡ found.0 = ap (λ (p : Call × List (List ℕ)). p.0) a.2 in
    subst (λ (c : Call). HasItsArguments c × AllByRecursion IsWord (call_args c)) same (fits.args, fits.words)

-- of a page
decoded_some : (r : Result (List ℕ) FromHexError) (digest : List ℕ) → decoded r ≡ Some digest → r ≡ Ok digest
decoded_some (Ok bytes) digest e = let same : bytes ≡ digest = cc in ap (λ (x : List ℕ). Ok x) same
decoded_some (Err error) digest e = absurd cc

digest_found : (words : List (List ℕ)) (found : Option PageInput × List (List ℕ)) → digest_at words ≡ Some found → FitsPage found.0
digest_found [] found e = absurd cc
digest_found (word ∷ words) found e =
    let a = map_some (λ (digest : List ℕ). (Some (page_with digest), words)) (decoded (decode_sized word 32)) found e in
    let is : decode_sized word 32 ≡ Ok a.0 = decoded_some (decode_sized word 32) a.0 a.1 in
    let long = decode_sized-ok word 32 a.0 is in
    let bytes = decode_of-ok word a.0 (sym (decode_sized-twice word 32 long) ∙ is) in
    let same : Some (page_with a.0) ≡ found.0 = ap (λ (p : Option PageInput × List (List ℕ)). p.0) a.2 in
    subst FitsPage same (omega (arith, bytes.2, long), bytes.3, refl)

pub page_found : (words : List (List ℕ)) (found : Option PageInput × List (List ℕ)) → page_at words ≡ Some found → FitsPage found.0
unfolding page_at
page_found [] found e = let same : None ≡ found.0 = cc in subst FitsPage same tt
page_found (word ∷ words) found e =
    elim (cases_Bool (bytes_eq word (codes "page"))) [
      | inl t ↦ digest_found words found (rw t at e)
      | inr f ↦
          let is : Some (None, word ∷ words) ≡ Some found = rw f at e in
          let pair : (None, word ∷ words) ≡ found = cc in
          let same : None ≡ found.0 = ap (λ (p : Option PageInput × List (List ℕ)). p.0) pair in
          subst FitsPage same tt
    ]

-- of a reply, but for the core that held the lock
abbrev pub FitsRead : Shape → Reply → Type 0
FitsRead shape (replies.Ok count words) = FitsReply shape (replies.Ok count words)
FitsRead shape (replies.ConcurrentCall lock holder serial) = (is_of_machine shape lock ≡ true) × (serial < 2 ^ 32)
FitsRead shape _ = Unit {0}

drop_seam : (xs ys : List ℕ) → drop (length xs) (xs ++ ys) ≡ ys
drop_seam [] ys = refl
drop_seam (x ∷ xs) ys = drop_seam xs ys

pub some_same : {A : Type 0} (x y : A) → ◌≡◌ {A = Option A} (Some x) (Some y) → x ≡ y
some_same x y e = cc

five : (a b c d f : Bool) (shape : Shape) (reply : Reply)
    → cond a (Some replies.InvalidValue) (cond b (Some replies.InvalidState) (cond c (Some replies.AccessDenied) (cond d (Some replies.NotFlushed) (cond f (Some replies.Unsupported) None)))) ≡ Some reply
    → FitsRead shape reply
five true b c d f shape reply e = subst (FitsRead shape) (some_same replies.InvalidValue reply e) tt
five false true c d f shape reply e = subst (FitsRead shape) (some_same replies.InvalidState reply e) tt
five false false true d f shape reply e = subst (FitsRead shape) (some_same replies.AccessDenied reply e) tt
five false false false true f shape reply e = subst (FitsRead shape) (some_same replies.NotFlushed reply e) tt
five false false false false true shape reply e = subst (FitsRead shape) (some_same replies.Unsupported reply e) tt
five false false false false false shape reply e = absurd cc

ok_fits : (shape : Shape) (words : List (List ℕ)) → FitsRead shape (ok_at words).0
ok_fits shape words =
    let n = numbers_found 8 words in
    let ns = (numbers_at 8 words).0 in (
      n.few,
      padded_long 8 ns n.few,
      padded_words 8 ns n.words,
      drop_seam ns (replicate (8 - length ns) 0),
    )

concurrent_fits : (shape : Shape) (words : List (List ℕ)) (found : Reply × List (List ℕ)) → concurrent_at shape words ≡ Some found → FitsRead shape found.0
concurrent_fits shape [] found e = absurd cc
concurrent_fits shape (word ∷ words) found e =
    let a = bind_some (object_at shape (word ∷ words)) (λ lock. number_at 255 lock.1 >>= λ holder. number_at (2 ^ 32 - 1) holder.1 >>= λ serial. Some (replies.ConcurrentCall lock.0 holder.0 serial.0, serial.1)) found e in
    let o = map_some (λ (object : ObjectId). (object, words)) (object_of shape word) a.0 a.1 in
    let b = bind_some (number_at 255 a.0.1) (λ holder. number_at (2 ^ 32 - 1) holder.1 >>= λ serial. Some (replies.ConcurrentCall a.0.0 holder.0 serial.0, serial.1)) found a.2 in
    let c = bind_some (number_at (2 ^ 32 - 1) b.0.1) (λ serial. Some (replies.ConcurrentCall a.0.0 b.0.0 serial.0, serial.1)) found b.2 in
    let pair : (replies.ConcurrentCall a.0.0 b.0.0 c.0.0, c.0.1) ≡ found = some_same _ found c.2 in
    let lock : o.0 ≡ a.0.0 = ap (λ (p : ObjectId × List (List ℕ)). p.0) o.2 in
    let small : c.0.0 ≤ 2 ^ 32 - 1 = number_found (2 ^ 32 - 1) b.0.1 c.0 c.1 in
    subst (FitsRead shape) (ap (λ (p : Reply × List (List ℕ)). p.0) pair) (subst (λ (x : ObjectId). is_of_machine shape x ≡ true) lock (object_there shape word o.0 o.1), omega arith)

refusal_fits : (shape : Shape) (word : List ℕ) (reply : Reply) → refusal_named word ≡ Some reply → FitsRead shape reply
unfolding refusal_named
refusal_fits shape word reply e = five (bytes_eq word (codes "invalid_value")) (bytes_eq word (codes "invalid_state")) (bytes_eq word (codes "access_denied")) (bytes_eq word (codes "not_flushed")) (bytes_eq word (codes "unsupported")) shape reply e

pub reply_found : (shape : Shape) (words : List (List ℕ)) (found : Reply × List (List ℕ)) → reply_at shape words ≡ Some found → FitsRead shape found.0
unfolding reply_at
reply_found shape [] found e = absurd cc
reply_found shape (word ∷ words) found e =
    elim (cases_Bool (bytes_eq word (codes "ok"))) [
      | inl t ↦
          let is : Some (ok_at words) ≡ Some found = rw t at e in
          subst (FitsRead shape) (ap (λ (p : Reply × List (List ℕ)). p.0) (some_same (ok_at words) found is)) (ok_fits shape words)
      | inr f ↦
          let e2 = rw f at e in
          elim (cases_Bool (bytes_eq word (codes "concurrent"))) [
            | inl t ↦ concurrent_fits shape words found (rw t at e2)
            | inr g ↦
                let a = map_some (λ (reply : Reply). (reply, words)) (refusal_named word) found (rw g at e2) in
                subst (FitsRead shape) (ap (λ (p : Reply × List (List ℕ)). p.0) a.2) (refusal_fits shape word a.0 a.1)
          ]
    ]
