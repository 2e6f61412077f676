-- The records of enclave slots come back from the words of their rows.
use Rattle.std.proofs.Common.{◌≡◌, ◌≢◌, ◌<◌, ◌+◌, ◌-◌, ◌%◌, ◌^◌, ◌∙◌, ℕ, Bool, true, false, Option, Some, None, List, [], ◌∷◌, length, ap, sym, refl, get_or, take, drop, arith}
use Rattle.std.specs.Prelude.{◌==◌, if◌then◌else◌, nat_lt}
use Rattle.std.proofs.lemmas.Bool.Decides.{nat_tests}
use Rattle.std.proofs.Math.Nat.{mod-eq_of_lt}
use Rattle.std.proofs.lemmas.List.{take_at, drop_at, drop-drop, take_all, length-append}
use Rattle.std.specs.List.{AllByRecursion}
use Rattle.mon_types.specs.declared.enclave.Stage.{Stage}
use Rattle.mon_types.specs.declared.enclave.Stage.TheVariants as stages
use Rattle.mon_types.specs.declared.enclave.Mailbox.{Mailbox}
use Rattle.mon_types.specs.declared.enclave.Mailbox.TheVariants as mailboxes
use Rattle.mon_types.specs.declared.enclave.Enclave.{Enclave}
use Rattle.mon_types.specs.Shape.{Shape}
use Rattle.mon_types.specs.Words.{AreWords, fitting}
use Rattle.mon_types.specs.Enclaves.{IsEnclave, IsMailbox, IsRoot, empty_enclave, enclave_row, mailbox_row, mail_rows, stage_code, root_code, stage_from, root_from, mailbox_by, mailbox_parts, enclave_parts, enclave_from, root_within, enclave_within}
use Rattle.mon_types.specs.RowLaws.{HasRootWithin}
use Rattle.mon_types.proofs.Rows.{kept_where_same, none_where_other, row_back, kept_or_none, fitting_is, fitting_less, Fits, all_at, part, zeros_fit}

stage_back : (s : Stage) → stage_from (stage_code s) ≡ s
unfolding stage_from
stage_back stages.Empty = refl
stage_back stages.Loading = refl
stage_back stages.Initialized = refl

root_back : (root : Option ℕ) → IsRoot root → root_from (root_code root) ≡ root
unfolding root_from
root_back None h = refl
root_back (Some page) h =
    let some : (page + 1 == 0) ≡ false = grind (arith, nat_tests) in
    let slot : page + 1 - 1 ≡ page = omega arith in
    ap (λ b. if b then None else Some (fitting (2 ^ 16) (page + 1 - 1))) some
    ∙ ap (λ x. Some (fitting (2 ^ 16) x)) slot ∙ ap Some (fitting_is (2 ^ 16) page h)

closed_back : mailbox_parts (mailbox_row mailboxes.Closed) ≡ mailboxes.Closed
unfolding mailbox_parts mailbox_by
closed_back = refl

expecting_back : (tag from : ℕ) (words measure : List ℕ) → tag ≡ 1 + from → from < 8 → mailbox_by tag words measure ≡ mailboxes.Expecting from
unfolding mailbox_by
expecting_back tag from words measure e h = grind (arith, nat_tests)

full_back : (tag from : ℕ) (words measure a b : List ℕ) → tag ≡ 9 + from → from < 8 → words ≡ a → measure ≡ b → mailbox_by tag words measure ≡ mailboxes.Full from a b
unfolding mailbox_by
full_back tag from words measure a b e h f g = rw (f, g) (grind (arith, nat_tests))

mailbox_back : (m : Mailbox) → IsMailbox m → mailbox_parts (mailbox_row m) ≡ m
unfolding mailbox_parts
mailbox_back mailboxes.Closed h = closed_back
mailbox_back (mailboxes.Expecting from) h = expecting_back (1 + from) from _ _ refl h
mailbox_back (mailboxes.Full from words measure) h =
    full_back (9 + from) from _ _ words measure refl h.0
    (take_at words measure 4 h.1.many)
    (ap (take 4) (drop_at words measure 4 h.1.many) ∙ take_all 4 measure (omega (arith, h.2.many)))

length_mailbox : (m : Mailbox) → IsMailbox m → length (mailbox_row m) ≡ 9
length_mailbox mailboxes.Closed h = refl
length_mailbox (mailboxes.Expecting from) h = refl
length_mailbox (mailboxes.Full from words measure) h = grind (arith, length-append, h.1.many, h.2.many)

two_back : (mail : List Mailbox) → length mail ≡ 2 → AllByRecursion IsMailbox mail → mailbox_parts (take 9 (mail_rows mail)) ∷ mailbox_parts (take 9 (drop 9 (mail_rows mail))) ∷ [] ≡ mail
two_back [] two valid = absurd (omega arith)
two_back (a ∷ []) two valid = absurd (omega arith)
two_back (a ∷ b ∷ []) two valid =
    let long = length_mailbox a valid.0 in
    let first : mailbox_parts (take 9 (mail_rows (a ∷ b ∷ []))) ≡ a =
    ap mailbox_parts (take_at (mailbox_row a) (mail_rows (b ∷ [])) 9 long) ∙ mailbox_back a valid.0 in
    let second : mailbox_parts (take 9 (drop 9 (mail_rows (a ∷ b ∷ [])))) ≡ b =
    ap (λ x. mailbox_parts (take 9 x)) (drop_at (mailbox_row a) (mail_rows (b ∷ [])) 9 long)
    ∙ ap mailbox_parts (take_at (mailbox_row b) [] 9 (length_mailbox b valid.1.0)) ∙ mailbox_back b valid.1.0 in
    rw (first, second) refl
two_back (a ∷ b ∷ m ∷ ms) two valid = absurd (omega arith)

same_enclave : (e : Enclave) (stage : Stage) (root : Option ℕ) (next_page threads : ℕ) (measure : List ℕ) (mail : List Mailbox) → stage ≡ e.stage → root ≡ e.root → next_page ≡ e.next_page → threads ≡ e.threads → measure ≡ e.measure → mail ≡ e.mail → (let made : Enclave = record { stage = stage; base = e.base; size = e.size; regions = e.regions; root = root; next_page = next_page; threads = threads; measure = measure; mail = mail } in made ≡ e)
same_enclave e stage root next_page threads measure mail e1 e2 e3 e4 e5 e6 = rw (e1, e2, e3, e4, e5, e6) refl

parts_back : (e : Enclave) → IsEnclave e → enclave_parts (enclave_row e) ≡ e
unfolding enclave_parts
parts_back e h =
    let rest : drop 11 (enclave_row e) ≡ mail_rows e.mail = drop_at e.measure (mail_rows e.mail) 4 h.measure.many in
    same_enclave e _ _ _ _ _ _ (stage_back e.stage) (root_back e.root h.root)
    (fitting_is (2 ^ 16) e.next_page h.next_page) (fitting_is (2 ^ 8) e.threads h.threads)
    (take_at e.measure (mail_rows e.mail) 4 h.measure.many)
    (ap (λ x. mailbox_parts (take 9 x) ∷ mailbox_parts (take 9 (drop 20 (enclave_row e))) ∷ []) rest
    ∙ ap (λ x. mailbox_parts (take 9 (mail_rows e.mail)) ∷ mailbox_parts (take 9 x) ∷ []) (sym (drop-drop 9 11 (enclave_row e)) ∙ ap (drop 9) rest)
    ∙ two_back e.mail h.two h.mail)

pub enclave_back : (e : Enclave) → IsEnclave e → enclave_from (enclave_row e) ≡ e
unfolding enclave_from
enclave_back e h = row_back enclave_row enclave_parts e empty_enclave (parts_back e h)

-- ---- whatever the words are

pub root_valid : (word : ℕ) → IsRoot (root_from word)
unfolding root_from
root_valid word = by (word == 0)
  where
    by : (b : Bool) → IsRoot (if b then None else Some (fitting (2 ^ 16) (word - 1)))
    by true = tt
    by false = fitting_less (2 ^ 16) (word - 1) (omega arith)

mailbox_by-valid : (tag : ℕ) (words measure : List ℕ) → AreWords 4 words → AreWords 4 measure → IsMailbox (mailbox_by tag words measure)
unfolding mailbox_by
mailbox_by-valid tag words measure h k = by (tag == 0) (nat_lt tag 9) (nat_lt tag 17) (λ e f. grind (arith, nat_tests)) (λ e f. grind (arith, nat_tests))
  where
    by : (a b c : Bool) → (a ≡ false → b ≡ true → tag - 1 < 8) → (b ≡ false → c ≡ true → tag - 9 < 8) → IsMailbox (if a then mailboxes.Closed else if b then mailboxes.Expecting (tag - 1) else if c then mailboxes.Full (tag - 9) words measure else mailboxes.Closed)
    by true b c f g = tt
    by false true c f g = f refl refl
    by false false true f g = (g refl refl, h, k)
    by false false false f g = tt

pub mailbox_valid : (words : List ℕ) → AreWords 9 words → IsMailbox (mailbox_parts words)
unfolding mailbox_parts
mailbox_valid words h =
    mailbox_by-valid (get_or words 0 0) _ _ (part words 1 4 9 (omega arith) h) (part words 5 4 9 (omega arith) h)

pub enclave_parts-valid : (words : List ℕ) → AreWords 29 words → IsEnclave (enclave_parts words)
unfolding enclave_parts
enclave_parts-valid words h = record {
  base = all_at Fits words 1 (omega arith) h.fit;
  size = all_at Fits words 2 (omega arith) h.fit;
  regions = all_at Fits words 3 (omega arith) h.fit;
  root = root_valid (get_or words 4 0);
  next_page = fitting_less (2 ^ 16) (get_or words 5 0) (omega arith);
  threads = fitting_less (2 ^ 8) (get_or words 6 0) (omega arith);
  measure = part words 7 4 29 (omega arith) h;
  two = refl;
  mail = (mailbox_valid _ (part words 11 9 29 (omega arith) h), (mailbox_valid _ (part words 20 9 29 (omega arith) h), tt));
}

empty_valid : IsEnclave empty_enclave
empty_valid = record { base = omega arith; size = omega arith; regions = omega arith; root = tt; next_page = omega arith; threads = omega arith; measure = record { many = refl; fit = zeros_fit 4 }; two = refl; mail = (tt, (tt, tt)) }

pub enclave_valid : (words : List ℕ) → AreWords 29 words → IsEnclave (enclave_from words)
unfolding enclave_from
enclave_valid words h =
    kept_or_none IsEnclave _ (enclave_parts words) empty_enclave (enclave_parts-valid words h) empty_valid

-- parts whose row is the words are the record read
pub enclave_kept : (words : List ℕ) (x : Enclave) → x ≡ enclave_parts words → enclave_row x ≡ words → x ≡ enclave_from words
unfolding enclave_from
enclave_kept words x e row =
    e ∙ sym (kept_where_same enclave_row (enclave_parts words) empty_enclave words (ap enclave_row (sym e) ∙ row))

-- where their row is another, an empty slot is read
pub enclave_refused : (words : List ℕ) (x result : Enclave) → x ≡ enclave_parts words → enclave_row x ≢ words → result ≡ empty_enclave → result ≡ enclave_from words
unfolding enclave_from
enclave_refused words x result e other empty =
    empty ∙ sym (none_where_other enclave_row (enclave_parts words) empty_enclave words (λ row. other (ap enclave_row e ∙ row)))

-- a row gives back its record
pub enclave_unique : (words : List ℕ) (result x : Enclave) → result ≡ enclave_from words → IsEnclave x → enclave_row x ≡ words → result ≡ x
enclave_unique words result x e h row = e ∙ ap enclave_from (sym row) ∙ enclave_back x h

-- ---- how long rows are

length_mail : (mail : List Mailbox) → length mail ≡ 2 → AllByRecursion IsMailbox mail → length (mail_rows mail) ≡ 18
length_mail [] two valid = absurd (omega arith)
length_mail (a ∷ []) two valid = absurd (omega arith)
length_mail (a ∷ b ∷ []) two valid = grind (arith, length-append, length_mailbox a valid.0, length_mailbox b valid.1.0)
length_mail (a ∷ b ∷ m ∷ ms) two valid = absurd (omega arith)

pub enclave_long : (e : Enclave) → IsEnclave e → length (enclave_row e) ≡ 29
enclave_long e h = grind (arith, length-append, h.measure.many, length_mail e.mail h.two h.mail)

-- ---- records that name nothing past the machine's end

root_same : (m : Shape) (root : Option ℕ) → HasRootWithin m root → root_within m root ≡ root
unfolding root_within
root_same m None h = refl
root_same m (Some page) h = grind (arith, nat_tests)

pub within_same : (m : Shape) (e : Enclave) → e.regions < 2 ^ m.regions → HasRootWithin m e.root → enclave_within m e ≡ e
unfolding enclave_within
within_same m e h k =
    let bits : e.regions % 2 ^ m.regions ≡ e.regions = mod-eq_of_lt h in
    let root = root_same m e.root k in
    ap (λ b. record e { regions = b; root = root_within m e.root }) bits ∙ ap (λ r. record e { root = r }) root
