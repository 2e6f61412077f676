-- The records of enclave slots, and the rows of words that hold them, all this project's own.
use Rattle.std.specs.Prelude.{◌≡◌, ℕ, ◌+◌, ◌-◌, ◌%◌, ◌^◌, ◌<◌, ⊤, ◌==◌, nat_lt, if◌then◌else◌, List, [], ◌∷◌, ◌++◌, length, replicate, take, drop, slice_index, Option, Some, None}
use Rattle.std.specs.List.{AllByRecursion}
use Rattle.mon_types.specs.declared.enclave.Stage.{Stage}
use Rattle.mon_types.specs.declared.enclave.Stage.TheVariants as stages
use Rattle.mon_types.specs.declared.enclave.Mailbox.{Mailbox}
use Rattle.mon_types.specs.declared.enclave.Mailbox.TheVariants as mailboxes
use Rattle.mon_types.specs.declared.enclave.Enclave.{Enclave}
use Rattle.mon_types.specs.Words.{AreWords, fitting, same_words}
use Rattle.mon_types.specs.Shape.{Shape, page_total}

-- the record of a slot that holds no enclave: all numbers 0, no root, closed mailboxes
abbrev pub empty_enclave : Enclave
empty_enclave = record {
  stage = stages.Empty;
  base = 0;
  size = 0;
  regions = 0;
  root = None;
  next_page = 0;
  threads = 0;
  measure = replicate 4 0;
  mail = mailboxes.Closed ∷ mailboxes.Closed ∷ [];
}

-- the sender's slot, if there is one, is below 8
abbrev pub MailboxNamesSlot : Mailbox → Type 0
MailboxNamesSlot mailboxes.Closed = ⊤
MailboxNamesSlot (mailboxes.Expecting from) = from < 8
MailboxNamesSlot (mailboxes.Full from words measure) = from < 8

-- each sender's slot in the record is below 8
abbrev pub EnclaveNamesSlots : Enclave → Type 0
EnclaveNamesSlots e = AllByRecursion MailboxNamesSlot e.mail

-- a mailbox: a sender's slot below 8, and four words of message and of measurement
abbrev pub IsMailbox : Mailbox → Type 0
IsMailbox mailboxes.Closed = ⊤
IsMailbox (mailboxes.Expecting from) = from < 8
IsMailbox (mailboxes.Full from words measure) = (from < 8) × AreWords 4 words × AreWords 4 measure

-- no root, or the number of a page
abbrev pub IsRoot : Option ℕ → Type 0
IsRoot None = ⊤
IsRoot (Some page) = page < 2 ^ 16

-- a record of an enclave slot: numbers in the ranges of their types, and two mailboxes
pub record IsEnclave (e : Enclave) : Type 0 where
  pub base : e.base < 2 ^ 64
  pub size : e.size < 2 ^ 64
  pub regions : e.regions < 2 ^ 64
  pub root : IsRoot e.root
  pub next_page : e.next_page < 2 ^ 16
  pub threads : e.threads < 2 ^ 8
  pub measure : AreWords 4 e.measure
  pub two : length e.mail ≡ 2
  pub mail : AllByRecursion IsMailbox e.mail

-- 0 Empty, 1 Loading, 2 Initialized
abbrev pub stage_code : Stage → ℕ
stage_code stages.Empty = 0
stage_code stages.Loading = 1
stage_code stages.Initialized = 2

-- 0 for no root, else one more than its page
abbrev pub root_code : Option ℕ → ℕ
root_code None = 0
root_code (Some page) = page + 1

-- nine words: 0 Closed, 1 + from Expecting, 9 + from Full; four words of message; four of measurement
abbrev pub mailbox_row : Mailbox → List ℕ
mailbox_row mailboxes.Closed = 0 ∷ replicate 8 0
mailbox_row (mailboxes.Expecting from) = (1 + from) ∷ replicate 8 0
mailbox_row (mailboxes.Full from words measure) = (9 + from) ∷ (words ++ measure)

-- the rows of mailboxes, one after the other
abbrev pub mail_rows : List Mailbox → List ℕ
mail_rows [] = []
mail_rows (m ∷ ms) = mailbox_row m ++ mail_rows ms

-- seven words: stage, base, size, region set, root, next page, thread count
abbrev pub numbers_row : Enclave → List ℕ
numbers_row e =
    stage_code e.stage ∷ e.base ∷ e.size ∷ e.regions ∷ root_code e.root ∷ e.next_page ∷ e.threads ∷ []

-- the 29 words of a slot: seven numbers, four words of measurement, and two mailboxes
abbrev pub enclave_row : Enclave → List ℕ
enclave_row e = numbers_row e ++ e.measure ++ mail_rows e.mail

-- the stage that a word names: 1 Loading, 2 Initialized, and Empty for any other word
unfoldable pub stage_from : ℕ → Stage
stage_from word = if word == 1 then stages.Loading else if word == 2 then stages.Initialized else stages.Empty

-- no root for 0, else the page one below
unfoldable pub root_from : ℕ → Option ℕ
root_from word = if word == 0 then None else Some (fitting (2 ^ 16) (word - 1))

-- the mailbox of a tag, with these words where it has a message: 1 to 8 Expecting, 9 to 16 Full, and Closed for
-- any other tag
unfoldable pub mailbox_by : ℕ → List ℕ → List ℕ → Mailbox
mailbox_by tag words measure =
    if tag == 0 then mailboxes.Closed else
    if nat_lt tag 9 then mailboxes.Expecting (tag - 1) else
    if nat_lt tag 17 then mailboxes.Full (tag - 9) words measure else
    mailboxes.Closed

-- the parts of nine words, each read as what stands there in a mailbox's row
unfoldable pub mailbox_parts : List ℕ → Mailbox
mailbox_parts words = mailbox_by (slice_index words 0) (take 4 (drop 1 words)) (take 4 (drop 5 words))

-- the parts of 29 words, each read as what stands there in a row
unfoldable pub enclave_parts : List ℕ → Enclave
enclave_parts words = record {
  stage = stage_from (slice_index words 0);
  base = slice_index words 1;
  size = slice_index words 2;
  regions = slice_index words 3;
  root = root_from (slice_index words 4);
  next_page = fitting (2 ^ 16) (slice_index words 5);
  threads = fitting (2 ^ 8) (slice_index words 6);
  measure = take 4 (drop 7 words);
  mail = mailbox_parts (take 9 (drop 11 words)) ∷ mailbox_parts (take 9 (drop 20 words)) ∷ [];
}

-- the record whose row these words are; an empty slot where they are no enclave's row
unfoldable pub enclave_from : List ℕ → Enclave
enclave_from words = if same_words (enclave_row (enclave_parts words)) words then enclave_parts words else empty_enclave

-- the root, if it is a page of this machine
unfoldable pub root_within : Shape → Option ℕ → Option ℕ
root_within m None = None
root_within m (Some page) = if nat_lt page (page_total m) then Some page else None

-- the record without what is past the machine's end: the bits of the region set from its last region on, and a root
-- that is no page of it
unfoldable pub enclave_within : Shape → Enclave → Enclave
enclave_within m e = record e { regions = e.regions % 2 ^ m.regions; root = root_within m e.root }
