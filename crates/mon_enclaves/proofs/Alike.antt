-- The ptes that loaded items give decide as the items do.
use Rattle.std.proofs.Common.{◌≡◌, ℕ, ◌<◌, ◌≤◌, Bool, true, false, cond, not, ◌&&◌, ◌||◌, nat_eq, List, [], ◌∷◌, Option, Some, None, is_some, IfSome, refl, ap, ◌∙◌, arith}
use Rattle.std.specs.List.{find, list_any, AllByRecursion}
use Rattle.std.proofs.lemmas.Bool.Decides.{nat_tests}
use Rattle.mon_types.specs.Shape.{Shape, is_shape, page_total}
use Rattle.mon_types.specs.declared.region.Region.{Region}
use Rattle.mon_types.specs.declared.enclave.Enclave.{Enclave}
use Rattle.mon_types.specs.declared.enclave.Loaded.{Loaded}
use Rattle.mon_types.specs.declared.reply.Reply.TheVariants as replies
use Rattle.mon_model.specs.Loading.{StandInPages, is_there_for, is_table_1, is_table_0, is_leaf, has_table_1, has_table_0, has_place_for_table, has_place_for_leaf, takes_page, reserves_page}
use Rattle.mon_types.specs.Replies.{done_if}
use Rattle.mon_model.specs.EnclaveCalls.{is_os_owned, table_fits, leaf_fits, load_table_reply, load_page_reply, reserve_reply}
use Rattle.sv39_pte.specs.Tables.{leads_to_table}
use Rattle.sv39_pte.proofs.Fields.{leads-pointer_pte}
use Rattle.mon_enclaves.specs.ByWords.{leaf_path, table_path, words_fit, table_reply, page_reply, reserved_reply}
use Rattle.mon_enclaves.specs.FromItems.{table_1_for, table_0_for, leaf_for, pte_of_table, pte_of_leaf, below, table_1_words, table_0_words, table_words, leaf_words}
use Rattle.mon_types.specs.LimitLaws.{few_pages}

-- something is found exactly where a test passes
pub is_some-find : {X : Type 0} (p : X → Bool) (xs : List X) → is_some (find p xs) ≡ list_any p xs
is_some-find p [] = refl
is_some-find p (x ∷ xs) = by (p x) (is_some-find p xs)
  where
    by : (b : Bool) → is_some (find p xs) ≡ list_any p xs → is_some (cond b (Some x) (find p xs)) ≡ (b || list_any p xs)
    by true e = refl
    by false e = e

-- what is found has what each element has
pub IfSome-find : {X : Type 0} (P : X → Type 0) (p : X → Bool) (xs : List X) → AllByRecursion P xs → IfSome (find p xs) P
IfSome-find P p [] h = tt
IfSome-find P p (x ∷ xs) h = by (p x) (IfSome-find P p xs h.1)
  where
    by : (b : Bool) → IfSome (find p xs) P → IfSome (cond b (Some x) (find p xs)) P
    by true e = h.0
    by false e = e

-- the page of what is found
abbrev pub InPages : Shape → Option Loaded → Type 0
InPages shape o = IfSome o (λ item. item.page < page_total shape)

-- the pte of a table leads to one exactly where there is a table
pub leads-pte_of_table : (shape : Shape) (o : Option Loaded) → page_total shape ≤ 1024 → InPages shape o → leads_to_table shape (pte_of_table o) ≡ is_some o
leads-pte_of_table shape None few h = refl
leads-pte_of_table shape (Some item) few h = leads-pointer_pte shape item.page h few

is_zero-pte_of_table : (o : Option Loaded) → nat_eq (pte_of_table o) 0 ≡ not (is_some o)
is_zero-pte_of_table None = refl
is_zero-pte_of_table (Some item) = grind (arith, nat_tests)

is_zero-pte_of_leaf : (o : Option Loaded) (perms : ℕ) → nat_eq (pte_of_leaf o perms) 0 ≡ not (is_some o)
is_zero-pte_of_leaf None perms = refl
is_zero-pte_of_leaf (Some item) perms = grind (arith, nat_tests)

-- the words of a leaf's path fit where both tables are there and no leaf is
leaf_fit : (shape : Shape) (a b c : Option Loaded) (perms : ℕ) → page_total shape ≤ 1024 → InPages shape a → InPages shape b → words_fit shape leaf_path (pte_of_table a ∷ below a (pte_of_table b ∷ below b (pte_of_leaf c perms ∷ []))) ≡ (is_some a && is_some b && not (is_some c))
leaf_fit shape None b c perms few ina inb = leads-pte_of_table shape None few ina
leaf_fit shape (Some t) None c perms few ina inb = leads-pte_of_table shape None few inb
leaf_fit shape (Some t) (Some u) c perms few ina inb = is_zero-pte_of_leaf c perms

-- the same of a table of level 0
table_fit : (shape : Shape) (a b : Option Loaded) → page_total shape ≤ 1024 → InPages shape a → words_fit shape 2 (pte_of_table a ∷ below a (pte_of_table b ∷ [])) ≡ (is_some a && not (is_some b))
table_fit shape None b few ina = leads-pte_of_table shape None few ina
table_fit shape (Some t) b few ina = is_zero-pte_of_table b

-- the words that the items give fit where the items have a place
table_words-fit : (shape : Shape) (items : List Loaded) (va level : ℕ) → page_total shape ≤ 1024 → StandInPages shape items → words_fit shape (table_path level) (table_words items va level) ≡ (nat_eq level 2 || has_place_for_table items va level)
table_words-fit shape items va level few h = by (nat_eq level 2) (nat_eq level 1)
  where
    by : (two one : Bool) → words_fit shape (cond two 0 (cond one 1 2)) (cond two [] (cond one (table_1_words items va) (table_0_words items va))) ≡ (two || cond one (not (has_table_1 va items)) (has_table_1 va items && not (has_table_0 va items)))
    by true one = refl
    by false true = is_zero-pte_of_table (table_1_for va items) ∙ ap not (is_some-find _ items)
    by false false =
        table_fit shape (table_1_for va items) (table_0_for va items) few (IfSome-find _ _ items h)
        ∙ rw (is_some-find (λ item. is_table_1 item.kind && is_there_for va item) items, is_some-find (λ item. is_table_0 item.kind && is_there_for va item) items)

leaf_words-fit : (shape : Shape) (items : List Loaded) (va perms : ℕ) → page_total shape ≤ 1024 → StandInPages shape items → words_fit shape leaf_path (leaf_words items va perms) ≡ has_place_for_leaf items va
leaf_words-fit shape items va perms few h =
    leaf_fit shape (table_1_for va items) (table_0_for va items) (leaf_for va items) perms few (IfSome-find _ _ items h) (IfSome-find _ _ items h)
    ∙ rw (is_some-find (λ item. is_table_1 item.kind && is_there_for va item) items, is_some-find (λ item. is_table_0 item.kind && is_there_for va item) items, is_some-find (λ item. is_leaf item.kind && is_there_for va item) items)

-- the replies by all words that the items give are those by the items
pub table_reply-words : (shape : Shape) (enclave : Enclave) (items : List Loaded) (va level page : ℕ) → is_shape shape ≡ true → StandInPages shape items → table_reply shape enclave va level page (table_words items va level) ≡ load_table_reply shape enclave items va level page
table_reply-words shape enclave items va level page is h =
    ap (λ (b : Bool). done_if (takes_page shape enclave page && table_fits enclave va level && b)) (table_words-fit shape items va level (few_pages shape is) h)

pub page_reply-words : (shape : Shape) (enclave : Enclave) (items : List Loaded) (source : Region) (va perms page : ℕ) → is_shape shape ≡ true → StandInPages shape items → page_reply shape enclave va page source (leaf_words items va perms) ≡ load_page_reply shape enclave items source va page
page_reply-words shape enclave items source va perms page is h =
    ap (λ (b : Bool). cond (takes_page shape enclave page && leaf_fits enclave va) (cond (is_os_owned source) (done_if b) replies.AccessDenied) replies.InvalidState) (leaf_words-fit shape items va perms (few_pages shape is) h)

pub reserved_reply-words : (shape : Shape) (enclave : Enclave) (items : List Loaded) (va perms page : ℕ) → is_shape shape ≡ true → StandInPages shape items → reserved_reply shape enclave va page (leaf_words items va perms) ≡ reserve_reply shape enclave items va page
reserved_reply-words shape enclave items va perms page is h =
    ap (λ (b : Bool). done_if (reserves_page shape enclave page && leaf_fits enclave va && b)) (leaf_words-fit shape items va perms (few_pages shape is) h)
