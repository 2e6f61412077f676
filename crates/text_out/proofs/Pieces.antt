-- A text that is put piece by piece.
use Rattle.std.proofs.Common.{◌≡◌, ℕ, ◌+◌, ◌<◌, ◌≤◌, List, [], ◌++◌, length, take, drop, get_or, Option, Result, Ok, Err, IsErr, refl, sym, ap, subst, ◌∙◌, arith, append_assoc, append-nil}
use Rattle.std.proofs.lemmas.List.{length-append, take-append-le, drop_more, drop_all}
use Rattle.std.proofs.Math.Seq.{take-append-add}
use Rattle.std.proofs.KnownBytes.{Appends-nil, Appends-trans}
use Rattle.std.specs.Io.KnownBytes.{Appends}
use Rattle.sm_ports.specs.Contents.{AppendsPart}
use Rattle.std.specs.List.{flat_map}
use Rattle.text_out.specs.Written.{Writes}

pub part_then : (before mid after : Option (List ℕ)) (x y : List ℕ) → Appends before mid x → AppendsPart mid after y → AppendsPart before after (x ++ y)
part_then before mid after x y p q =
    (length x + q.0, omega (arith, length-append x y, q.1), subst (λ (t : List ℕ). Appends before after t) (sym (take-append-add x y q.0)) (Appends-trans before mid after x (take q.0 y) p q.2))

pub part_more : (before after : Option (List ℕ)) (x y : List ℕ) → AppendsPart before after x → AppendsPart before after (x ++ y)
part_more before after x y p =
    let le : p.0 ≤ length x = omega (arith, p.1) in
    (p.0, omega (arith, length-append x y, p.1), subst (λ (t : List ℕ). Appends before after t) (sym (take-append-le p.0 x y le)) p.2)

-- ---- one text after another

-- the first was put, and then the second, or a part of it
pub writes_then : {T E : Type 0} (before mid after : Option (List ℕ)) (r : Result T E) (x y : List ℕ) → Appends before mid x → Writes mid after r y → Writes before after r (x ++ y)
writes_then before mid after (Ok v) x y first next = record { ok = Appends-trans before mid after x y first next.ok; err = tt }
writes_then before mid after (Err e) x y first next = record { ok = tt; err = part_then before mid after x y first next.err }

failed : {T E : Type 0} (before after : Option (List ℕ)) (r : Result T E) (text : List ℕ) → IsErr r → AppendsPart before after text → Writes before after r text
failed before after (Ok v) text e p = cc
failed before after (Err x) text e p = record { ok = tt; err = p }

-- a function stopped within the first
pub stopped : {T E : Type 0} (before after : Option (List ℕ)) (r : Result T E) (x y : List ℕ) → IsErr r → AppendsPart before after x → Writes before after r (x ++ y)
stopped before after r x y e p = failed before after r (x ++ y) e (part_more before after x y p)

-- a function stopped within the first of three, or within the second
pub stopped_first : {T E : Type 0} (before after : Option (List ℕ)) (r : Result T E) (x y z : List ℕ) → IsErr r → AppendsPart before after x → Writes before after r (x ++ y ++ z)
stopped_first before after r x y z e p = stopped before after r (x ++ y) z e (part_more before after x y p)

pub stopped_second : {T E : Type 0} (before mid after : Option (List ℕ)) (r : Result T E) (x y z : List ℕ) → IsErr r → Appends before mid x → AppendsPart mid after y → Writes before after r (x ++ y ++ z)
stopped_second before mid after r x y z e first p = stopped before after r (x ++ y) z e (part_then before mid after x y first p)

-- two were put, and then the third, or a part of it
pub writes_third : {T E : Type 0} (before one two after : Option (List ℕ)) (r : Result T E) (x y z : List ℕ) → Appends before one x → Appends one two y → Writes two after r z → Writes before after r (x ++ y ++ z)
writes_third before one two after r x y z first second next = writes_then before two after r (x ++ y) z (Appends-trans before one two x y first second) next

-- the same text, said in another way
pub writes_as : {T E : Type 0} (before after : Option (List ℕ)) (r : Result T E) (text same : List ℕ) → text ≡ same → Writes before after r text → Writes before after r same
writes_as before after r text same e w = subst (λ (t : List ℕ). Writes before after r t) e w

-- ---- a text in a loop

-- a prefix of the whole text was put, in the sense of Put, and the rest is still to come
pub record Begun (Put : List ℕ → Type 0) (rest whole : List ℕ) : Type 0 where
  pub prefix : List ℕ
  pub put : Put prefix
  pub joined : prefix ++ rest ≡ whole

pub begun_by : (Put : List ℕ → Type 0) (whole : List ℕ) → Put [] → Begun Put whole whole
begun_by Put whole none = record { prefix = []; put = none; joined = refl }

joined_after : (prefix all piece rest whole : List ℕ) → all ≡ piece ++ rest → prefix ++ all ≡ whole → (prefix ++ piece) ++ rest ≡ whole
joined_after prefix all piece rest whole e joined = append_assoc prefix piece rest ∙ ap (λ (t : List ℕ). prefix ++ t) (sym e) ∙ joined

-- one piece more was put
pub goes_on_by : (Put Next : List ℕ → Type 0) (all piece rest whole : List ℕ) → all ≡ piece ++ rest → Begun Put all whole → ((prefix : List ℕ) → Put prefix → Next (prefix ++ piece)) → Begun Next rest whole
goes_on_by Put Next all piece rest whole e b more = record {
  prefix = b.prefix ++ piece;
  put = more b.prefix b.put;
  joined = joined_after b.prefix all piece rest whole e b.joined;
}

-- nothing is still to come
pub ended_by : (Put : List ℕ → Type 0) (rest whole : List ℕ) → rest ≡ [] → Begun Put rest whole → Put whole
ended_by Put rest whole e b = subst Put (sym (append-nil b.prefix) ∙ ap (λ (t : List ℕ). b.prefix ++ t) (sym e) ∙ b.joined) b.put

-- the same of what a sink has taken
pub begun : (before : Option (List ℕ)) (whole : List ℕ) → Begun (Appends before before) whole whole
begun before whole = begun_by (Appends before before) whole (Appends-nil before)

pub goes_on : (before mid now : Option (List ℕ)) (all piece rest whole : List ℕ) → all ≡ piece ++ rest → Begun (Appends before mid) all whole → Appends mid now piece → Begun (Appends before now) rest whole
goes_on before mid now all piece rest whole e b p = goes_on_by (Appends before mid) (Appends before now) all piece rest whole e b (λ prefix put. Appends-trans before mid now prefix piece put p)

-- a part of one piece more was put
pub cut_off : {T E : Type 0} (before mid now : Option (List ℕ)) (r : Result T E) (all piece rest whole : List ℕ) → all ≡ piece ++ rest → Begun (Appends before mid) all whole → IsErr r → AppendsPart mid now piece → Writes before now r whole
cut_off before mid now r all piece rest whole e b err p =
    failed before now r whole err (subst (λ (t : List ℕ). AppendsPart before now t) (joined_after b.prefix all piece rest whole e b.joined) (part_more before now (b.prefix ++ piece) rest (part_then before mid now b.prefix piece b.put p)))

pub ended : (before now : Option (List ℕ)) (rest whole : List ℕ) → rest ≡ [] → Begun (Appends before now) rest whole → Appends before now whole
ended before now rest whole e b = ended_by (Appends before now) rest whole e b

-- ---- the texts of a list's items

pub items_next : {X : Type 0} (text : X → List ℕ) (xs : List X) (i : ℕ) (d : X) → i < length xs → flat_map text (drop i xs) ≡ text (get_or xs i d) ++ flat_map text (drop (i + 1) xs)
items_next text xs i d lt = ap (flat_map text) (drop_more xs i d lt)

pub item_next : {X : Type 0} (text : X → List ℕ) (xs : List X) (i : ℕ) (x : X) → i < length xs → x ≡ get_or xs i x → flat_map text (drop i xs) ≡ text x ++ flat_map text (drop (i + 1) xs)
item_next text xs i x lt e = items_next text xs i x lt ∙ ap (λ y. text y ++ flat_map text (drop (i + 1) xs)) (sym e)

pub items_all : {X : Type 0} (text : X → List ℕ) (xs : List X) (i : ℕ) → length xs ≤ i → flat_map text (drop i xs) ≡ []
items_all text xs i le = ap (flat_map text) (drop_all i xs le)
