-- A core's entries in the history of legal logs are those of its log.
use Rattle.std.proofs.Common.{◌≡◌, ℕ, suc, zero, ◌+◌, ◌<◌, ◌≤◌, true, false, ◌==◌, if◌then◌else◌, ltb, List, [], ◌∷◌, ◌++◌, length, get_or, map, refl, sym, ap, subst, ◌∙◌, arith, append-nil}
use Rattle.std.specs.List.{AllByRecursion}
use Rattle.std.proofs.lemmas.List.{length-map}
use Rattle.std.proofs.lemmas.List.Elements.{filter-append}
use Rattle.std.proofs.lemmas.Bool.{ltb-true, ltb-false, eq-eqb, ne_eqb}
use Rattle.mon_types.specs.Shape.{Shape}
use Rattle.hist.specs.declared.event.Entry.{Entry}
use Rattle.hist.specs.declared.event.Event.{Event}
use Rattle.hist.specs.History.{entries_of, log_of, placed, in_ticket_order, history}
use Rattle.hist.specs.Legal.{AreOwn, Legal}
use Rattle.hist.specs.Busy.{own}
use Rattle.hist.proofs.Ordered.{all_weaker, AreAbove, placed_first, joined, joined_map}
use Rattle.hist.proofs.Ascending.{all_placed}
use Rattle.hist.proofs.Lawful.{own_above, own_core}
use Rattle.hist.proofs.Owns.{own_all}

-- ---- a list in ticket order

abbrev Rises : List Entry → Type 0
Rises [] = Unit {0}
Rises (e ∷ es) = AllByRecursion (λ x. e.ticket ≤ x.ticket) es × Rises es

placed_rises : (e : Entry) (es : List Entry) → Rises es → Rises (placed e es)
placed_rises e [] rises = (tt, tt)
placed_rises e (x ∷ es) rises =
    (elim (ltb e.ticket x.ticket) as (λ b. ltb e.ticket x.ticket ≡ b → Rises (if b then e ∷ x ∷ es else x ∷ placed e es)) [
      | true ↦ λ is.
          let lt : e.ticket < x.ticket = ltb-true e.ticket x.ticket is in
          ((omega arith, all_weaker (λ y. x.ticket ≤ y.ticket) (λ y. e.ticket ≤ y.ticket) (λ y le. omega arith) es rises.0), rises)
      | false ↦ λ is. (all_placed (λ y. x.ticket ≤ y.ticket) e es (ltb-false e.ticket x.ticket is) rises.0, placed_rises e es rises.1)
    ])
    refl

order_rises : (es : List Entry) → Rises (in_ticket_order es)
order_rises [] = tt
order_rises (e ∷ es) = placed_rises e (in_ticket_order es) (order_rises es)

-- ---- a core's entries among them

own_placed : (core : ℕ) (e : Entry) (es : List Entry) → Rises es → own core (placed e es) ≡ (if e.core == core then placed e (own core es) else own core es)
own_placed core e [] rises = refl
own_placed core e (x ∷ es) rises =
    (elim (ltb e.ticket x.ticket) as (λ b. ltb e.ticket x.ticket ≡ b → own core (if b then e ∷ x ∷ es else x ∷ placed e es) ≡ (if e.core == core then placed e (own core (x ∷ es)) else own core (x ∷ es))) [
      | true ↦ λ is.
          let lt : e.ticket < x.ticket = ltb-true e.ticket x.ticket is in
          let over : AreAbove e.ticket (own core (x ∷ es)) = own_all (λ y. e.ticket < y.ticket) core (x ∷ es) (lt, all_weaker (λ y. x.ticket ≤ y.ticket) (λ y. e.ticket < y.ticket) (λ y le. omega arith) es rises.0) in
          ap (λ (ys : List Entry). if e.core == core then ys else own core (x ∷ es)) (sym (placed_first e (own core (x ∷ es)) over))
      | false ↦ λ is.
          ap (λ (ys : List Entry). if x.core == core then x ∷ ys else ys) (own_placed core e es rises.1)
          ∙ (elim (e.core == core) as (λ c. (if x.core == core then x ∷ (if c then placed e (own core es) else own core es) else if c then placed e (own core es) else own core es) ≡ (if c then placed e (own core (x ∷ es)) else own core (x ∷ es))) [
            | true ↦ elim (x.core == core) as (λ d. (if d then x ∷ placed e (own core es) else placed e (own core es)) ≡ placed e (if d then x ∷ own core es else own core es)) [
              | true ↦ ap (λ b. if b then e ∷ x ∷ own core es else x ∷ placed e (own core es)) (sym is)
              | false ↦ refl
            ]
            | false ↦ refl
          ])
    ])
    refl

pub own_order : (core : ℕ) (es : List Entry) → own core (in_ticket_order es) ≡ in_ticket_order (own core es)
own_order core [] = refl
own_order core (e ∷ es) =
    own_placed core e (in_ticket_order es) (order_rises es)
    ∙ (elim (e.core == core) as (λ b. (if b then placed e (own core (in_ticket_order es)) else own core (in_ticket_order es)) ≡ in_ticket_order (if b then e ∷ own core es else own core es)) [
      | true ↦ ap (placed e) (own_order core es)
      | false ↦ own_order core es
    ])

own_whole : (core : ℕ) (es : List Entry) → AllByRecursion (λ e. e.core ≡ core) es → own core es ≡ es
own_whole core [] all = refl
own_whole core (e ∷ es) all = ap (λ b. if b then e ∷ own core es else own core es) (eq-eqb e.core core all.0) ∙ ap (λ (xs : List Entry). e ∷ xs) (own_whole core es all.1)

own_none : (core c : ℕ) (es : List Entry) → (c ≡ core → ⊥) → AllByRecursion (λ e. e.core ≡ c) es → own core es ≡ []
own_none core c [] ne all = refl
own_none core c (e ∷ es) ne all =
    ap (λ b. if b then e ∷ own core es else own core es) (ne_eqb e.core core (λ is. ne (sym all.0 ∙ is))) ∙ own_none core c es ne all.1

-- list i has entries of core base + i alone
abbrev AreOf : ℕ → List (List Entry) → Type 0
AreOf base lists = (i : ℕ) → i < length lists → AllByRecursion (λ e. e.core ≡ base + i) (get_or lists i [])

rest_of : (base : ℕ) (es : List Entry) (lists : List (List Entry)) → AreOf base (es ∷ lists) → AreOf (base + 1) lists
rest_of base es lists all i lt = subst (λ (c : ℕ). AllByRecursion (λ e. e.core ≡ c) (get_or lists i [])) {x = base + suc i} {y = base + 1 + i} (omega arith) (all (suc i) (omega arith))

first_of_all : (base : ℕ) (es : List Entry) (lists : List (List Entry)) → AreOf base (es ∷ lists) → AllByRecursion (λ e. e.core ≡ base) es
first_of_all base es lists all = subst (λ (c : ℕ). AllByRecursion (λ e. e.core ≡ c) es) {x = base + 0} {y = base} (omega arith) (all 0 (omega arith))

own_past : (core base : ℕ) (lists : List (List Entry)) → core < base → AreOf base lists → own core (joined lists) ≡ []
own_past core base [] lt all = refl
own_past core base (es ∷ lists) lt all =
    filter-append (λ (e : Entry). e.core == core) es (joined lists)
    ∙ ap (λ (xs : List Entry). xs ++ own core (joined lists)) (own_none core base es (λ is. absurd (omega arith)) (first_of_all base es lists all))
    ∙ own_past core (base + 1) lists (omega arith) (rest_of base es lists all)

own_joined : (base i : ℕ) (lists : List (List Entry)) → i < length lists → AreOf base lists → own (base + i) (joined lists) ≡ get_or lists i []
own_joined base i [] lt all = absurd (omega arith)
own_joined base zero (es ∷ lists) lt all =
    let here : AllByRecursion (λ e. e.core ≡ base + 0) es = all 0 (omega arith) in
    filter-append (λ (e : Entry). e.core == base + 0) es (joined lists)
    ∙ ap (λ (xs : List Entry). xs ++ own (base + 0) (joined lists)) (own_whole (base + 0) es here)
    ∙ ap (λ (xs : List Entry). es ++ xs) (own_past (base + 0) (base + 1) lists (omega arith) (rest_of base es lists all))
    ∙ append-nil es
own_joined base (suc i) (es ∷ lists) lt all =
    filter-append (λ (e : Entry). e.core == base + suc i) es (joined lists)
    ∙ ap (λ (xs : List Entry). xs ++ own (base + suc i) (joined lists)) (own_none (base + suc i) base es (λ is. absurd (omega arith)) (first_of_all base es lists all))
    ∙ ap (λ (c : ℕ). own c (joined lists)) {x = base + suc i} {y = base + 1 + i} (omega arith)
    ∙ own_joined (base + 1) i lists (omega arith) (rest_of base es lists all)

-- ---- one core's entries ascend

own_in_order : (core serial before : ℕ) (es : List Entry) → AreOwn core serial before es → in_ticket_order es ≡ es
own_in_order core serial before [] mine = refl
own_in_order core serial before (e ∷ es) mine = ap (placed e) (own_in_order core (serial + 1) e.ticket es mine.1) ∙ placed_first e es (own_above core (serial + 1) e.ticket es mine.1)

-- a core's entries in the history are those of its log
pub own_history : (lists : List (List Entry)) → ((i : ℕ) → i < length lists → AreOwn i 0 0 (get_or lists i [])) → (core : ℕ) → core < length lists → own core (in_ticket_order (joined lists)) ≡ get_or lists core []
own_history lists mine core lt =
    let of : AreOf 0 lists = λ i below. subst (λ (c : ℕ). AllByRecursion (λ e. e.core ≡ c) (get_or lists i [])) {x = i} {y = 0 + i} (omega arith) (own_core i 0 0 (get_or lists i []) (mine i below)) in
    own_order core (joined lists)
    ∙ ap in_ticket_order (ap (λ (c : ℕ). own c (joined lists)) {x = core} {y = 0 + core} (omega arith) ∙ own_joined 0 core lists lt of)
    ∙ own_in_order core 0 0 (get_or lists core []) (mine core lt)

-- ---- legal logs

get_map : (logs : List (List Event)) (i : ℕ) → get_or (map entries_of logs) i [] ≡ entries_of (get_or logs i [])
get_map [] i = refl
get_map (log ∷ logs) zero = refl
get_map (log ∷ logs) (suc i) = get_map logs i

pub own_of_log : (shape : Shape) (logs : List (List Event)) → Legal shape logs → (core : ℕ) → core < length logs → own core (history logs) ≡ entries_of (log_of logs core)
own_of_log shape logs legal core lt =
    let same : length (map entries_of logs) ≡ length logs = length-map logs entries_of in
    ap (λ (es : List Entry). own core (in_ticket_order es)) (joined_map entries_of logs)
    ∙ own_history (map entries_of logs) (λ i below. subst (AreOwn i 0 0) (sym (get_map logs i)) (legal.own i (omega (arith, same)))) core (omega (arith, same))
    ∙ get_map logs core
