-- A core's entries among those of all cores.
use Rattle.std.proofs.Common.{◌≡◌, ℕ, true, false, ◌==◌, if◌then◌else◌, List, [], ◌∷◌, ◌++◌, ap, ◌∙◌, append-nil}
use Rattle.std.specs.List.{AllByRecursion}
use Rattle.std.proofs.lemmas.List.Elements.{filter-append}
use Rattle.std.proofs.lemmas.Bool.{eq-eqb, ne_eqb}
use Rattle.hist.specs.declared.event.Entry.{Entry}
use Rattle.hist.specs.Busy.{own}

-- a core's entries among some are so where all are
pub own_all : (P : Entry → Type 0) (core : ℕ) (es : List Entry) → AllByRecursion P es → AllByRecursion P (own core es)
own_all P core [] all = tt
own_all P core (e ∷ es) all =
    elim (e.core == core) as
    (λ b. AllByRecursion P (if b then e ∷ own core es else own core es)) [
      | true ↦
          (all.0, own_all P core es all.1)
      | false ↦ own_all P core es all.1
    ]

-- a core's entries in a history with one more
pub own_more : (core : ℕ) (h : List Entry) (e : Entry)
    → own core (h ++ e ∷ []) ≡ own core h ++ (if e.core == core then e ∷ [] else [])
own_more core h e = filter-append (λ (x : Entry). x.core == core) h (e ∷ [])

pub own_here : (core : ℕ) (h : List Entry) (e : Entry) → e.core ≡ core → own core (h ++ e ∷ []) ≡ own core h ++ e ∷ []
own_here core h e is = own_more core h e ∙ ap (λ b. own core h ++ (if b then e ∷ [] else [])) (eq-eqb e.core core is)

pub own_there : (core : ℕ) (h : List Entry) (e : Entry) → (e.core ≡ core → ⊥) → own core (h ++ e ∷ []) ≡ own core h
own_there core h e ne = own_more core h e ∙ ap (λ b. own core h ++ (if b then e ∷ [] else [])) (ne_eqb e.core core ne)
    ∙ append-nil (own core h)
