-- Files that are told, and the files that a command names.
use Rattle.std.proofs.Common.{ℕ, ◌≤◌, List, [], ◌∷◌, ◌++◌, Option, Some, None, refl, arith}
use Rattle.std.specs.Prelude.{IfSome, IsSome, All, Any}
use Rattle.sm_ports.specs.Causes.{Rose}
use Rattle.sanctum.specs.Commands.{Origin, Plain, File, named_by, IsNamed}
use Rattle.sanctum.specs.Sources.{Files}

-- what holds of a file's name holds of one of the names
pub one_of : (P : List ℕ → Type 0) (name : List ℕ) → P name → Any P (name ∷ [])
one_of P name p = (0, name, omega arith, refl, p)

pub first_of_two : (P : List ℕ → Type 0) (first second : List ℕ) → P first → Any P (first ∷ second ∷ [])
first_of_two P first second p = (0, first, omega arith, refl, p)

pub second_of_two : (P : List ℕ → Type 0) (first second : List ℕ) → P second → Any P (first ∷ second ∷ [])
second_of_two P first second p = (1, second, omega arith, refl, p)

-- the same of the file of an image
pub named_one : (P : List ℕ → Type 0) (origin : Origin) → IsNamed P origin → Any P (named_by origin)
named_one P Plain h = absurd h
named_one P (File name) h = one_of P name h

pub named_first : (P : List ℕ → Type 0) (origin : Origin) (script : List ℕ) → IsNamed P origin → Any P (named_by origin ++ script ∷ [])
named_first P Plain script h = absurd h
named_first P (File name) script h = first_of_two P name script h

pub named_last : (P : List ℕ → Type 0) (origin : Origin) (script : List ℕ) → P script → Any P (named_by origin ++ script ∷ [])
named_last P Plain script h = one_of P script h
named_last P (File name) script h = second_of_two P name script h

-- a file that is the only one is told where each is, and so are two
pub only_told : (files : Files) (name : List ℕ) → All (λ n. IsSome (files n)) (name ∷ []) → IsSome (files name)
only_told files name told = told 0 [] (omega arith)

pub first_told : (files : Files) (first second : List ℕ) → All (λ n. IsSome (files n)) (first ∷ second ∷ []) → IsSome (files first)
first_told files first second told = told 0 [] (omega arith)

pub second_told : (files : Files) (first second : List ℕ) → All (λ n. IsSome (files n)) (first ∷ second ∷ []) → IsSome (files second)
second_told files first second told = told 1 [] (omega arith)

-- of bytes that are told, two things can be said only where both can be true
pub refuted : (told : Option (List ℕ)) (P Q : List ℕ → Type 0) → IsSome told → IfSome told P → IfSome told Q → ((bytes : List ℕ) → P bytes → Q bytes → ⊥) → ⊥
refuted None P Q some p q never = absurd cc
refuted (Some bytes) P Q some p q never = never bytes p q

-- a count that rose later rose from before on
pub rose_from : (before between after : ℕ) → before ≤ between → Rose between after → Rose before after
rose_from before between after le rose = omega (arith, le, rose)
