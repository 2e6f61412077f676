-- What each generated line is about.
use Rattle.std.proofs.Common.{◌≡◌, ℕ, zero, suc, ◌+◌, Bool, true, false, if◌then◌else◌, map, length, refl, arith}
use Rattle.std.specs.Prelude.{◌==◌}
use Rattle.std.specs.List.{AllByRecursion, range_with_len}
use Rattle.mon_types.specs.declared.script.Line.{Line}
use Rattle.workload.specs.Workload.{first_state, next_state, kind_of, region_of, line_of, lines_from, lines_of_core, lines_of_cores}
use Rattle.workload.specs.Generated.{IsTarget, IsGenerated}
use Rattle.workload.proofs.Listing.{lines_from-length}

-- of two such lines either is one
either : (b : Bool) (x y : Line) → IsGenerated x → IsGenerated y → IsGenerated (if b then x else y)
either true x y first other = first
either false x y first other = other

-- the line of each kind about such a region
pub line_is_generated : (kind r : ℕ) → IsTarget r → IsGenerated (line_of kind r)
unfolding line_of
line_is_generated kind r target =
    either (kind == 0) _ _ target (
    either (kind == 1) _ _ target (
    either (kind == 2) _ _ target (
    either (kind == 3) _ _ target (
    either (kind == 4) _ _ (target, refl) (
    either (kind == 5) _ _ tt (
    either (kind == 6) _ _ target (omega arith, omega arith)
    )
    )
    )
    )
    )
    )

-- the region of a state is such a one
pub region_is_target : (x : ℕ) → IsTarget (region_of x)
region_is_target x = (omega arith, omega arith)

-- so each line of a core is one
pub lines_are_generated : (count x : ℕ) → AllByRecursion IsGenerated (lines_from count x)
unfolding lines_from
lines_are_generated zero x = tt
lines_are_generated (suc count) x =
    (line_is_generated (kind_of (next_state x)) (region_of (next_state x)) (region_is_target (next_state x)), lines_are_generated count (next_state x))

-- what holds at each number holds of each item that is made of one
pub all_made : {X : Type 0} (P : X → Type 0) (f : ℕ → X) → ((k : ℕ) → P (f k)) → (first count : ℕ) → AllByRecursion P (map f (range_with_len first count))
all_made P f each first zero = tt
all_made P f each first (suc count) = (each first, all_made P f each (first + 1) count)

-- each core has its 1,000 lines
pub all_have_lines : (n cores : ℕ) → AllByRecursion (λ lines. length lines ≡ 1000) (lines_of_cores n cores)
all_have_lines n cores =
    all_made (λ lines. length lines ≡ 1000) (λ core. lines_of_core n core) (λ core. lines_from-length 1000 (first_state n core)) 0 cores

-- each of which is such a line
pub all_are_generated : (n cores : ℕ) → AllByRecursion (AllByRecursion IsGenerated) (lines_of_cores n cores)
all_are_generated n cores =
    all_made (AllByRecursion IsGenerated) (λ core. lines_of_core n core) (λ core. lines_are_generated 1000 (first_state n core)) 0 cores
