-- What a core does at each line is permitted, and so all that it does by its lines.
use Rattle.std.proofs.Common.{◌≡◌, ◌+◌, ℕ, true, List, [], ◌∷◌, arith}
use Rattle.std.specs.List.{AllByRecursion}
use Rattle.mon_types.specs.Shape.{Shape, is_shape}
use Rattle.mon_types.specs.declared.script.Line.{Line}
use Rattle.mon_types.specs.declared.script.Line.TheVariants as lines
use Rattle.core_context.specs.declared.origin.Origin.TheVariants as origins
use Rattle.core_access.specs.Causes.{is_aligned}
use Rattle.protocol.specs.Views.{Moves}
use Rattle.core_behaviour.specs.Core.{Core, mode_now}
use Rattle.core_behaviour.specs.Exits.{retried}
use Rattle.core_behaviour.specs.Lines.{Lined, lined, lines_from}
use Rattle.core_laws.specs.Given.{IsWide}
use Rattle.core_laws.proofs.Permits.{IsPermitted, Agrees, Follow, fewer}
use Rattle.core_laws.proofs.Contexts.{pc_fits, reg_fits}
use Rattle.core_laws.proofs.Moving.{all_called}
use Rattle.core_laws.proofs.Exits.{all_budgeted, all_retried, all_ticks, with_fits}
use Rattle.core_laws.proofs.GuestTurns.{all_turns, all_word_loaded, all_word_stored}

module _ (shape : Shape) (is : is_shape shape ≡ true) (core : ℕ) where
  all_lined : (n : ℕ) (line : Line) (next : Lined) (ms : Moves) (c : Core) → IsWide line → Agrees shape core 1 ms c → Follow shape core 0 next → IsPermitted shape core ms (lined shape n line next c)
  all_lined n (lines.Make call) next ms c wide a follow = all_called shape is core origins.Line tt call wide 0 ms c a next follow
  all_lined n (lines.Run count) next ms c wide a follow = all_turns shape is core n count next follow ms c (fewer shape core 1 0 ms c (omega arith) a)
  all_lined n lines.Tick next ms c wide a follow = all_ticks shape is core (mode_now c) 0 ms c next a follow
  all_lined n (lines.LoadWord va) next ms c wide a follow = all_word_loaded shape is core n va wide next follow (is_aligned va 8) ms c a
  all_lined n (lines.StoreWord va value) next ms c wide a follow = all_word_stored shape is core n va wide.0 next follow (is_aligned va 8) value ms c wide.1 a
  all_lined n (lines.SetPc pc) next ms c wide a follow = follow ms _ (with_fits shape is core 0 ms c _ (pc_fits (mode_now c) c.contexts.current pc wide a.contexts.current) (fewer shape core 1 0 ms c (omega arith) a))
  all_lined n (lines.SetReg x value) next ms c wide a follow = follow ms _ (with_fits shape is core 0 ms c _ (reg_fits (mode_now c) c.contexts.current x value wide a.contexts.current) (fewer shape core 1 0 ms c (omega arith) a))

  pub all_lines : (n : ℕ) (script : List Line) → AllByRecursion IsWide script → Follow shape core 0 (lines_from shape n script)
  unfolding lines_from
  all_lines n [] wide ms c a = a.idle
  all_lines n (line ∷ rest) wide ms c a =
      all_budgeted shape is core n (λ d. retried shape d.pending d (lined shape n line (λ e. lines_from shape (n + 1) rest e))) ms c a
      (λ more d b. all_retried shape is core d.pending 1 more d (lined shape n line (λ e. lines_from shape (n + 1) rest e)) b.pending b
      (λ later e f. all_lined n line (λ g. lines_from shape (n + 1) rest g) later e wide.0 f (all_lines (n + 1) rest wide.1)))
