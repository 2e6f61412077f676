use Rattle.std.proofs.Common.{◌≡◌, drop}
use Rattle.std.specs.Map.{lookup}
use Rattle.std.specs.Str.{bytes_eq}
use Rattle.rv_asm.proofs.name.Name.among.Given as goal

abbrev pub invariant-loop-text : goal.invariant-loop-text
invariant-loop-text l = lookup (λ text. bytes_eq l.word text.now) (drop l.text-index l.names) ≡ lookup (λ text. bytes_eq l.word text.now) l.names
