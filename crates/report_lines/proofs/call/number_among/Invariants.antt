use Rattle.std.proofs.Common.{◌≡◌, drop}
use Rattle.std.specs.List.{find}
use Rattle.std.specs.Str.{bytes_eq}
use Rattle.report_lines.specs.Reading.{name_of}
use Rattle.report_lines.proofs.call.number_among.Given as goal

abbrev pub invariant-loop-number : goal.invariant-loop-number
invariant-loop-number l = find (λ number. bytes_eq l.word (name_of number)) (drop l.number-index l.numbers) ≡ find (λ number. bytes_eq l.word (name_of number)) l.numbers
