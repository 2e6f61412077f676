use Rattle.std.proofs.Common.{◌≡◌, drop}
use Rattle.std.specs.List.{find}
use Rattle.std.specs.Str.{bytes_eq}
use Rattle.script_read.specs.Forms.{form_name}
use Rattle.script_read.proofs.form.Form.among.Given as goal

abbrev pub invariant-loop-form : goal.invariant-loop-form
invariant-loop-form l = find (λ form. bytes_eq l.word (form_name form)) (drop l.form-index l.forms) ≡ find (λ form. bytes_eq l.word (form_name form)) l.forms
