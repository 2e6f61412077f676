use Rattle.std.proofs.Common.{refl}
use Rattle.hist_stands.proofs.fields.refused_block.Goals as goal

pub returns : goal.returns
returns c = record { tickets = (refl, tt); entries = λ legal. let is = legal.0.reply refl in cc }
