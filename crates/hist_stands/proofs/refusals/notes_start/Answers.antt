use Rattle.hist_stands.proofs.refusals.notes_start.Goals as goal

pub returns : goal.returns
returns c shape = record { entries = tt; calls = λ core lt. tt }
