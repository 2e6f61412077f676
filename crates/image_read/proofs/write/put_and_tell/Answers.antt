use Rattle.image_read.proofs.write.put_and_tell.Goals as goal

pub returns-clause-text : goal.returns-clause-text
returns-clause-text g c = record { ok = c.in_ok-put_piece.ensures.text.ok; err = tt }
