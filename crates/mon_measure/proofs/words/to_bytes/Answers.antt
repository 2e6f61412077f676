use Rattle.mon_model.specs.MeasureWords.{to_words-to_bytes}
use Rattle.mon_measure.proofs.words.to_bytes.Goals as goal

pub returns-clause-back : goal.returns-clause-back
returns-clause-back c = rw c.write_u64_into.ensures (to_words-to_bytes c.args.w.now c.told-w c.fits-w)
