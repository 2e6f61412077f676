use Rattle.mon_model.specs.MeasureWords.{to_bytes-to_words}
use Rattle.mon_measure.proofs.words.to_words.Goals as goal

pub returns-clause-back : goal.returns-clause-back
returns-clause-back c =
    rw (c.word_at.ensures, c.word_at-2.ensures, c.word_at-3.ensures, c.word_at-4.ensures) (to_bytes-to_words c.args.m.now c.told-m c.fits-m)
