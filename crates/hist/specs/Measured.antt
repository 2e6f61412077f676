-- The calls of a history, as the measurement sees them. This project's own.
use Rattle.mon_model.specs.Measured.{Answered}
use Rattle.hist.specs.declared.event.Entry.{Entry}
use Rattle.hist.specs.History.{digest_of}

-- an entry's call with its answer
abbrev pub answer_of : Entry → Answered
answer_of e = record { call = e.call; reply = e.reply; digest = digest_of e.page }
