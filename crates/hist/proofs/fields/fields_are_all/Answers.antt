use Rattle.hist.proofs.fields.fields_are_all.Goals as goal

pub returns-clause-fields : goal.returns-clause-fields
returns-clause-fields c = record {
  legal = λ shape logs but. record { count = but.count; tickets = but.tickets; own = but.own; entries = but.entries };
  next = λ owner next before e but. record { core = but.core; serial = but.serial; ascends = but.ascends };
  entry = λ s e but. record { reply = but.reply; tried = but.tried; page = but.page };
  busy = λ shape logs now but. record { entries = but.entries; refused = but.refused };
  lock = λ shape h now e lock holder serial but. record {
    core = but.core;
    other = but.other;
    tried = but.tried;
    held = but.held;
    begun = but.begun;
    under_way = but.under_way;
  };
  taken = λ lock e but. record { tried = but.tried; another = but.another };
  touch = λ shape h before r a behind but. record { region = but.region; period = but.period };
  safe = λ before touch behind p but. record {
    before_block = but.before_block;
    after_beginning = but.after_beginning;
    owner = but.owner;
    counted_flush = but.counted_flush;
    cleared = but.cleared;
  };
}

pub returns-clause-definitions : goal.returns-clause-definitions
returns-clause-definitions c = record {
  legal = λ shape logs is. record { count = is.count; tickets = is.tickets; own = is.own; entries = is.entries };
  next = λ owner next before e is. record { core = is.core; serial = is.serial; ascends = is.ascends };
  entry = λ s e is. record { reply = is.reply; tried = is.tried; page = is.page };
  busy = λ shape logs now is. record { entries = is.entries; refused = is.refused };
  lock = λ shape h now e lock holder serial is. record {
    core = is.core;
    other = is.other;
    tried = is.tried;
    held = is.held;
    begun = is.begun;
    under_way = is.under_way;
  };
  taken = λ lock e is. record { tried = is.tried; another = is.another };
  touch = λ shape h before r a behind is. record { region = is.region; period = is.period };
  safe = λ before touch behind p is. record {
    before_block = is.before_block;
    after_beginning = is.after_beginning;
    owner = is.owner;
    counted_flush = is.counted_flush;
    cleared = is.cleared;
  };
}
