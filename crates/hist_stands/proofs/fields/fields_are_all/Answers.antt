use Rattle.hist_stands.proofs.fields.fields_are_all.Goals as goal

pub returns-clause-fields : goal.returns-clause-fields
returns-clause-fields c = record {
  history = λ shape h but. record { tickets = but.tickets; entries = but.entries };
  stamp = λ shape h core before behind r a owner k but. record {
    drawn = but.drawn;
    earlier = but.earlier;
    later = but.later;
    owned = but.owned;
    opens = but.opens;
    fresh = but.fresh;
  };
  stands = λ shape h log but. record {
    legal = but.legal;
    cores = but.cores;
    serials = but.serials;
    mine = but.mine;
    stamped = but.stamped;
  };
  held = λ h s core r a owner but. record { owner = owner; region = but.region; opens = but.opens; alive = but.alive };
  found = λ shape h now core mine lock holder serial k but. record {
    is_core = but.is_core;
    other = but.other;
    drawn = but.drawn;
    before = but.before;
    begun = but.begun;
    under_way = but.under_way;
    held = but.held;
  };
}

pub returns-clause-definitions : goal.returns-clause-definitions
returns-clause-definitions c = record {
  history = λ shape h is. record { tickets = is.tickets; entries = is.entries };
  stamp = λ shape h core before behind r a owner k is. record {
    drawn = is.drawn;
    earlier = is.earlier;
    later = is.later;
    owned = is.owned;
    opens = is.opens;
    fresh = is.fresh;
  };
  stands = λ shape h log is. record {
    legal = is.legal;
    cores = is.cores;
    serials = is.serials;
    mine = is.mine;
    stamped = is.stamped;
  };
  held = λ h s core r a is. record { region = is.region; opens = is.opens; alive = is.alive };
  found = λ shape h now core mine lock holder serial k is. record {
    is_core = is.is_core;
    other = is.other;
    drawn = is.drawn;
    before = is.before;
    begun = is.begun;
    under_way = is.under_way;
    held = is.held;
  };
}
