-- A page stands exactly where it is to stand.
use Rattle.std.proofs.Common.{◌≡◌, Bool, true, false, refl, sym}
use Rattle.std.specs.Prelude.{is_some, not, if◌then◌else◌}
use Rattle.hist.specs.declared.event.Entry.{Entry}
use Rattle.hist.specs.Legal.{has_its_page}
use Rattle.report_lines.specs.Reading.{has_right_page}

-- two answers agree where the second is the first, or its opposite's opposite
pub agree : (a b : Bool) → (if b then a else not a) ≡ true → a ≡ b
agree a true h = h
agree true false h = sym h
agree false false h = refl

pub agree_so : (a b : Bool) → a ≡ b → (if b then a else not a) ≡ true
agree_so true true h = refl
agree_so false false h = refl
agree_so true false h = sym h
agree_so false true h = h

pub right_page : (e : Entry) → has_right_page e ≡ true → is_some e.page ≡ has_its_page e
right_page e h = agree (is_some e.page) (has_its_page e) h
