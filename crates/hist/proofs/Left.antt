-- What a merge has left, before and after it gives an entry.
use Rattle.std.proofs.Common.{◌≡◌, List, [], ◌∷◌, ◌++◌, map, refl, sym, ap, subst, ◌∙◌}
use Rattle.std.proofs.Math.ListN.{set}
use Rattle.std.proofs.lemmas.List.{map-set}
use Rattle.std.specs.List.{AllByRecursion}
use Rattle.std.specs.Borrow.{Bor}
use Rattle.hist.specs.declared.event.Entry.{Entry}
use Rattle.hist.specs.declared.event.Event.{Event}
use Rattle.hist.specs.declared.merge.First.{First}
use Rattle.hist.specs.History.{entries_of, in_ticket_order}
use Rattle.hist.specs.Merging.{AreApart, AreStillLeft, entries_left, left_by_ticket, BeginsWithEntry, BeginsEarliest}
use Rattle.hist.proofs.Ordered.{joined, joined_map, earliest_first, apart_after, all_set}

-- the lists of entries, where one log goes on behind its first
lists_after : (rests : List (Bor (List Event))) (first : First) (rest : Bor (List Event)) → entries_of rest.now ≡ entries_of first.after.now
    → set (map entries_left rests) first.at (entries_of first.after.now) ≡ map entries_left (set rests first.at rest)
lists_after rests first rest same =
    ap (λ (es : List Entry). set (map entries_left rests) first.at es) (sym same) ∙ sym (map-set entries_left rests first.at rest)

pub takes_first : (rests : List (Bor (List Event))) (first : First) (rest : Bor (List Event)) → AreStillLeft rests → BeginsEarliest (map entries_left rests) first → entries_of rest.now ≡ entries_of first.after.now
    → left_by_ticket rests ≡ first.entry.now ∷ left_by_ticket (set rests first.at rest)
takes_first rests first rest left earliest same =
    ap in_ticket_order (joined_map entries_left rests)
    ∙ earliest_first (map entries_left rests) first.at first.entry.now (entries_of first.after.now) left.apart earliest.among earliest.begins earliest.no_earlier
    ∙ ap (λ (lists : List (List Entry)). first.entry.now ∷ in_ticket_order (joined lists)) (lists_after rests first rest same)
    ∙ ap (λ (es : List Entry). first.entry.now ∷ in_ticket_order es) (sym (joined_map entries_left (set rests first.at rest)))

pub left_after : (rests : List (Bor (List Event))) (first : First) (rest : Bor (List Event)) → AreStillLeft rests → BeginsEarliest (map entries_left rests) first → entries_of rest.now ≡ entries_of first.after.now
    → BeginsWithEntry rest.now → AreStillLeft (set rests first.at rest)
left_after rests first rest left earliest same begins = record {
  apart = subst AreApart (lists_after rests first rest same) (apart_after (map entries_left rests) first.at first.entry.now (entries_of first.after.now) left.apart earliest.among earliest.begins);
  begin = all_set (λ (r : Bor (List Event)). BeginsWithEntry r.now) rests first.at rest begins left.begin;
}

-- nothing is left where all logs are over
none_joined : (lists : List (List Entry)) → AllByRecursion (λ es. es ≡ []) lists → joined lists ≡ []
none_joined [] over = refl
none_joined (es ∷ lists) over = ap (λ (xs : List Entry). xs ++ joined lists) over.0 ∙ none_joined lists over.1

pub none_left : (rests : List (Bor (List Event))) → AllByRecursion (λ es. es ≡ []) (map entries_left rests) → left_by_ticket rests ≡ []
none_left rests over = ap in_ticket_order (joined_map entries_left rests ∙ none_joined (map entries_left rests) over)
