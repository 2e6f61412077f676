use Rattle.std.proofs.Common.{◌≡◌, ◌∙◌, [], length, map, sym, ap, refl, arith}
use Rattle.call_machine.specs.declared.work.Work.{Work}
use Rattle.call_machine.specs.Found.{found_with}
use Rattle.call_machine.specs.Meaning.{found, phase_tree, refuses}
use Rattle.call_machine.specs.Count.{phase_left}
use Rattle.call_machine.specs.Stands.{IsFresh, phase_stands}
use Rattle.call_machine.proofs.At.{at_from, if_some}
use Rattle.call_machine.proofs.Starting.{fresh_between, start_tree, refused_tree}
use Rattle.call_machine.proofs.work.Work.start.Goals as goal

pub go_on-requires : goal.go_on-requires
go_on-requires c = fresh_between c.args.self.now c.requires (sym c.refuse_early.ensures.early ∙ c.in-None.is)

pub returns-in-Some-clause-at : goal.returns-in-Some-clause-at
unfolding phase_tree phase_stands phase_left refuses
returns-in-Some-clause-at c =
    let w = c.args.self.now in
    let b = c.requires.based in
    record {
      based = record { valid = b.valid; caller = b.caller; is_call = b.is_call; few = b.few };
      stands = if_some _ _ c.in-Some.reply c.refuse_early.ensures.refusal c.in-Some.is;
      meaning = sym (refused_tree w c.requires c.in-Some.reply (sym c.refuse_early.ensures.early ∙ c.in-Some.is));
      count = omega (arith, ap (λ l. length l) c.requires.locks);
      end = refl;
      config = refl;
      call = refl;
      core = refl;
      mode = refl;
    }

pub returns-in-None-clause-at : goal.returns-in-None-clause-at
returns-in-None-clause-at c =
    let w = c.args.self.now in
    at_from _ _ _ _ _ _ _ _ _ c.go_on.ensures.at
    (sym (start_tree w c.requires (sym c.refuse_early.ensures.early ∙ c.in-None.is)))
    (omega arith) refl refl refl refl refl

-- nothing is found yet
fresh_found : (w : Work) → IsFresh w → found w ≡ []
unfolding found_with
fresh_found w f = ap (λ l. found_with (map (λ x. x.object) l) w.stood.items []) f.locks

pub returns-in-Some-clause-found : goal.returns-in-Some-clause-found
returns-in-Some-clause-found c = fresh_found c.args.self.now c.requires

pub returns-in-None-clause-found : goal.returns-in-None-clause-found
returns-in-None-clause-found c = c.go_on.ensures.found ∙ fresh_found c.args.self.now c.requires
