-- The begin of a call.
use Rattle.std.proofs.Common.{◌≡◌, ◌∙◌, ◌+◌, ◌<◌, ◌^◌, Some, None, [], ◌++◌, length, map, ap, sym, subst}
use Rattle.std.specs.List.{AllByRecursion}
use Rattle.mon_types.specs.declared.reply.Reply.{Reply}
use Rattle.mon_model.specs.Early.{early}
use Rattle.mon_model.specs.Tries.{tries, tried_set}
use Rattle.lock_plan.specs.Records.{records_of}
use Rattle.mon_records.proofs.RebuiltStates.{known_whole, known_mode, known_shape}
use Rattle.protocol.specs.declared.action.Action.TheVariants as actions
use Rattle.protocol.specs.CallTree.{Over, then_, lock_plan, plan_of, decided, unless_refused, call_tree, unlocks, onto}
use Rattle.call_machine.specs.declared.work.Work.{Work}
use Rattle.call_machine.specs.Found.{widths, found_with}
use Rattle.call_machine.specs.Rest.{unlocks_of}
use Rattle.call_machine.specs.Meaning.{issuer, objects_in, found, known, goes_on, refuses}
use Rattle.call_machine.specs.Stands.{IsFresh, IsBetween}
use Rattle.call_machine.proofs.Reading.{AreRead, known_ranges}

module _ (w : Work) (f : IsFresh w) where
  pub no_objects : objects_in w ≡ []
  no_objects = ap (map (λ l. l.object)) f.locks

  pub no_found : found w ≡ []
  unfolding found_with
  no_found = ap (λ os. found_with os w.stood.items []) no_objects

  pub fresh_between : early w.config w.mode w.call ≡ None → IsBetween w
  unfolding widths
  fresh_between none = record {
    others = tries (known w) w.core w.call;
    locking = record {
      holding = record {
        based = f.based;
        early = none;
        machine = known_shape w.config w.mode (found w);
        mode = known_mode w.config w.core w.mode (found w) f.based.caller.there;
        whole = known_whole w.config w.mode (found w);
        ranges = known_ranges w.config w.mode (found w) (subst AreRead (sym no_found) tt);
        front = record {
          plan = ap (λ os. os ++ tries (known w) w.core w.call) (sym no_objects);
          records = f.held ∙ ap (records_of (known w)) (sym no_objects);
        };
      };
      long = ap (λ l. length l) f.stood ∙ ap (λ os. widths os + 0) (sym no_objects);
      fit = subst (AllByRecursion (λ word. word < 2 ^ 64)) (sym f.stood) tt;
      input = f.input;
      ends = f.ends;
      page = f.page;
    };
    tried = f.tried ∙ ap tried_set (sym no_objects);
    unloaded = record { places = f.places; ptes = f.ptes };
  }

  pub start_tree : early w.config w.mode w.call ≡ None → call_tree w.config (issuer w) w.call ≡ goes_on w.config (issuer w) w.call (found w)
  unfolding call_tree unless_refused goes_on
  start_tree none =
      ap (λ o. unless_refused o (issuer w) w.call (lock_plan w.config (issuer w) w.call (plan_of w.config (issuer w) w.call []) (decided w.config (issuer w) w.call))) none
      ∙ ap (goes_on w.config (issuer w) w.call) (sym no_found)

  pub refused_tree : (refusal : Reply) → early w.config w.mode w.call ≡ Some refusal → call_tree w.config (issuer w) w.call ≡ refuses (record w { reply = refusal })
  unfolding call_tree unless_refused refuses unlocks onto
  refused_tree refusal some =
      ap (λ o. unless_refused o (issuer w) w.call (lock_plan w.config (issuer w) w.call (plan_of w.config (issuer w) w.call []) (decided w.config (issuer w) w.call))) some
      ∙ ap (λ p. then_ (actions.Draw (record { serial = w.serial; call = w.call; page = p; reply = refusal; tried = tried_set [] })) Over) (sym f.input)
      ∙ ap (λ t. then_ (actions.Draw (record { serial = w.serial; call = w.call; page = w.input; reply = refusal; tried = t })) Over) (sym f.tried)
      ∙ ap (λ os. then_ (actions.Draw (record { serial = w.serial; call = w.call; page = w.input; reply = refusal; tried = w.tried })) (unlocks_of os)) (sym no_objects)
