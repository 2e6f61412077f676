use Rattle.std.proofs.Common.{◌≡◌, List, [], ◌∷◌, ◌++◌, sym, ap, ◌∙◌, rules}
use Rattle.arrayvec.proofs.ArrayVecLemmas.{filter-from_retain}
use Rattle.tlb.specs.declared.cache.Set.TheInside.{Inside}
use Rattle.tlb.specs.declared.entry.Entry.{Entry}
use Rattle.tlb.specs.Cache.{of_others}
use Rattle.tlb.specs.Sets.{set_with_room}
use Rattle.tlb.proofs.Filled.{full_set, set_not_full}
use Rattle.tlb.proofs.cache.Set.fill.Goals as goal
use Rattle.tlb.proofs.cache.Set.fill.Goals.{then-is_full, else-is_full}

pub returns-clause-filled : goal.returns-clause-filled
returns-clause-filled c =
    let kept : c.retain.new.self.items ≡ of_others c.args.entry.vpn c.args.self.now =
    filter-from_retain _ _ _ (λ x b f' y called. search rules) _ _ c.retain.ensures.filtered
    ∙ ap (of_others c.args.entry.vpn) c.self.view_is in
    let room : c.if-is_full.self-inside.entries.items ≡ set_with_room c.retain.new.self.items =
    elim c.if-is_full.branch [
      | then-is_full w ↦
          ap (λ (i : Inside). i.entries.items) w.self-inside-is
          ∙ w.remove.ensures.items
          ∙ full_set c.retain.new.self.items (sym c.is_full.ensures.value ∙ w.if-is_full.true)
      | else-is_full w ↦
          ap (λ (i : Inside). i.entries.items) w.self-inside-is
          ∙ set_not_full c.retain.new.self.items (sym c.is_full.ensures.value ∙ w.if-is_full.false) c.is_full.ensures.fits
    ] in
    c.push.ensures.items
    ∙ ap (λ (xs : List Entry). xs ++ c.args.entry ∷ []) (room ∙ ap set_with_room kept)
