use Rattle.std.proofs.Common.{◌≡◌, ◌∙◌, ◌-◌, ℕ, List, [], ◌∷◌, ◌++◌, length, sym, ap, refl, arith, append_assoc}
use Rattle.std.proofs.Math.Path.{fun_ext}
use Rattle.sv39_pte.specs.Tables.{pte_place, leads_to_table, page_led_to}
use Rattle.mon_enclaves.specs.LoadReply.{va_of}
use Rattle.protocol.specs.CallTree.{walk, go_on, loaded, number_in}
use Rattle.arrayvec.specs.ArrayVec.{ArrayVec}
use Rattle.call_machine.specs.declared.work.Work.{Work}
use Rattle.call_machine.specs.Meaning.{phase_tree, issuer, found, known, ptes_in, with_places, after, ends_after}
use Rattle.call_machine.specs.Count.{phase_left}
use Rattle.call_machine.proofs.At.{at_from, locking_loaded}
use Rattle.call_machine.proofs.Decisions.{with_last}
use Rattle.call_machine.proofs.Heads.{walk_step, walk_last}
use Rattle.call_machine.proofs.work.Work.pte_loaded.Goals as goal

pub decide_by_ptes-requires-clause-locked : goal.decide_by_ptes-requires-clause-locked
decide_by_ptes-requires-clause-locked c =
    record { locking = locking_loaded c.args.self.now c.push.new.self c.push-2.new.self [] 0 c.requires.locked.locking; tried = c.requires.locked.tried }

-- what was loaded, with this pte
pairs : (w : Work) (places ptes : ArrayVec ℕ) (place pte p x : ℕ) → places.items ≡ w.places.items ++ place ∷ [] → ptes.items ≡ w.ptes.items ++ pte ∷ [] → length w.places.items ≡ length w.ptes.items → place ≡ p → pte ≡ x
    → with_places places.items ptes.items ≡ ptes_in w ++ (p, x) ∷ []
pairs w places ptes place pte p x e f same g h =
    ap (λ l. with_places l ptes.items) e ∙ ap (with_places (w.places.items ++ place ∷ [])) f
    ∙ with_last w.places.items w.ptes.items place pte same
    ∙ ap (λ z. ptes_in w ++ (z, pte) ∷ []) g ∙ ap (λ z. ptes_in w ++ (p, z) ∷ []) h

pub returns-then-left-eq1-clause-at : goal.returns-then-left-eq1-clause-at
unfolding phase_tree phase_left ends_after
returns-then-left-eq1-clause-at c =
    let w = c.args.self.now in
    let out = c.args.outcome.now in
    let next = λ (rest : List (ℕ × ℕ)). loaded (issuer w) w.call (known w) (found w) (ptes_in w ++ rest) in
    let step = walk_step w.config (va_of w.call) c.args.level c.args.left c.args.page next c.requires.some in
    let one : c.args.left - 1 ≡ 0 = omega (arith, c.if-left-eq1.true) in
    let all = pairs w c.push.new.self c.push-2.new.self c.pte_place.result c.word_of-pte.result (pte_place c.args.page c.args.level (va_of w.call)) (number_in out) c.push.ensures.items c.push-2.ensures.items c.requires.same (c.pte_place.ensures ∙ ap (pte_place c.args.page c.args.level) c.address_of.ensures) c.word_of-pte.ensures in
    at_from _ _ _ _ _ _ _ _ _ c.decide_by_ptes.ensures.at
    (ap (loaded (issuer w) w.call (known w) (found w)) all
    ∙ sym (walk_last w.config (va_of w.call) c.args.level c.args.page next out)
    ∙ ap (λ n. go_on (leads_to_table w.config (number_in out)) (walk w.config (va_of w.call) (c.args.level - 1) n (page_led_to (number_in out)) (λ rest. next ((pte_place c.args.page c.args.level (va_of w.call), number_in out) ∷ rest))) (next ((pte_place c.args.page c.args.level (va_of w.call), number_in out) ∷ []))) (sym one)
    ∙ sym (ap (λ t. after t out) step))
    (omega (arith, c.if-left-eq1.true)) (sym (ap (ends_after w) step)) refl refl refl refl

pub returns-else-left-eq1-clause-at : goal.returns-else-left-eq1-clause-at
unfolding phase_tree phase_left ends_after
returns-else-left-eq1-clause-at c =
    let w = c.args.self.now in
    let out = c.args.outcome.now in
    let place = pte_place c.args.page c.args.level (va_of w.call) in
    let next = λ (rest : List (ℕ × ℕ)). loaded (issuer w) w.call (known w) (found w) (ptes_in w ++ rest) in
    let step = walk_step w.config (va_of w.call) c.args.level c.args.left c.args.page next c.requires.some in
    let all = pairs w c.push.new.self c.push-2.new.self c.pte_place.result c.word_of-pte.result place (number_in out) c.push.ensures.items c.push-2.ensures.items c.requires.same (c.pte_place.ensures ∙ ap (pte_place c.args.page c.args.level) c.address_of.ensures) c.word_of-pte.ensures in
    let more : (rest : List (ℕ × ℕ)) → loaded (issuer w) w.call (known w) (found w) (with_places c.push.new.self.items c.push-2.new.self.items ++ rest) ≡ next ((place, number_in out) ∷ rest) = λ rest.
    ap (λ l. loaded (issuer w) w.call (known w) (found w) (l ++ rest)) all ∙ ap (loaded (issuer w) w.call (known w) (found w)) (append_assoc (ptes_in w) ((place, number_in out) ∷ []) rest) in
    at_from _ _ _ _ _ _ _ _ _ c.walk_on.ensures.at
    (ap (λ x. go_on (leads_to_table w.config x) (walk w.config (va_of w.call) (c.args.level - 1) (c.args.left - 1) (page_led_to x) (λ rest. loaded (issuer w) w.call (known w) (found w) (with_places c.push.new.self.items c.push-2.new.self.items ++ rest))) (loaded (issuer w) w.call (known w) (found w) (with_places c.push.new.self.items c.push-2.new.self.items))) c.word_of-pte.ensures
    ∙ ap (λ f. go_on (leads_to_table w.config (number_in out)) (walk w.config (va_of w.call) (c.args.level - 1) (c.args.left - 1) (page_led_to (number_in out)) f) (loaded (issuer w) w.call (known w) (found w) (with_places c.push.new.self.items c.push-2.new.self.items))) (fun_ext more)
    ∙ ap (λ l. go_on (leads_to_table w.config (number_in out)) (walk w.config (va_of w.call) (c.args.level - 1) (c.args.left - 1) (page_led_to (number_in out)) (λ rest. next ((place, number_in out) ∷ rest))) (loaded (issuer w) w.call (known w) (found w) l)) all
    ∙ sym (ap (λ t. after t out) step))
    (omega (arith, c.requires.some)) (sym (ap (ends_after w) step)) refl refl refl refl
