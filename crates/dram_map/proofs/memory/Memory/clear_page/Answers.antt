use Rattle.std.proofs.Common.{◌≡◌, ℕ, ◌+◌, ◌*◌, ◌≤◌, ◌∙◌, ap, length, take, drop, ◌++◌, List, replicate, arith}
use Rattle.dram_map.specs.Words.{page_cleared}
use Rattle.dram_map.proofs.Pages.{part_put}
use Rattle.dram_map.proofs.memory.Memory.clear_page.Goals as goal

pub returns-clause-cleared : goal.returns-clause-cleared
returns-clause-cleared c =
    let a : ℕ = 512 * c.from-begin.result in
    let items : c.deref_mut.result.now ≡ c.args.self.now = c.deref_mut.ensures.value ∙ c.self.view_is in
    let zeros : c.copy_from_slice.new.self ≡ replicate 512 0 = c.copy_from_slice.ensures.after in
    let fits : 512 * c.from-begin.result + 512 ≤ length c.deref_mut.result.now = omega (arith, ap length items, c.requires, c.from-begin.ensures) in
    part_put c.deref_mut.result.now c.copy_from_slice.new.self _ (512 * c.from-begin.result) 512 c.self.inside.words.len fits (ap length zeros) c.deref_mut.ensures.len
    ∙ ap (λ (ys : List ℕ). take a c.deref_mut.result.now ++ (ys ++ drop (a + 512) c.deref_mut.result.now)) zeros
    ∙ ap (λ (l : List ℕ). page_cleared l c.from-begin.result) items
    ∙ ap (λ (p : ℕ). page_cleared c.args.self.now p) c.from-begin.ensures
