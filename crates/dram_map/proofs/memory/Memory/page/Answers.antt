use Rattle.std.proofs.Common.{◌≡◌, ℕ, ◌*◌, ◌∙◌, ap, take, drop, List, arith}
use Rattle.std.proofs.lemmas.List.{take_all, length-drop}
use Rattle.dram_map.proofs.Pages.{chunk_is}
use Rattle.dram_map.proofs.memory.Memory.page.Goals as goal

pub returns : goal.returns
returns c =
    let items : c.deref.result.now ≡ c.args.self.now = c.deref.ensures.value ∙ c.self.view_is in
    chunk_is c.first_chunk.result c.unwrap.result _ _ c.unwrap.ensures c.first_chunk.ensures.cases
    ∙ ap (take 512) (take_all _ _ (omega (arith, length-drop (512 * c.from-begin.result) c.deref.result.now))
    ∙ ap (λ (l : List ℕ). drop (512 * c.from-begin.result) l) items ∙ ap (λ (p : ℕ). drop (512 * p) c.args.self.now) c.from-begin.ensures)
