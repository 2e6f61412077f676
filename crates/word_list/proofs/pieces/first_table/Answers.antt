use Rattle.std.proofs.Common.{◌≡◌, ◌+◌, ◌<◌, ℕ, sym, subst, set, arith}
use Rattle.word_list.specs.Pieces.{AreOwnedBelow}
use Rattle.word_list.proofs.Rows.{own_low}
use Rattle.word_list.proofs.Start.{owned_more}
use Rattle.word_list.proofs.pieces.first_table.Goals as goal

pub index_mut-requires : goal.index_mut-requires
index_mut-requires c =
    let low : c.loop-r.r < c.args.config.now.regions = omega arith in
    let at = own_low c.args.config.now c.loop-r.r c.row_index.result low c.row_index.ensures.index in
    let many = c.loop-r.invariant.many in
    let ok = c.loop-r.table.ok.0 in
    omega (arith, at, many, ok)

pub loop-r-preserved : goal.loop-r-preserved
loop-r-preserved c =
    let r = c.loop-r.r in
    let low : c.loop-r.r < c.args.config.now.regions = omega arith in
    subst (λ (w : ℕ). AreOwnedBelow c.args.config.now (r + 1) (set c.loop-r.table.items c.row_index.result w)) (sym c.pack_own-owned.ensures)
    (subst (λ (i : ℕ). AreOwnedBelow c.args.config.now (r + 1) (set c.loop-r.table.items i 1)) (sym c.row_index.ensures.index)
    (owned_more c.args.config.now r c.loop-r.table.items low c.loop-r.invariant))

pub returns : goal.returns
returns c =
    let all : c.loop-r.r ≡ c.args.config.now.regions = omega arith in
    subst (λ (n : ℕ). AreOwnedBelow c.args.config.now n c.loop-r.table.items) all c.loop-r.invariant
