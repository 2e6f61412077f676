-- What a sink has taken after two puts.
use Rattle.std.proofs.Common.{ℕ, ◌+◌, List, ◌++◌, take, drop, Option, Some, None, sym, ap, ◌∙◌, append_assoc}
use Rattle.std.proofs.Math.Seq.{take-add}
use Rattle.std.specs.Io.KnownBytes.{Appends}

-- the first `done` bytes of a text, and then n bytes from there on
pub appends_more : (before between after : Option (List ℕ)) (text : List ℕ) (done n : ℕ) → Appends before between (take done text) → Appends between after (take n (drop done text)) → Appends before after (take (done + n) text)
appends_more None between after text done n first next = tt
appends_more (Some xs) None after text done n first next = absurd first
appends_more (Some xs) (Some ys) None text done n first next = absurd next
appends_more (Some xs) (Some ys) (Some zs) text done n first next =
    next ∙ ap (λ (x : List ℕ). x ++ take n (drop done text)) first ∙ append_assoc xs (take done text) (take n (drop done text)) ∙ ap (λ (x : List ℕ). xs ++ x) (sym (take-add done n text))
