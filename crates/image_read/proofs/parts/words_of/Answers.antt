use Rattle.std.proofs.Common.{◌≡◌, ◌*◌, ℕ, length, take, ap, ◌∙◌, arith, rules}
use Rattle.std.proofs.lemmas.List.{take_at}
use Rattle.image_read.specs.Reading.{words_of}
use Rattle.image_read.proofs.ReadLoops.{words_read, words_cut}
use Rattle.image_read.proofs.parts.words_of.Goals as goal

pub returns-clause-words : goal.returns-clause-words
returns-clause-words c =
    let dst = c.read_u64_into.new.dst in
    let count = c.args.count in
    let bytes = c.args.bytes.now in
    let n : length dst ≡ count = search rules in
    let all : c.from_vec.result ≡ dst = c.from_vec.ensures ∙ take_at dst _ c.in_ok-words.words.len (search rules) in
    all ∙ words_read dst (take (8 * count) bytes) c.read_u64_into.ensures ∙ ap (λ (k : ℕ). words_of k (take (8 * count) bytes)) n ∙ words_cut count (8 * count) bytes (omega arith)
