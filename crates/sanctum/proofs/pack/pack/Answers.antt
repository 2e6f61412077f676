use Rattle.std.proofs.lemmas.Result.{err_from_is_err_and}
use Rattle.sanctum.specs.Outputs.{text_of}
use Rattle.sanctum.specs.Causes.{Rises}
use Rattle.sanctum.proofs.Packed.{pack_refused, pack_served}
use Rattle.sanctum.proofs.pack.pack.Goals as goal

pub returns-in_err-words-clause-serves : goal.returns-in_err-words-clause-serves
returns-in_err-words-clause-serves g c =
    let p = err_from_is_err_and c.from_residual-in_err-words.result c.from_residual-in_err-words.ensures.1 in
    rw (p.1, p.2)
    (pack_refused (g.D.Depot.contents c.args.depot.now) (Rises (g.D.Depot.faults c.args.depot.now) (g.D.Depot.faults c.read_file.new.depot)) c.args.name.now c.args.config c.word_limit.result c.deref.result.now c.in_err-words.field-0.0
    c.word_limit.ensures (rw c.deref.ensures.value c.in_ok-bytes.ensures.bytes) (record { exact = c.in_err-words.ensures.exact; only = c.in_err-words.ensures.only }))

pub returns-clause-serves : goal.returns-clause-serves
returns-clause-serves g c =
    pack_served (g.D.Depot.contents c.args.depot.now c.args.name.now) c.args.config c.word_limit.result c.deref.result.now c.in_ok-words.words.items (text_of c.packed.result) c.in_ok-image.image
    c.word_limit.ensures (rw c.deref.ensures.value c.in_ok-bytes.ensures.bytes) c.in_ok-words.ensures.found (rw (← c.deref-2.ensures.value) c.in_ok-image.ensures.image) c.packed.ensures.text
