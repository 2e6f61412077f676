use Rattle.sanctum.proofs.Imaged.{image_fault}
use Rattle.sanctum.proofs.sources.read_source.Goals as goal

pub returns-in-File-clause-fault : goal.returns-in-File-clause-fault
returns-in-File-clause-fault g c =
    λ fault is. rw c.in-File.is (image_fault (g.D.Depot.contents c.args.depot.now c.in-File.name.now) c.read_image.result fault c.read_image.ensures.only c.read_image.ensures.exact is)
