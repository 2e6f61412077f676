use Rattle.sv39_walk.proofs.Places.{addresses_are_places}
use Rattle.sv39_walk.proofs.laws.addresses_are_places.Goals as goal

pub returns : goal.returns
returns c = addresses_are_places
