use Rattle.core_access.proofs.Places.{places_are_addresses}
use Rattle.core_access.proofs.laws.places_are_addresses.Goals as goal

pub returns : goal.returns
returns c = places_are_addresses
