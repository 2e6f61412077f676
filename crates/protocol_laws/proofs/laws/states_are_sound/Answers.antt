use Rattle.protocol_laws.proofs.Sounds.{start_is_sound, stays_sound}
use Rattle.protocol_laws.proofs.laws.states_are_sound.Goals as goal

pub returns-clause-first : goal.returns-clause-first
returns-clause-first c = start_is_sound

pub returns-clause-next : goal.returns-clause-next
returns-clause-next c = stays_sound
