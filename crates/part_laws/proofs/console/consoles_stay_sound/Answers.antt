use Rattle.std.proofs.Common.{inl, refl, arith}
use Rattle.part_laws.proofs.Consoles.Characters.{received_goes, controlled_goes}
use Rattle.part_laws.proofs.Consoles.Transmissions.{sound_transmitted, sound_put, sound_taken}
use Rattle.part_laws.proofs.console.consoles_stay_sound.Goals as goal

pub returns-clause-starts : goal.returns-clause-starts
returns-clause-starts c = record { input = omega arith; output = omega arith; echo = omega arith; line = inl refl }

pub returns-clause-received : goal.returns-clause-received
returns-clause-received c = λ b x s. (received_goes b x).sound s

pub returns-clause-controlled : goal.returns-clause-controlled
returns-clause-controlled c = λ f x m s e. (controlled_goes f x m e).sound s

pub returns-clause-transmitted : goal.returns-clause-transmitted
returns-clause-transmitted c = sound_transmitted

pub returns-clause-put : goal.returns-clause-put
returns-clause-put c = sound_put

pub returns-clause-taken : goal.returns-clause-taken
returns-clause-taken c = sound_taken
