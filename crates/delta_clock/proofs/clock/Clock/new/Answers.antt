use Rattle.std.proofs.Common.{refl}
use Rattle.delta_clock.proofs.Delays.{later_start}
use Rattle.delta_clock.proofs.clock.Clock.new.Goals as goal

pub returns-clause-later : goal.returns-clause-later
returns-clause-later c = later_start 130 refl
