use Rattle.event_laws.proofs.Rises.ClockEvents.{ticks_keyed, ticks_stepped, ticks_ticked, ticks_transmits}
use Rattle.event_laws.proofs.counters.ticks_move_the_clock.Goals as goal

pub returns : goal.returns
returns c = record { step = ticks_stepped; tick = ticks_ticked; key = ticks_keyed; sent = ticks_transmits }
