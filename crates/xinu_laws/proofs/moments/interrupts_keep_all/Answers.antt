use Rattle.xinu_laws.proofs.Preserve.Events.{receiving_keeps, sending_keeps}
use Rattle.xinu_laws.proofs.moments.interrupts_keep_all.Goals as goal

pub returns : goal.returns
returns c = record { received = receiving_keeps; sent = sending_keeps }
