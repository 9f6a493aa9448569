use Rattle.event_laws.proofs.Ownership.Boot.{apart_boot}
use Rattle.event_laws.proofs.owners.boot_is_apart.Goals as goal

pub returns : goal.returns
returns c = apart_boot
