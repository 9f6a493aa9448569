use Rattle.bounded_waits.proofs.DiskEvents.{disk_event}
use Rattle.bounded_waits.proofs.raw_disk.completions_bring_services_nearer.Goals as goal

pub returns : goal.returns
returns c = disk_event
