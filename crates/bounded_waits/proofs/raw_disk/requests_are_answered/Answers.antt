use Rattle.bounded_waits.proofs.Comings.{disk_answered}
use Rattle.bounded_waits.proofs.raw_disk.requests_are_answered.Goals as goal

pub returns : goal.returns
returns c = disk_answered
