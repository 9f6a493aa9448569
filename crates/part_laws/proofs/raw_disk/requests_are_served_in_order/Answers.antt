use Rattle.part_laws.proofs.RawDisks.Histories.{in_order}
use Rattle.part_laws.proofs.raw_disk.requests_are_served_in_order.Goals as goal

pub returns : goal.returns
returns c = record { order = in_order }
