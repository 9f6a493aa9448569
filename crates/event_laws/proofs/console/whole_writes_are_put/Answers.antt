use Rattle.event_laws.proofs.WholeWrites.{whole_writes}
use Rattle.event_laws.proofs.console.whole_writes_are_put.Goals as goal

pub returns : goal.returns
returns c = whole_writes
