use Rattle.event_laws.proofs.WholeReads.{whole_reads}
use Rattle.event_laws.proofs.console.whole_reads_are_lines.Goals as goal

pub returns : goal.returns
returns c = whole_reads
