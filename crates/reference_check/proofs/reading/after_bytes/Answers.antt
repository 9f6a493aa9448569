use Rattle.reference_check.proofs.ReadOn.{stripped}
use Rattle.reference_check.proofs.reading.after_bytes.Goals as goal

pub returns : goal.returns
returns c = record { left = stripped c.args.bytes.now c.args.text.now c.strip_prefix.result c.strip_prefix.ensures.cases }
