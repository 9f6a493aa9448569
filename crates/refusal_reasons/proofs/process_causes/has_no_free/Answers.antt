use Rattle.refusal_reasons.proofs.Counted.{no_process_free}
use Rattle.refusal_reasons.proofs.process_causes.has_no_free.Goals as goal

pub returns : goal.returns
returns c = record { none = no_process_free c.args.tables.now c.place_free.result c.is_none.result c.requires.inside.processes c.place_free.ensures.found c.is_none.ensures }
