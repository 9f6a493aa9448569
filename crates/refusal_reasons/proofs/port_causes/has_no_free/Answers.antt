use Rattle.refusal_reasons.proofs.Counted.{no_port_free}
use Rattle.refusal_reasons.proofs.port_causes.has_no_free.Goals as goal

pub returns : goal.returns
returns c = record { none = no_port_free c.args.ports.now.ports c.args.ports.now.next_port c.place_free.result c.is_none.result c.requires.many c.place_free.ensures.found c.is_none.ensures }
