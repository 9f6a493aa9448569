use Rattle.std.proofs.Common.{◌∙◌}
use Rattle.reference_check.proofs.ReadOn.{front_begins}
use Rattle.reference_check.proofs.choices.begins.Goals as goal

pub returns : goal.returns
returns c = record { begins = c.starts_with.ensures.value ∙ front_begins c.args.bytes.now c.args.text.now }
