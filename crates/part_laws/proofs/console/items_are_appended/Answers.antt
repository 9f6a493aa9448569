use Rattle.part_laws.proofs.Consoles.Characters.{received_goes, controlled_goes}
use Rattle.part_laws.proofs.console.items_are_appended.Goals as goal

pub returns-clause-received : goal.returns-clause-received
returns-clause-received c = λ b x. (received_goes b x).appends

pub returns-clause-controlled : goal.returns-clause-controlled
returns-clause-controlled c = λ f x m e. (controlled_goes f x m e).appends
