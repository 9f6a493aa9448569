use Rattle.xinu_laws.proofs.FileSyscalls.Chosen.{choice_happens}
use Rattle.xinu_laws.proofs.outcomes.choices_happen.Goals as goal

pub returns : goal.returns
returns c = choice_happens
