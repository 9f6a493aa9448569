use Rattle.xinu_laws.proofs.FileSyscalls.Texts.{texts_agree}
use Rattle.xinu_laws.proofs.outcomes.texts_agree.Goals as goal

pub returns : goal.returns
returns c = texts_agree
