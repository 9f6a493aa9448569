use Rattle.xinu_commands.proofs.TheWhole.{is_the_whole}
use Rattle.xinu_commands.proofs.laws.the_whole.Goals as goal

pub returns : goal.returns
returns c = is_the_whole
