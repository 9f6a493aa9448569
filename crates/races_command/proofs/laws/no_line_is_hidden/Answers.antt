use Rattle.races_command.proofs.Listed.{told_apart}
use Rattle.races_command.proofs.laws.no_line_is_hidden.Goals as goal

pub returns : goal.returns
returns c = λ one other plain others same. told_apart one other plain others same
