use Rattle.file_laws.proofs.Fitting.{fitting_is, fitting_least}
use Rattle.file_laws.proofs.prefix.the_longest_prefix_is_put.Goals as goal

pub returns-clause-all : goal.returns-clause-all
returns-clause-all c = fitting_is

pub returns-clause-least : goal.returns-clause-least
returns-clause-least c = fitting_least
