use Rattle.std.proofs.Common.{◌+◌, arith}
use Rattle.race_runs.proofs.search.cut_of.Goals as goal

pub returns-clause-parts : goal.returns-clause-parts
returns-clause-parts c = λ most places is. c.front-cut.ensures.parts (c.front-cut.result + 4096) most places (omega arith) is
