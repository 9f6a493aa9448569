use Rattle.rv_isa.proofs.Apart.{rows-apart}
use Rattle.rv_isa.proofs.rows.rows_apart.Goals as goal

pub returns : goal.returns
returns c = rows-apart
