use Rattle.files_c.proofs.Apart.{judged_apart, judged_once}
use Rattle.files_c.proofs.laws.judged_files_are_apart.Goals as goal

pub returns-clause-apart : goal.returns-clause-apart
returns-clause-apart c = judged_apart

pub returns-clause-once : goal.returns-clause-once
returns-clause-once c = judged_once
