use Rattle.file_laws.proofs.Effects.{write_effect, write_refused, write_granted, empty_write}
use Rattle.file_laws.proofs.calls.writes_put_bytes.Goals as goal

pub returns-clause-some : goal.returns-clause-some
returns-clause-some c = write_effect

pub returns-clause-refused : goal.returns-clause-refused
returns-clause-refused c = write_refused

pub returns-clause-none : goal.returns-clause-none
returns-clause-none c = empty_write

pub returns-clause-granted : goal.returns-clause-granted
returns-clause-granted c = write_granted
