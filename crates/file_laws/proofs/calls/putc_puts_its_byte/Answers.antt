use Rattle.file_laws.proofs.Effects.{putc_effect, putc_refused, putc_granted}
use Rattle.file_laws.proofs.calls.putc_puts_its_byte.Goals as goal

pub returns-clause-some : goal.returns-clause-some
returns-clause-some c = putc_effect

pub returns-clause-refused : goal.returns-clause-refused
returns-clause-refused c = putc_refused

pub returns-clause-granted : goal.returns-clause-granted
returns-clause-granted c = putc_granted
