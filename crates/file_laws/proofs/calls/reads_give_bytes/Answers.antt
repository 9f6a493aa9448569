use Rattle.file_laws.proofs.Effects.{read_effect, getc_effect}
use Rattle.file_laws.proofs.calls.reads_give_bytes.Goals as goal

pub returns-clause-read : goal.returns-clause-read
returns-clause-read c = read_effect

pub returns-clause-byte : goal.returns-clause-byte
returns-clause-byte c = getc_effect
