use Rattle.file_laws.proofs.Overwrites.{patched_flat, overwritten_more, overwritten_within, overwritten_past}
use Rattle.file_laws.proofs.bytes.bytes_are_put.Goals as goal

pub returns-clause-block : goal.returns-clause-block
returns-clause-block c = patched_flat

pub returns-clause-more : goal.returns-clause-more
returns-clause-more c = overwritten_more

pub returns-clause-within : goal.returns-clause-within
returns-clause-within c = overwritten_within

pub returns-clause-past : goal.returns-clause-past
returns-clause-past c = overwritten_past
