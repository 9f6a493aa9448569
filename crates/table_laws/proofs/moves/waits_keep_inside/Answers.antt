use Rattle.table_laws.proofs.Preserve.{await_preserves}
use Rattle.table_laws.proofs.Preserve.Tokens.{inside_wait}
use Rattle.table_laws.proofs.Tables.Changes.{sound_token_taken}
use Rattle.table_laws.proofs.moves.waits_keep_inside.Goals as goal

pub returns-clause-waits : goal.returns-clause-waits
returns-clause-waits c = inside_wait

pub returns-clause-takes : goal.returns-clause-takes
returns-clause-takes c = sound_token_taken

pub returns-clause-either : goal.returns-clause-either
returns-clause-either c = await_preserves
