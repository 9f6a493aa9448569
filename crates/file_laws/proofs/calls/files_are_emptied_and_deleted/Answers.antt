use Rattle.file_laws.proofs.Effects.{truncate_effect, truncate_granted, delete_effect, delete_granted, delete_refused, kept_contents}
use Rattle.file_laws.proofs.calls.files_are_emptied_and_deleted.Goals as goal

pub returns-clause-empty : goal.returns-clause-empty
returns-clause-empty c = truncate_effect

pub returns-clause-deleted : goal.returns-clause-deleted
returns-clause-deleted c = delete_effect

pub returns-clause-refused : goal.returns-clause-refused
returns-clause-refused c = delete_refused

pub returns-clause-kept : goal.returns-clause-kept
returns-clause-kept c = kept_contents

pub returns-clause-emptied : goal.returns-clause-emptied
returns-clause-emptied c = truncate_granted

pub returns-clause-granted : goal.returns-clause-granted
returns-clause-granted c = delete_granted
