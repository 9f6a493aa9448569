use Rattle.file_laws.proofs.Resting.{middle_holds, ending_holds, creating_holds}
use Rattle.file_laws.proofs.rest.files_at_rest_are_held.Goals as goal

pub returns-clause-middle : goal.returns-clause-middle
returns-clause-middle c = middle_holds

pub returns-clause-ending : goal.returns-clause-ending
returns-clause-ending c = ending_holds

pub returns-clause-creating : goal.returns-clause-creating
returns-clause-creating c = creating_holds
