use Rattle.explain_command.proofs.Ended.{ends_as}
use Rattle.explain_command.proofs.happenings.take.Goals as goal

pub returns-in-Ok-Some-clause-ends : goal.returns-in-Ok-Some-clause-ends
returns-in-Ok-Some-clause-ends c =
    let takes = rw c.in-Ok-Some.field-0-is at c.in-Ok-Some.ensures.takes in
    let ends = rw c.in-Ok-Some.field-0-is at c.in-Ok-Some.ensures.ends in
    ends_as _ _ _ _ c.runs.ensures.runs c.requires.goes_on takes ends
