use Rattle.races_command.proofs.Ending.{breaks_at_once, long_ends}
use Rattle.races_command.proofs.command.go_through.Goals as goal

pub returns-in_default : goal.returns-in_default
returns-in_default g c = record { goes = λ images is. breaks_at_once _ _ }

pub returns-in-Err : goal.returns-in-Err
returns-in-Err g c = record { goes = λ images is. long_ends _ _ _ c.in-Err.fault _ c.in-Err.ensures.cause }
