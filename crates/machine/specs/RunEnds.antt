-- What the answer to an event says of the run.
use Rattle.std.specs.Prelude.{Option, Some, None}
use Rattle.machine.specs.declared.machine.Go.{Go}
use Rattle.machine.specs.declared.machine.Go.TheVariants as go
use Rattle.xinu_base.specs.declared.events.End.{End}
use Rattle.xinu_base.specs.declared.events.End.TheVariants.{Done, Panic}

-- how the run ended with the event, if it did
abbrev pub end_of_go : Go → Option End
end_of_go go.Goes = None
end_of_go go.Done = Some Done
end_of_go go.Panic = Some Panic
