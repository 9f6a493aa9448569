-- What is left of a call on messages, or of a suspension.
use Rattle.std.specs.Prelude.{Bool, true, false}
use Rattle.xinu_base.specs.declared.processes.Rest.{Rest}
use Rattle.xinu_base.specs.declared.processes.Rest.TheVariants as rest

-- whether a process waits for a message, or suspended itself
abbrev pub is_core : Rest → Bool
is_core rest.Receive = true
is_core rest.Timed = true
is_core rest.SelfSuspend = true
is_core _ = false
