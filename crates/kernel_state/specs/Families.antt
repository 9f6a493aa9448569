-- Whose what is left of a call is.
use Rattle.std.specs.Prelude.{Bool, true, false}
use Rattle.xinu_base.specs.declared.processes.Rest.{Rest}
use Rattle.xinu_base.specs.declared.processes.Rest.TheVariants as rest

-- whether it is left of a call on a device
abbrev pub is_on_device : Rest → Bool
is_on_device rest.TtyGet = true
is_on_device (rest.TtyRead part) = true
is_on_device (rest.TtyPut b returned) = true
is_on_device (rest.TtyWrite part returned) = true
is_on_device (rest.Disk reply) = true
is_on_device _ = false
